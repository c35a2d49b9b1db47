-- What is looked up of what a service did, by the path and the query of a request.
use Rattle.std.specs.Prelude.{ℕ, ◌+◌, ◌-◌, ◌^◌, Bool, ◌==◌, ◌&&◌, nat_le, nat_lt, List, [], ◌∷◌, bytes_eq, codes, drop, is_some, Option, None, Some, option_and_then, option_map, position, take, unwrap_or, Result, Ok, Err, if◌then◌else◌}
use Rattle.lynx_lex.specs.Digits.{read_number}
use Rattle.lynx_lex.specs.Word.{is_name}
use Rattle.lynx_names.specs.declared.limits.TheConstants.{MAX_SERVERS}
use Rattle.lynx_status.specs.declared.asking.Refusal.{Refusal}
use Rattle.lynx_status.specs.declared.asking.Refusal.TheVariants.{BadQuery, NotFound}
use Rattle.lynx_status.specs.declared.fields.Fields.{Fields}
use Rattle.lynx_status.specs.declared.wanted.CellRange.{CellRange}
use Rattle.lynx_status.specs.declared.wanted.Wanted.{Wanted}
use Rattle.lynx_status.specs.declared.wanted.Wanted.TheVariants.{Cell, Cells, Chain, Request}

-- ---- parts of texts

-- what follows a text at the front of another
abbrev pub behind : List ℕ → List ℕ → Option (List ℕ)
behind [] text = Some text
behind (byte ∷ front) [] = None
behind (byte ∷ front) (first ∷ text) = if byte == first then behind front text else None

-- what stands before the first such byte of a text, and what behind it
abbrev pub cut_at : ℕ → List ℕ → Option (List ℕ × List ℕ)
cut_at byte text =
    option_map (λ place. (take place text, drop (place + 1) text))
    (position (λ own. own == byte) text)

-- both numbers, where there are two
abbrev pub both : Option ℕ → Option ℕ → Option (ℕ × ℕ)
both (Some left) (Some right) = Some (left, right)
both left right = None

-- the two numbers that a text spells with such a byte between them
abbrev pub numbers_in : ℕ → List ℕ → Option (ℕ × ℕ)
numbers_in byte text =
    option_and_then (λ halves. both (read_number halves.0) (read_number halves.1))
    (cut_at byte text)

-- ---- queries: `from=F&to=T&limit=L`, in any order

abbrev pub no_fields : Fields
no_fields = record { from = None; to = None; limit = None }

-- a field is given once
abbrev pub once : Option ℕ → Fields → Option Fields
once given fields = if is_some given then None else Some fields

-- the number under that name, with what was given before
abbrev pub with_number : List ℕ → Fields → ℕ → Option Fields
with_number name fields number =
    if bytes_eq name (codes "from") then once fields.from (record fields { from = Some number })
    else (if bytes_eq name (codes "to") then once fields.to (record fields { to = Some number })
    else (if bytes_eq name (codes "limit")
    then once fields.limit (record fields { limit = Some number }) else None))

-- a field: its name, = and its number
abbrev pub with_field : Fields → List ℕ → Option Fields
with_field fields field =
    option_and_then
    (λ halves. option_and_then (with_number halves.0 fields) (read_number halves.1))
    (cut_at 61 field)

-- the first field of a query, and what stands behind its &, where it has one
abbrev pub first_of : List ℕ → Option (List ℕ × List ℕ) → List ℕ × Option (List ℕ)
first_of query None = (query, None)
first_of query (Some halves) = (halves.0, Some halves.1)

abbrev pub first_field : List ℕ → List ℕ × Option (List ℕ)
first_field query = first_of query (cut_at 38 query)

-- one field more, where there is one
abbrev pub one_more : Option (List ℕ) × Fields → Option (Option (List ℕ) × Fields)
one_more (None, fields) = Some (None, fields)
one_more (Some query, fields) =
    option_map (λ more. ((first_field query).1, more)) (with_field fields (first_field query).0)

-- nothing is left
abbrev pub ended : Option (List ℕ) × Fields → Option Fields
ended (None, fields) = Some fields
ended (Some query, fields) = None

-- three fields at most
abbrev pub fields_in : Option (List ℕ) → Option Fields
fields_in query =
    option_and_then ended
    (option_and_then one_more (option_and_then one_more (one_more (query, no_fields))))

-- all keys, and a thousand cells, where nothing is given
abbrev pub range_of : Fields → CellRange
range_of fields = record {
  from = unwrap_or fields.from 0;
  to = unwrap_or fields.to (2 ^ 64 - 1);
  limit = unwrap_or fields.limit 1000;
}

-- a range that doesn't run backwards, and a limit of one to ten thousand
abbrev pub is_fair : CellRange → Bool
is_fair range = nat_le range.from range.to && nat_le 1 range.limit && nat_le range.limit 10000

abbrev pub fair : CellRange → Option CellRange
fair range = if is_fair range then Some range else None

-- the range that a query asks for
abbrev pub range_in : Option (List ℕ) → Option CellRange
range_in query = option_and_then (λ fields. fair (range_of fields)) (fields_in query)

-- ---- what is wanted

abbrev pub or_not_found : Option Wanted → Result Wanted Refusal
or_not_found (Some wanted) = Ok wanted
or_not_found None = Err NotFound

-- a path that takes no query
abbrev pub unqueried : Option (List ℕ) → Result Wanted Refusal → Result Wanted Refusal
unqueried None wanted = wanted
unqueried (Some query) wanted = Err BadQuery

-- `TABLE/KEY`
abbrev pub cell_in : List ℕ → Option ℕ → Option Wanted
cell_in table None = None
cell_in table (Some key) = if is_name table then Some (Cell table key) else None

-- `TABLE`, and the range of the query
abbrev pub cells_in : List ℕ → Option CellRange → Result Wanted Refusal
cells_in table None = Err BadQuery
cells_in table (Some range) =
    or_not_found (if is_name table then Some (Cells table range) else None)

-- the one or the other
abbrev pub table_wanted : Option (List ℕ) → List ℕ → Option (List ℕ × List ℕ)
    → Result Wanted Refusal
table_wanted query rest (Some halves) =
    unqueried query (or_not_found (cell_in halves.0 (read_number halves.1)))
table_wanted query rest None = cells_in rest (range_in query)

-- `CLIENT/NUMBER`
abbrev pub request_in : List ℕ → Option Wanted
request_in rest = option_map (λ numbers. Request numbers.0 numbers.1) (numbers_in 47 rest)

-- `ORIGIN:INDEX`
abbrev pub chain_with : ℕ × ℕ → Option Wanted
chain_with numbers =
    if nat_lt numbers.0 MAX_SERVERS
    then Some (Chain (record { origin = numbers.0; index = numbers.1 })) else None

abbrev pub chain_in : List ℕ → Option Wanted
chain_in rest = option_and_then chain_with (numbers_in 58 rest)

-- what stands behind the first of the three beginnings that a path has
abbrev pub wanted_behind : Option (List ℕ) → Option (List ℕ) → Option (List ℕ) → Option (List ℕ)
    → Option (Result Wanted Refusal)
wanted_behind query (Some rest) requests chains =
    Some (table_wanted query rest (cut_at 47 rest))
wanted_behind query None (Some rest) chains =
    Some (unqueried query (or_not_found (request_in rest)))
wanted_behind query None None (Some rest) = Some (unqueried query (or_not_found (chain_in rest)))
wanted_behind query None None None = None

-- What a path and a query look up, or why that is refused; none where the path is another.
abbrev pub wanted_in : List ℕ → Option (List ℕ) → Option (Result Wanted Refusal)
wanted_in path query =
    wanted_behind query (behind (codes "/cells/") path) (behind (codes "/requests/") path)
    (behind (codes "/chains/") path)
