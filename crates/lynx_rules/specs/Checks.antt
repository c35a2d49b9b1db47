-- What a request and a message are asked before they are served.
use Rattle.std.specs.Prelude.{ℕ, ◌==◌, ◌&&◌, ◌||◌, Bool, true, false, not, if◌then◌else◌, nat_lt, List, length, map, take, Option, Some, None, slice_get, count_by}
use Rattle.std.specs.List.{list_all, list_any}
use Rattle.std.specs.Cmp.Lexicographic.{pointwise}
use Rattle.std.specs.Prelude.{nat_eq}
use Rattle.lynx_set.specs.declared.action.Action.{Action}
use Rattle.lynx_set.specs.declared.action.Key.{Key}
use Rattle.lynx_set.specs.declared.action.Key.TheVariants.{Literal, Param}
use Rattle.lynx_set.specs.declared.program.Hop.{Hop}
use Rattle.lynx_set.specs.declared.program.Program.{Program}
use Rattle.lynx_set.specs.Set.{Set}
use Rattle.lynx_shards.specs.Shards.{server_of}
use Rattle.lynx_hops.specs.Meaning.{key_of}
use Rattle.lynx_entry.specs.declared.answer.Answer.{Answer}
use Rattle.lynx_entry.specs.declared.answer.Answer.TheVariants.{UnknownProgram, WrongOrigin, ArgCount, OutsideRange, WrongShard}
use Rattle.lynx_entry.specs.declared.request.Request.{Request}
use Rattle.lynx_entry.specs.declared.message.Message.{Message}
use Rattle.lynx_names.specs.declared.numbers.NumberAt.{NumberAt}
use Rattle.lynx_entry.specs.declared.entry.Entry.{Entry}
use Rattle.lynx_entry.specs.declared.entry.Entry.TheVariants.{Begun, Refused, Hop as HopRan}
use Rattle.lynx_entry.specs.Entry.{History}
use Rattle.lynx_rules.specs.Visits.{is_origin, visited}
use Rattle.lynx_set.specs.Intervals.{are_in_range}
use Rattle.lynx_set.specs.Lookups.{binds, cell_of, program_at}

-- a key that is a parameter names a cell of the server; a literal was judged with the set's text
abbrev pub is_key_at : Set → ℕ → List ℕ → ℕ → Key → Bool
is_key_at set server args table (Literal key) = true
is_key_at set server args table (Param place) =
    server_of set.shards table (key_of args (Param place)) == server

abbrev pub is_cell_at : Set → ℕ → List ℕ → Option (ℕ × Key) → Bool
is_cell_at set server args (Some cell) = is_key_at set server args cell.0 cell.1
is_cell_at set server args None = true

abbrev pub is_action_at : Set → ℕ → List ℕ → Action → Bool
is_action_at set server args action = is_cell_at set server args (cell_of action)

-- each hop's cells are at the hop's server
abbrev pub are_keys_placed : Set → List ℕ → List Hop → Bool
are_keys_placed set args hops =
    list_all (λ hop. list_all (is_action_at set hop.server args) hop.actions) hops

-- the arguments are in their ranges, and each hop's cells at the hop's server
abbrev pub do_args_fit : Set → List ℕ → Program → Bool
do_args_fit set args program =
    are_in_range program.ranges args && are_keys_placed set args program.hops

-- what is wrong with a request at this server, in the order in which it is judged
abbrev pub request_fault_in : Set → ℕ → Request → Option Program → Option Answer
request_fault_in set server request None = Some UnknownProgram
request_fault_in set server request (Some program) =
    if not (is_origin set request.program server) then Some WrongOrigin
    else (if not (length request.args == program.parameters) then Some ArgCount
    else (if not (are_in_range program.ranges request.args) then Some OutsideRange
    else (if not (are_keys_placed set request.args program.hops) then Some WrongShard
    else None)))

abbrev pub request_fault : Set → ℕ → Request → Option Answer
request_fault set server request =
    request_fault_in set server request (program_at set request.program)

-- how many values a hop gives: one for each name that it binds
abbrev pub result_count : Hop → ℕ
result_count hop = count_by binds hop.actions

-- two lists of numbers that are the same
abbrev pub same_numbers : List NumberAt → List NumberAt → Bool
same_numbers left right =
    pointwise (λ a b. (a.server == b.server) && (a.number == b.number)) left right

-- an entry in which this very chain began
abbrev pub begins : Message → Entry → Bool
begins message (Begun begun) =
    (begun.chain.origin == message.chain.origin) && (begun.chain.index == message.chain.index)
    && (begun.request.program == message.program)
    && pointwise nat_eq begun.request.args message.args
    && same_numbers begun.numbers message.numbers
begins message (Refused refused) = false
begins message (HopRan ran) = false

-- what a message of a program and one of its hops is asked, where the program visits these servers
abbrev pub fits : Set → ℕ → Message → Program → Hop → List ℕ → Bool
fits set server message program hop servers =
    nat_lt 0 message.hop
    && (hop.server == server)
    && is_origin set message.program message.chain.origin
    && (program.parameters == length message.args)
    && do_args_fit set message.args program
    && pointwise nat_eq (map (λ number. number.server) message.numbers) servers
    && pointwise nat_eq (map length message.results)
    (map result_count (take message.hop program.hops))

abbrev pub fits_hop : Set → ℕ → Message → Program → Option Hop → Bool
fits_hop set server message program (Some hop) =
    fits set server message program hop (visited set message.program)
fits_hop set server message program None = false

abbrev pub fits_program : Set → ℕ → Message → Option Program → Bool
fits_program set server message (Some program) =
    fits_hop set server message program (slice_get program.hops message.hop)
fits_program set server message None = false

-- a chain of this origin began here
abbrev pub has_begun : ℕ → History → Message → Bool
has_begun server history message =
    not (message.chain.origin == server) || list_any (begins message) history

-- A message that the set and this server's own begins allow: a later hop of a program of the set,
-- at this server, with that program's origin and count of arguments, in their ranges, keys at their
-- servers, a number for each visited server, and as many earlier results as are declared; a chain
-- of this origin began here.
abbrev pub is_well_formed : Set → ℕ → History → Message → Bool
is_well_formed set server history message =
    fits_program set server message (program_at set message.program) && has_begun server history
    message
