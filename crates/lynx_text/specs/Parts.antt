-- Reading the parts of a set, line after line; none where a line has a fault.
use Rattle.std.specs.Prelude.{ℕ, zero, suc, ◌-◌, ◌^◌, Bool, not, ◌&&◌, List, [], ◌∷◌, ◌++◌, Option, Some, None, length, map, is_none, nat_lt, nat_le, ◌==◌, if◌then◌else◌, codes}
use Rattle.std.specs.Str.{bytes_eq}
use Rattle.lynx_shards.specs.declared.range.Range.{Range}
use Rattle.lynx_shards.specs.declared.shard.Shard.{Shard}
use Rattle.lynx_shards.specs.Ranges.{range_fault, last_key, next_key, shard_of}
use Rattle.lynx_set.specs.declared.action.Action.{Action}
use Rattle.lynx_lex.specs.Digits.{read_number}
use Rattle.lynx_lex.specs.Lines.{◌>>=◌, is_feed, only_if}
use Rattle.lynx_text.specs.Pieces.{one_after, after_version, ends, next_words, begins}
use Rattle.std.specs.List.{slice_split}
use Rattle.lynx_names.specs.declared.limits.TheConstants.{MAX_ACTIONS, MAX_HOPS, MAX_PARAMETERS, MAX_PROGRAMS, MAX_SERVERS, MAX_SHARDS, MAX_TABLES, MAX_TEXT_BYTES}
use Rattle.lynx_set.specs.declared.version.Version.{Version}
use Rattle.lynx_set.specs.Plain.{PlainProgram, PlainSet}
use Rattle.lynx_set.specs.Names.{place_of}
use Rattle.lynx_set.specs.Scopes.{scope_in}
use Rattle.lynx_text.specs.Reading.{name_of, new_name, action_of}
use Rattle.lynx_text.specs.Ranges.{goes_range, next_range}

-- servers N
unfoldable pub servers_of : List (List ℕ) → Option ℕ
servers_of words = do
  word ← one_after (codes "servers") words
  count ← read_number word
  only_if (nat_le 1 count && nat_le count MAX_SERVERS) count

-- table NAME
unfoldable pub table_line : List (List ℕ) → List (List ℕ) → Option (List ℕ)
table_line tables words = do
  word ← one_after (codes "table") words
  ok ← only_if {X = Unit {0}} (nat_lt (length tables) MAX_TABLES) tt
  name ← name_of word
  only_if (is_none (place_of tables name)) name

-- shard LOW HIGH SERVER
unfoldable pub shard_line : ℕ → List (List ℕ) → Option Range
shard_line count (word ∷ low ∷ high ∷ server ∷ []) = do
  first ← only_if {X = Unit {0}} (bytes_eq word (codes "shard")) tt
  ok ← only_if {X = Unit {0}} (nat_lt count MAX_SHARDS) tt
  l ← read_number low
  h ← read_number high
  s ← read_number server
  Some (record { low = l; high = h; server = s })
shard_line count words = None

-- the names of parameters, after those known
abbrev pub parameters_of : List (List ℕ) → List (List ℕ) → Option (List (List ℕ))
parameters_of names [] = Some names
parameters_of names (word ∷ words) =
    new_name names word >>= λ name. parameters_of (names ++ name ∷ []) words

-- program NAME PARAMETER..
unfoldable pub program_line : List (List ℕ) → List (List ℕ) → Option (List ℕ × List (List ℕ))
program_line programs (word ∷ first ∷ words) = do
  is ← only_if {X = Unit {0}} (bytes_eq word (codes "program")) tt
  ok ← only_if {X = Unit {0}}
      (nat_lt (length programs) MAX_PROGRAMS && nat_le (length words) MAX_PARAMETERS) tt
  name ← name_of first
  new ← only_if {X = Unit {0}} (is_none (place_of programs name)) tt
  names ← parameters_of [] words
  Some (name, names)
program_line programs words = None

-- hop SERVER
unfoldable pub hop_line : ℕ → ℕ → List (List ℕ) → Option ℕ
hop_line servers hops words = do
  word ← one_after (codes "hop") words
  ok ← only_if {X = Unit {0}} (nat_lt hops MAX_HOPS) tt
  server ← read_number word
  only_if (nat_lt server servers) server

-- end
abbrev pub end_line : List (List ℕ) → Option (Unit {0})
end_line (word ∷ []) = only_if (bytes_eq word (codes "end")) tt
end_line words = None

-- parts one after another as long as the test says so, and no more of them than there is room for
unfoldable pub parts : {S : Type 0} → (List (List ℕ) → Bool)
    → (S → List (List ℕ) → Option (S × List (List ℕ))) → ℕ → S → List (List ℕ)
    → Option (S × List (List ℕ))
parts goes part zero s lines = if goes lines then None else Some (s, lines)
parts goes part (suc room) s lines =
    if goes lines then (part s lines >>= λ next. parts goes part room next.0 next.1) else Some
    (s, lines)

-- one more shard
unfoldable pub next_shard : ℕ → List Shard → List (List ℕ) → Option (List Shard × List (List ℕ))
next_shard servers shards lines = do
  words ← next_words lines
  range ← shard_line (length shards) words.0
  ok ← only_if {X = Unit {0}}
      (is_none (range_fault servers (last_key None shards) range.low range.high range.server)) tt
  Some (shards ++ shard_of range ∷ [], words.1)

abbrev pub goes_shard : List (List ℕ) → Bool
goes_shard lines = begins lines (codes "shard")

-- one more table and its shards
unfoldable pub next_table : PlainSet → List (List ℕ) → Option (PlainSet × List (List ℕ))
next_table set lines = do
  words ← next_words lines
  name ← table_line set.tables words.0
  read ← parts goes_shard (next_shard set.servers) MAX_SHARDS [] words.1
  ok ← only_if {X = Unit {0}} (next_key (last_key None read.0) == 2 ^ 64) tt
  Some (record set { tables = set.tables ++ name ∷ []; shards = set.shards ++ read.0 ∷ [] }, read.1)

abbrev pub goes_table : List (List ℕ) → Bool
goes_table lines = begins lines (codes "table")

-- a program with the name that a line binds, if it binds one
abbrev pub with_name : PlainProgram → Option (List ℕ) → PlainProgram
with_name program None = program
with_name program (Some name) = record program { names = program.names ++ name ∷ [] }

-- one more action of a hop
unfoldable pub next_action : PlainSet → ℕ → PlainProgram × List Action → List (List ℕ)
    → Option ((PlainProgram × List Action) × List (List ℕ))
next_action set server hop lines = do
  words ← next_words lines
  line ← action_of (scope_in set server hop.0 hop.1) words.0
  Some ((with_name hop.0 line.binds, hop.1 ++ line.action ∷ []), words.1)

abbrev pub goes_action : List (List ℕ) → Bool
goes_action lines = not (begins lines (codes "hop")) && not (begins lines (codes "end"))

-- one more hop and its actions
unfoldable pub next_hop : PlainSet → PlainProgram → List (List ℕ)
    → Option (PlainProgram × List (List ℕ))
next_hop set program lines = do
  words ← next_words lines
  server ← hop_line set.servers (length program.hops) words.0
  first ← next_action set server (program, []) words.1
  read ← parts goes_action (next_action set server) (MAX_ACTIONS - length first.0.1) first.0 first.1
  Some (
    record
        read.0.0 { hops = read.0.0.hops ++ (record { server = server; actions = read.0.1 }) ∷ [] },
    read.1,
  )

abbrev pub goes_hop : List (List ℕ) → Bool
goes_hop lines = begins lines (codes "hop")

-- a program's name and parameters with their ranges
unfoldable pub program_head : PlainSet → List (List ℕ)
    → Option ((List ℕ × PlainProgram) × List (List ℕ))
program_head set lines = do
  words ← next_words lines
  head ← program_line (map (λ named. named.0) set.programs) words.0
  read ← parts (goes_range set.version) next_range MAX_PARAMETERS
      (record { parameters = length head.1; names = head.1; ranges = []; hops = [] }) words.1
  Some ((head.0, read.0), read.1)

-- one more program, with its hops and its end
unfoldable pub next_program : PlainSet → List (List ℕ) → Option (PlainSet × List (List ℕ))
next_program set lines = do
  head ← program_head set lines
  first ← next_hop set head.0.1 head.1
  read ← parts goes_hop (next_hop set) (MAX_HOPS - length first.0.hops) first.0 first.1
  last ← next_words read.1
  ok ← end_line last.0
  Some (record set { programs = set.programs ++ (head.0.0, read.0) ∷ [] }, last.1)

abbrev pub goes_program : List (List ℕ) → Bool
goes_program lines = begins lines (codes "program")

-- a set of that version, after the version's line
unfoldable pub set_at : Version → List (List ℕ) → Option PlainSet
set_at version lines = do
  words ← next_words lines
  servers ← servers_of words.0
  tables ← parts goes_table next_table MAX_TABLES
      (record { version = version; servers = servers; tables = []; shards = []; programs = [] })
      words.1
  programs ← parts goes_program next_program MAX_PROGRAMS tables.0 tables.1
  only_if (ends programs.1) programs.0

-- a set, from the version's line on
unfoldable pub lines_at : List (List ℕ) → Option PlainSet
lines_at lines = after_version lines >>= λ begun. set_at begun.0 begun.1

-- a set, from its whole text
abbrev pub read_text : List ℕ → Option PlainSet
read_text text =
    if nat_le (length text) MAX_TEXT_BYTES then lines_at (slice_split is_feed text) else None
