-- A program that a set has is the same in a set that extends it: what is asked of requests, messages and hops of it is the same.
use Rattle.std.proofs.Common.{◌≡◌, ◌∙◌, ℕ, zero, suc, ◌<◌, List, [], ◌∷◌, ◌++◌, map, take, drop, length, Option, Some, None, slice_get, option_map, option_and_then, unwrap_or, refl, ap, sym, subst}
use Rattle.std.specs.Prelude.{◌==◌, ◌&&◌, not, if◌then◌else◌, nat_lt, nat_eq, filter, slice_index, IsNone, IsTrue}
use Rattle.std.specs.List.{flat_map, list_all, range_with_len}
use Rattle.std.specs.Cmp.Lexicographic.{pointwise}
use Rattle.std.proofs.lemmas.Option.{slice_get-map, slice_get_within}
use Rattle.lynx_names.specs.declared.limits.TheConstants.{MAX_SERVERS}
use Rattle.lynx_names.specs.declared.numbers.NumberAt.{NumberAt}
use Rattle.lynx_cells.specs.Database.{Database}
use Rattle.lynx_shards.specs.Shards.{server_in, server_of}
use Rattle.lynx_set.specs.declared.action.Action.{Action}
use Rattle.lynx_set.specs.declared.action.Action.TheVariants.{Get, Update, Let, Need}
use Rattle.lynx_set.specs.declared.action.Key.{Key}
use Rattle.lynx_set.specs.declared.action.Key.TheVariants.{Literal, Param}
use Rattle.lynx_set.specs.declared.program.Hop.{Hop}
use Rattle.lynx_set.specs.declared.program.Program.{Program}
use Rattle.lynx_set.specs.Lookups.{actions_at, cell_of, hop_at, hops_of, program_at, server_at}
use Rattle.lynx_set.specs.Intervals.{are_in_range}
use Rattle.lynx_set.specs.Plain.{PlainHop, PlainProgram, PlainSet, plain_hop, plain_named, plain_set}
use Rattle.lynx_set.specs.Rules.{FitActions, FitHops, FitPrograms, IsSet, next_scope, no_programs, with_hop, with_program}
use Rattle.lynx_set.specs.Scopes.{PlainScope, scope_in}
use Rattle.lynx_set.specs.Set.{Set}
use Rattle.lynx_extend.specs.Extends.{Extends}
use Rattle.lynx_hops.specs.Meaning.{meaning, run}
use Rattle.lynx_entry.specs.declared.answer.Answer.TheVariants.{WrongOrigin, ArgCount, OutsideRange, WrongShard}
use Rattle.lynx_entry.specs.declared.message.Message.{Message}
use Rattle.lynx_entry.specs.declared.request.Request.{Request}
use Rattle.lynx_entry.specs.Entry.{History}
use Rattle.lynx_rules.specs.Checks.{are_keys_placed, fits_hop, fits_program, has_begun, is_action_at, is_well_formed, request_fault, request_fault_in, result_count}
use Rattle.lynx_rules.specs.Visits.{is_last_at, is_origin, leaves_by_first, starts_at, visited, visits}

-- ---- the cells of a set's programs are of its tables

abbrev IsCellIn : ℕ → Option (ℕ × Key) → Type 0
IsCellIn tables (Some cell) = cell.0 < tables
IsCellIn tables None = Unit {0}

abbrev AreCellsIn : ℕ → List Action → Type 0
AreCellsIn tables [] = Unit {0}
AreCellsIn tables (action ∷ actions) = IsCellIn tables (cell_of action) × AreCellsIn tables actions

abbrev pub AreHopsIn : ℕ → List PlainHop → Type 0
AreHopsIn tables [] = Unit {0}
AreHopsIn tables (hop ∷ hops) = AreCellsIn tables hop.actions × AreHopsIn tables hops

cells_in : (scope : PlainScope) (actions : List Action) (after : List (List ℕ)) → FitActions scope actions after → AreCellsIn (length scope.tables) actions
cells_in scope [] after fit = tt
cells_in scope (Get table key ∷ actions) after fit = (fit.1.table_is, cells_in (next_scope scope fit.2) actions after fit.4)
cells_in scope (Update update table key value ∷ actions) after fit = (fit.1.0.table_is, cells_in (next_scope scope fit.2) actions after fit.4)
cells_in scope (Let left operator right ∷ actions) after fit = (tt, cells_in (next_scope scope fit.2) actions after fit.4)
cells_in scope (Need left relation right ∷ actions) after fit = (tt, cells_in (next_scope scope fit.2) actions after fit.4)

hops_in : (set : PlainSet) (program : PlainProgram) (hops : List PlainHop) (after : List (List ℕ)) → FitHops set program hops after → AreHopsIn (length set.tables) hops
hops_in set program [] after fit = tt
hops_in set program (hop ∷ hops) after fit =
    (cells_in (scope_in set hop.server program []) hop.actions fit.3 fit.4, hops_in set (with_hop program hop fit.3) hops after fit.5)

programs_in : (set : PlainSet) (programs : List (List ℕ × PlainProgram)) (place : ℕ) (named : List ℕ × PlainProgram) → FitPrograms set programs →
    slice_get programs place ≡ Some named → AreHopsIn (length set.tables) named.1.hops
programs_in set [] place named fit there = cc
programs_in set (first ∷ programs) zero named fit there =
    let same : first ≡ named = cc in
    let start : PlainProgram = record { parameters = length fit.2.parameters; names = fit.2.parameters; ranges = first.1.ranges; hops = [] } in
    subst (λ (n : List ℕ × PlainProgram). AreHopsIn (length set.tables) n.1.hops) same (hops_in set start first.1.hops first.1.names fit.2.hops)
programs_in set (first ∷ programs) (suc place) named fit there = programs_in (with_program set first) programs place named fit.3 there

pub program_in : (set : Set) (program : ℕ) (found : Program) → IsSet set → program_at set program ≡ Some found → AreHopsIn (length set.tables) (map plain_hop found.hops)
program_in set program found is there = by (slice_get set.programs program) refl there
  where
    by : (o : Option (List ℕ × Program)) → slice_get set.programs program ≡ o → option_map (λ (n : List ℕ × Program). n.1) o ≡ Some found →
        AreHopsIn (length set.tables) (map plain_hop found.hops)
    by None at it = cc
    by (Some named) at it =
        let same : named.1 ≡ found = cc in
        subst (λ (p : Program). AreHopsIn (length set.tables) (map plain_hop p.hops)) same
        (programs_in (no_programs (plain_set set)) (map plain_named set.programs) program (plain_named named) is.0.3
        (slice_get-map plain_named set.programs program ∙ ap (option_map plain_named) at))

-- ---- a program that is there

-- the set has the program
abbrev pub Has : Set → ℕ → Type 0
Has set program = (found : Program) × (program_at set program ≡ Some found)

-- the program is the same in both
abbrev pub IsSameAt : Set → Set → ℕ → Type 0
IsSameAt old new program = program_at new program ≡ program_at old program

pub same_at : (old new : Set) (program : ℕ) → Extends old new → Has old program → IsSameAt old new program
same_at old new program extends has = by (slice_get old.programs program) refl has.1
  where
    by : (o : Option (List ℕ × Program)) → slice_get old.programs program ≡ o → option_map (λ (n : List ℕ × Program). n.1) o ≡ Some has.0 → IsSameAt old new program
    by None at it = cc
    by (Some named) at it = ap (option_map (λ (n : List ℕ × Program). n.1)) (extends.programs program (slice_get_within old.programs program named at))

pub hops_same : (old new : Set) (program : ℕ) → IsSameAt old new program → hops_of new program ≡ hops_of old program
hops_same old new program same = ap (λ (o : Option Program). unwrap_or (option_map (λ (p : Program). p.hops) o) []) same

pub hop_same : (old new : Set) (program hop : ℕ) → IsSameAt old new program → hop_at new program hop ≡ hop_at old program hop
hop_same old new program hop same = ap (λ (o : Option Program). option_and_then (λ (p : Program). slice_get p.hops hop) o) same

pub actions_same : (old new : Set) (program hop : ℕ) → IsSameAt old new program → actions_at new program hop ≡ actions_at old program hop
actions_same old new program hop same = ap (λ (o : Option Hop). unwrap_or (option_map (λ (h : Hop). h.actions) o) []) (hop_same old new program hop same)

pub server_same : (old new : Set) (program hop : ℕ) → IsSameAt old new program → server_at new program hop ≡ server_at old program hop
server_same old new program hop same = ap (option_map (λ (h : Hop). h.server)) (hop_same old new program hop same)

pub meaning_same : (old new : Set) (program hop : ℕ) (args : List ℕ) (earlier : List (List ℕ)) (db : Database) → IsSameAt old new program →
    meaning new program hop args earlier db ≡ meaning old program hop args earlier db
meaning_same old new program hop args earlier db same =
    ap (λ (actions : List Action). run args 0 actions (args ++ flat_map (λ (results : List ℕ). results) earlier) db) (actions_same old new program hop same)

pub visits_same : (old new : Set) (program server : ℕ) → IsSameAt old new program → visits (hops_of new program) server ≡ visits (hops_of old program) server
visits_same old new program server same = ap (λ (hops : List Hop). visits hops server) (hops_same old new program same)

pub visited_same : (old new : Set) (program : ℕ) → IsSameAt old new program → visited new program ≡ visited old program
unfolding visited
visited_same old new program same =
    ap (λ (hops : List Hop). filter (λ (server : ℕ). visits hops server) (range_with_len 0 MAX_SERVERS)) (hops_same old new program same)

origin_same : (old new : Set) (program server : ℕ) → IsSameAt old new program → is_origin new program server ≡ is_origin old program server
origin_same old new program server same = ap (λ (hops : List Hop). starts_at hops server) (hops_same old new program same)

pub last_same : (old new : Set) (server program hop : ℕ) → IsSameAt old new program → is_last_at new server program hop ≡ is_last_at old server program hop
last_same old new server program hop same = ap (λ (hops : List Hop). leaves_by_first (drop hop hops) server) (hops_same old new program same)

-- ---- keys are at the same servers

key_same : (old new : Set) (table key : ℕ) → Extends old new → table < length old.tables → server_of new.shards table key ≡ server_of old.shards table key
key_same old new table key extends within = ap (λ o. server_in (unwrap_or o []) key) (extends.tables table within).shards

action_same : (old new : Set) (server : ℕ) (args : List ℕ) (action : Action) → Extends old new → IsCellIn (length old.tables) (cell_of action) →
    is_action_at new server args action ≡ is_action_at old server args action
action_same old new server args (Get table (Literal key)) extends is = refl
action_same old new server args (Get table (Param place)) extends is = ap (λ s. s == server) (key_same old new table (slice_index args place) extends is)
action_same old new server args (Update update table (Literal key) value) extends is = refl
action_same old new server args (Update update table (Param place) value) extends is = ap (λ s. s == server) (key_same old new table (slice_index args place) extends is)
action_same old new server args (Let left operator right) extends is = refl
action_same old new server args (Need left relation right) extends is = refl

actions_placed : (old new : Set) (server : ℕ) (args : List ℕ) (actions : List Action) → Extends old new → AreCellsIn (length old.tables) actions →
    list_all (is_action_at new server args) actions ≡ list_all (is_action_at old server args) actions
actions_placed old new server args [] extends are = refl
actions_placed old new server args (action ∷ actions) extends are =
    λ i. action_same old new server args action extends are.0 i && actions_placed old new server args actions extends are.1 i

keys_placed : (old new : Set) (args : List ℕ) (hops : List Hop) → Extends old new → AreHopsIn (length old.tables) (map plain_hop hops) →
    are_keys_placed new args hops ≡ are_keys_placed old args hops
keys_placed old new args [] extends are = refl
keys_placed old new args (hop ∷ hops) extends are =
    λ i. actions_placed old new hop.server args hop.actions extends are.0 i && keys_placed old new args hops extends are.1 i

-- ---- what is wrong with a request

pub request_has : (set : Set) (server : ℕ) (request : Request) → IsNone (request_fault set server request) → Has set request.program
request_has set server request none = by (program_at set request.program) refl none
  where
    by : (o : Option Program) → program_at set request.program ≡ o → IsNone (request_fault_in set server request o) → Has set request.program
    by None at none = cc
    by (Some found) at none = (found, at)

pub fault_same : (old new : Set) (server : ℕ) (request : Request) → IsSet old → Extends old new → Has old request.program →
    request_fault new server request ≡ request_fault old server request
fault_same old new server request is extends has =
    ap (request_fault_in new server request) (same ∙ has.1) ∙ both ∙ ap (request_fault_in old server request) (sym has.1)
  where
    same : IsSameAt old new request.program
    same = same_at old new request.program extends has

    both : request_fault_in new server request (Some has.0) ≡ request_fault_in old server request (Some has.0)
    both = λ i. if not (origin_same old new request.program server same i) then Some WrongOrigin
        else (if not (length request.args == has.0.parameters) then Some ArgCount
        else (if not (are_in_range has.0.ranges request.args) then Some OutsideRange
        else (if not (keys_placed old new request.args has.0.hops extends (program_in old request.program has.0 is has.1) i) then Some WrongShard
        else None)))

-- ---- which messages the set allows

pub formed_has : (set : Set) (server : ℕ) (history : History) (message : Message) → IsTrue (is_well_formed set server history message) → Has set message.program
formed_has set server history message is = by (program_at set message.program) refl is
  where
    by : (o : Option Program) → program_at set message.program ≡ o → IsTrue (fits_program set server message o && has_begun server history message) → Has set message.program
    by None at is = cc
    by (Some found) at is = (found, at)

pub formed_same : (old new : Set) (server : ℕ) (history : History) (message : Message) → IsSet old → Extends old new → Has old message.program →
    is_well_formed new server history message ≡ is_well_formed old server history message
formed_same old new server history message is extends has =
    ap (λ b. b && has_begun server history message)
    (ap (fits_program new server message) (same ∙ has.1) ∙ hops (slice_get has.0.hops message.hop) ∙ ap (fits_program old server message) (sym has.1))
  where
    same : IsSameAt old new message.program
    same = same_at old new message.program extends has

    hops : (o : Option Hop) → fits_hop new server message has.0 o ≡ fits_hop old server message has.0 o
    hops None = refl
    hops (Some hop) = λ i. nat_lt 0 message.hop
        && (hop.server == server)
        && origin_same old new message.program message.chain.origin same i
        && (has.0.parameters == length message.args)
        && (are_in_range has.0.ranges message.args && keys_placed old new message.args has.0.hops extends (program_in old message.program has.0 is has.1) i)
        && pointwise nat_eq (map (λ (number : NumberAt). number.server) message.numbers) (visited_same old new message.program same i)
        && pointwise nat_eq (map length message.results) (map result_count (take message.hop has.0.hops))
