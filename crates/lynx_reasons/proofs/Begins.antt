-- A program that can never begin, as its actions alone show it, begins nowhere.
use Rattle.std.proofs.Common.{◌≡◌, ◌∙◌, ℕ, zero, suc, ◌+◌, ◌<◌, ◌^◌, Bool, true, false, cond, not, eqb, List, [], ◌∷◌, ◌++◌, map, length, take, drop, Option, Some, None, Ok, Err, refl, sym, ap, subst, ⊎_elim, arith}
use Rattle.std.specs.Prelude.{All, IsNone, ◌==◌, find, nat_eq, option_and_then, option_map, slice_get, slice_index, unwrap_or}
use Rattle.std.specs.Cmp.Lexicographic.{pointwise, pointwise_decides}
use Rattle.std.specs.List.{flat_map, list_all}
use Rattle.std.specs.Option.{option_map_or}
use Rattle.std.proofs.lemmas.Bool.{and_from, and_parts, cases_lt, cond_both, eqb-true, false≢true, ne_eqb, not-false, not-true}
use Rattle.std.proofs.lemmas.Bool.Decides.{Decides-eqb}
use Rattle.std.proofs.lemmas.List.{get_or_past, length_push, take-append-drop}
use Rattle.std.proofs.lemmas.List.Elements.{All-get_or}
use Rattle.std.proofs.lemmas.List.Folds.{list_all-append, list_all-map}
use Rattle.std.proofs.lemmas.Option.{none-some, same_Some, slice_get-map}
use Rattle.lynx_names.specs.declared.chain.ChainId.{ChainId}
use Rattle.lynx_cells.specs.Database.{Database, value_at, with_value}
use Rattle.lynx_set.specs.declared.action.Action.{Action}
use Rattle.lynx_set.specs.declared.action.Action.TheVariants.{Get, Update, Let, Need}
use Rattle.lynx_set.specs.declared.action.Key.{Key}
use Rattle.lynx_set.specs.declared.action.Key.TheVariants.{Literal, Param}
use Rattle.lynx_set.specs.declared.action.Operand.{Operand}
use Rattle.lynx_set.specs.declared.action.Operand.TheVariants.{Number, Name}
use Rattle.lynx_set.specs.declared.action.Relation.{Relation}
use Rattle.lynx_set.specs.declared.interval.Interval.{Interval}
use Rattle.lynx_set.specs.declared.program.Hop.{Hop as ProgramHop}
use Rattle.lynx_set.specs.declared.program.ParameterRange.{ParameterRange}
use Rattle.lynx_set.specs.declared.program.Program.{Program}
use Rattle.lynx_set.specs.Intervals.{are_in_range, holds, range_of}
use Rattle.lynx_set.specs.Lookups.{actions_at, hop_at, hops_of, program_at, ranges_of}
use Rattle.lynx_set.specs.Plain.{PlainHop, PlainProgram, PlainSet, plain_hop, plain_named, plain_set}
use Rattle.lynx_set.specs.Rules.{FitActions, FitHops, FitPrograms, FitsAction, IsSet, next_scope, no_programs, with_hop, with_program}
use Rattle.lynx_set.specs.Scopes.{PlainScope, scope_in}
use Rattle.lynx_set.specs.Set.{Set}
use Rattle.lynx_shards.specs.Shards.{server_of}
use Rattle.lynx_hops.specs.Meaning.{HopOutcome, after_results, is_met, key_of, meaning, result_of, run, updated, value_of}
use Rattle.lynx_entry.specs.declared.answer.Answer.{Answer}
use Rattle.lynx_entry.specs.declared.answer.Answer.TheVariants as answers
use Rattle.lynx_entry.specs.declared.entry.BegunEntry.{BegunEntry}
use Rattle.lynx_entry.specs.declared.entry.Entry.{Entry}
use Rattle.lynx_entry.specs.declared.entry.Entry.TheVariants.{Begun, Hop, Refused}
use Rattle.lynx_entry.specs.declared.request.Request.{Request}
use Rattle.lynx_entry.specs.Entry.{History}
use Rattle.lynx_rules.specs.Answers.{Begins, answer, answer_new, answer_recorded, begun_by, is_busy, is_full, only, recorded_answer, same_call}
use Rattle.lynx_rules.specs.Checks.{are_keys_placed, is_action_at, is_key_at, request_fault, request_fault_in}
use Rattle.lynx_rules.specs.Lawful.{IsLawful, is_record_of, record_of}
use Rattle.lynx_rules.specs.Tables.{tables_of}
use Rattle.lynx_rules.specs.Visits.{is_origin}
use Rattle.lynx_reasons.specs.declared.never.first.NeverAt.{NeverAt}
use Rattle.lynx_reasons.specs.Begins.{actions_to, first_never, is_argument, is_false, is_home, is_key_home, is_left, is_never, is_stuck, stops, with_server}
use Rattle.lynx_reasons.specs.Begins.{action_places}
use Rattle.lynx_reasons.proofs.Below.{some_below-from}
use Rattle.lynx_reasons.proofs.Firsts.{find-true}
use Rattle.lynx_reasons.specs.Never.{EachIsLawful}

-- ---- lists of which all pass

passes_at : {X : Type 0} (test : X → Bool) (xs : List X) (k : ℕ) (x : X) → list_all test xs ≡ true → slice_get xs k ≡ Some x → test x ≡ true
passes_at test [] k x all is = absurd (none-some x is)
passes_at {X} test (first ∷ xs) zero x all is = subst (λ (y : X). test y ≡ true) (same_Some first x is) (and_parts (test first) (list_all test xs) all).0
passes_at test (first ∷ xs) (suc k) x all is = passes_at test xs k x (and_parts (test first) (list_all test xs) all).1 is

all_taken : {X : Type 0} (test : X → Bool) (n : ℕ) (xs : List X) → list_all test xs ≡ true → list_all test (take n xs) ≡ true
all_taken test n xs all =
    (and_parts (list_all test (take n xs)) (list_all test (drop n xs))
    (sym (list_all-append test (take n xs) (drop n xs)) ∙ ap (list_all test) (take-append-drop n xs) ∙ all)).0

all_pass : {X : Type 0} (test other : X → Bool) (xs : List X) → ((x : X) → test x ≡ true → other x ≡ true) → list_all test xs ≡ true → list_all other xs ≡ true
all_pass test other [] gives all = refl
all_pass test other (x ∷ xs) gives all =
    let parts = and_parts (test x) (list_all test xs) all in
    and_from (other x) (list_all other xs) (gives x parts.0) (all_pass test other xs gives parts.1)

-- ---- arguments that a server takes are left by all actions

argument_fits : (ranges : List ParameterRange) (args : List ℕ) (parameter : ℕ) → are_in_range ranges args ≡ true → is_argument ranges parameter (slice_index args parameter) ≡ true
argument_fits [] args parameter fit = refl
argument_fits (range ∷ ranges) args parameter fit = by (eqb range.parameter parameter) refl (argument_fits ranges args parameter parts.1)
  where
    parts : (holds range.interval (slice_index args range.parameter) ≡ true) × (are_in_range ranges args ≡ true)
    parts = and_parts (holds range.interval (slice_index args range.parameter)) (are_in_range ranges args) fit

    by : (test : Bool) → eqb range.parameter parameter ≡ test → is_argument ranges parameter (slice_index args parameter) ≡ true →
        is_argument (range ∷ ranges) parameter (slice_index args parameter) ≡ true
    by true is later =
        ap (λ b. option_map_or (λ (interval : Interval). holds interval (slice_index args parameter)) (cond b (Some range.interval) (range_of ranges parameter)) true) is
        ∙ subst (λ (p : ℕ). holds range.interval (slice_index args p) ≡ true) (eqb-true range.parameter parameter is) parts.0
    by false is later =
        ap (λ b. option_map_or (λ (interval : Interval). holds interval (slice_index args parameter)) (cond b (Some range.interval) (range_of ranges parameter)) true) is
        ∙ later

key_home : (set : Set) (args : List ℕ) (parameter server table : ℕ) (key : Key) → is_key_at set server args table key ≡ true →
    is_key_home set.shards parameter (slice_index args parameter) server table key ≡ true
key_home set args parameter server table (Literal key) at = refl
key_home set args parameter server table (Param place) at = by (eqb place parameter) refl
  where
    by : (test : Bool) → eqb place parameter ≡ test → is_key_home set.shards parameter (slice_index args parameter) server table (Param place) ≡ true
    by true is =
        ap (λ b. cond b (eqb (server_of set.shards table (slice_index args parameter)) server) true) is
        ∙ subst (λ (p : ℕ). eqb (server_of set.shards table (slice_index args p)) server ≡ true) (eqb-true place parameter is) at
    by false is = ap (λ b. cond b (eqb (server_of set.shards table (slice_index args parameter)) server) true) is

action_home : (set : Set) (args : List ℕ) (parameter server : ℕ) (action : Action) → is_action_at set server args action ≡ true →
    is_home set.shards parameter (slice_index args parameter) (server, action) ≡ true
action_home set args parameter server (Get table key) at = key_home set args parameter server table key at
action_home set args parameter server (Update update table key value) at = key_home set args parameter server table key at
action_home set args parameter server (Let left operator right) at = refl
action_home set args parameter server (Need left relation right) at = refl

hop_home : (set : Set) (args : List ℕ) (parameter server : ℕ) (actions : List Action) → list_all (is_action_at set server args) actions ≡ true →
    list_all (is_home set.shards parameter (slice_index args parameter)) (with_server server actions) ≡ true
hop_home set args parameter server actions at =
    list_all-map (is_home set.shards parameter (slice_index args parameter)) (λ action. (server, action)) actions
    ∙ all_pass (is_action_at set server args) (λ action. is_home set.shards parameter (slice_index args parameter) (server, action)) actions (action_home set args parameter server) at

hops_home : (set : Set) (args : List ℕ) (parameter : ℕ) (hops : List ProgramHop) → are_keys_placed set args hops ≡ true →
    list_all (is_home set.shards parameter (slice_index args parameter)) (flat_map (λ (hop : ProgramHop). with_server hop.server hop.actions) hops) ≡ true
hops_home set args parameter [] placed = refl
hops_home set args parameter (hop ∷ hops) placed =
    let parts = and_parts (list_all (is_action_at set hop.server args) hop.actions) (are_keys_placed set args hops) placed in
    list_all-append (is_home set.shards parameter (slice_index args parameter)) (with_server hop.server hop.actions) (flat_map (λ (hop : ProgramHop). with_server hop.server hop.actions) hops)
    ∙ and_from _ _ (hop_home set args parameter hop.server hop.actions parts.0) (hops_home set args parameter hops parts.1)

own_home : (set : Set) (args : List ℕ) (parameter count number : ℕ) (hops : List ProgramHop) → are_keys_placed set args hops ≡ true → (found : Option ProgramHop) → slice_get hops number ≡ found →
    list_all (is_home set.shards parameter (slice_index args parameter)) (option_map_or (λ (hop : ProgramHop). with_server hop.server (take count hop.actions)) found []) ≡ true
own_home set args parameter count number hops placed None is = refl
own_home set args parameter count number hops placed (Some hop) is =
    hop_home set args parameter hop.server (take count hop.actions)
    (all_taken (is_action_at set hop.server args) count hop.actions (passes_at (λ (hop : ProgramHop). list_all (is_action_at set hop.server args) hop.actions) hops number hop placed is))

-- the argument is left for its parameter by the actions up to any
argument_left : (set : Set) (program : ℕ) (found : Program) (at : NeverAt) (parameter : ℕ) (args : List ℕ) → program_at set program ≡ Some found →
    are_in_range found.ranges args ≡ true → are_keys_placed set args found.hops ≡ true → is_left set program at parameter (slice_index args parameter) ≡ true
argument_left set program found at parameter args is fit placed =
    let number = slice_index args parameter in
    let ranges : ranges_of set program ≡ found.ranges = ap (λ (o : Option Program). unwrap_or (option_map (λ (p : Program). p.ranges) o) []) is in
    let hops : hops_of set program ≡ found.hops = ap (λ (o : Option Program). unwrap_or (option_map (λ (p : Program). p.hops) o) []) is in
    let own : hop_at set program at.hop ≡ slice_get found.hops at.hop = ap (option_and_then (λ (p : Program). slice_get p.hops at.hop)) is in
    let before = flat_map (λ (hop : ProgramHop). with_server hop.server hop.actions) (take at.hop (hops_of set program)) in
    and_from (is_argument (ranges_of set program) parameter number) (list_all (is_home set.shards parameter number) (actions_to set program at))
    (ap (λ (all : List ParameterRange). is_argument all parameter number) ranges ∙ argument_fits found.ranges args parameter fit)
    (list_all-append (is_home set.shards parameter number) before (option_map_or (λ (hop : ProgramHop). with_server hop.server (take (at.action + 1) hop.actions)) (hop_at set program at.hop) [])
    ∙ and_from _ _
    (ap (λ (all : List ProgramHop). list_all (is_home set.shards parameter number) (flat_map (λ (hop : ProgramHop). with_server hop.server hop.actions) (take at.hop all))) hops
    ∙ hops_home set args parameter (take at.hop found.hops) (all_taken (λ (hop : ProgramHop). list_all (is_action_at set hop.server args) hop.actions) at.hop found.hops placed))
    (own_home set args parameter (at.action + 1) at.hop found.hops placed (hop_at set program at.hop) (sym own)))

word_at : (args : List ℕ) (place : ℕ) → All (λ arg. arg < 2 ^ 64) args → slice_index args place < 2 ^ 64
word_at args place words =
    ⊎_elim
    (λ within. All-get_or (λ arg. arg < 2 ^ 64) args place 0 within words)
    (λ past. let none = get_or_past args place 0 past in omega (arith, none))
    (cases_lt place (length args))

-- ---- a later hop has no need

abbrev NoNeed : List Action → Type 0
NoNeed actions = (k : ℕ) (left : Operand) (relation : Relation) (right : Operand) → slice_get actions k ≡ Some (Need left relation right) → ⊥

no_need : (scope : PlainScope) (actions : List Action) (known : List (List ℕ)) → scope.is_first ≡ false → FitActions scope actions known → NoNeed actions
no_need scope [] known later fit k left relation right is = absurd (none-some (Need left relation right) is)
no_need scope (action ∷ actions) known later fit zero left relation right is =
    false≢true (sym later ∙ (subst (FitsAction scope) (same_Some action (Need left relation right) is) fit.1).0)
no_need scope (action ∷ actions) known later fit (suc k) left relation right is = no_need (next_scope scope fit.2) actions known later fit.4 k left relation right is

hop_needless : (set : PlainSet) (program : PlainProgram) (hops : List PlainHop) (after : List (List ℕ)) (number : ℕ) (hop : PlainHop) →
    FitHops set program hops after → slice_get hops number ≡ Some hop → 0 < length program.hops + number → NoNeed hop.actions
hop_needless set program [] after number hop fit is later = absurd (none-some hop is)
hop_needless set program (first ∷ hops) after zero hop fit is later =
    subst (λ (h : PlainHop). NoNeed h.actions) (same_Some first hop is)
    (no_need (scope_in set first.server program []) first.actions fit.3 (ne_eqb (length program.hops) 0 (λ none. omega (arith, none, later))) fit.4)
hop_needless set program (first ∷ hops) after (suc number) hop fit is later =
    let more = length_push program.hops first in
    hop_needless set (with_hop program first fit.3) hops after number hop fit.5 is (omega (arith, more))

program_needless : (set : PlainSet) (programs : List (List ℕ × PlainProgram)) (k : ℕ) (named : List ℕ × PlainProgram) → FitPrograms set programs →
    slice_get programs k ≡ Some named → (number : ℕ) (hop : PlainHop) → slice_get named.1.hops number ≡ Some hop → 0 < number → NoNeed hop.actions
program_needless set [] k named fit is number hop there later = absurd (none-some named is)
program_needless set (first ∷ programs) zero named fit is number hop there later =
    let start : PlainProgram = record { parameters = length fit.2.parameters; names = fit.2.parameters; ranges = first.1.ranges; hops = [] } in
    hop_needless set start first.1.hops first.1.names number hop fit.2.hops
    (ap (λ (n : List ℕ × PlainProgram). slice_get n.1.hops number) (same_Some first named is) ∙ there) (omega (arith, later))
program_needless set (first ∷ programs) (suc k) named fit is number hop there later =
    program_needless (with_program set first) programs k named fit.3 is number hop there later

later_needless : (set : Set) → IsSet set → (program number : ℕ) (hop : ProgramHop) → hop_at set program number ≡ Some hop → 0 < number → NoNeed hop.actions
later_needless set is program number hop there later = by (slice_get set.programs program) refl there
  where
    by : (o : Option (List ℕ × Program)) → slice_get set.programs program ≡ o →
        option_and_then (λ (p : Program). slice_get p.hops number) (option_map (λ (n : List ℕ × Program). n.1) o) ≡ Some hop → NoNeed hop.actions
    by None at found = absurd (none-some hop found)
    by (Some named) at found =
        program_needless (no_programs (plain_set set)) (map plain_named set.programs) program (plain_named named) is.0.3
        (slice_get-map plain_named set.programs program ∙ ap (option_map plain_named) at)
        number (plain_hop hop)
        (slice_get-map plain_hop named.1.hops number ∙ ap (option_map plain_hop) found) later

-- ---- a need that isn't met refuses

refuses : (args : List ℕ) (needs : ℕ) (actions : List Action) (names : List ℕ) (db : Database) (k left right : ℕ) (relation : Relation) →
    slice_get actions k ≡ Some (Need (Number left) relation (Number right)) → is_met relation left right ≡ false → (need : ℕ) × (run args needs actions names db ≡ Err need)
refuses args needs [] names db k left right relation is unmet = absurd (none-some (Need (Number left) relation (Number right)) is)
refuses args needs (action ∷ actions) names db zero left right relation is unmet = (
  needs,
  ap (λ (a : Action). run args needs (a ∷ actions) names db) (same_Some action (Need (Number left) relation (Number right)) is)
      ∙ ap (λ b. cond b (run args (needs + 1) actions names db) (Err needs)) unmet,
)
refuses args needs (Get table key ∷ actions) names db (suc k) left right relation is unmet =
    let value = value_at db table (key_of args key) in
    let rest = refuses args needs actions (names ++ value ∷ []) db k left right relation is unmet in
    (rest.0, ap (after_results (value ∷ [])) rest.1)
refuses args needs (Update update table key value ∷ actions) names db (suc k) left right relation is unmet =
    refuses args needs actions names (with_value db table (key_of args key) (updated update (value_at db table (key_of args key)) (value_of names value))) k left right relation is unmet
refuses args needs (Let first operator second ∷ actions) names db (suc k) left right relation is unmet =
    let value = result_of operator (value_of names first) (value_of names second) in
    let rest = refuses args needs actions (names ++ value ∷ []) db k left right relation is unmet in
    (rest.0, ap (after_results (value ∷ [])) rest.1)
refuses args needs (Need first other second ∷ actions) names db (suc k) left right relation is unmet =
    by_test (is_met other (value_of names first) (value_of names second)) (refuses args (needs + 1) actions names db k left right relation is unmet)
  where
    by_test : (b : Bool) → (need : ℕ) × (run args (needs + 1) actions names db ≡ Err need) → (need : ℕ) × (cond b (run args (needs + 1) actions names db) (Err needs) ≡ Err need)
    by_test true rest = rest
    by_test false rest = (needs, refl)

-- ---- what a server takes

none_behind : (b : Bool) (fault : Answer) (rest : Option Answer) → cond b (Some fault) rest ≡ None → (b ≡ false) × (rest ≡ None)
none_behind true fault rest is = absurd (none-some fault (sym is))
none_behind false fault rest is = (refl, is)

-- a program of the set, the arguments in their ranges, and each key at its hop's server
record Taken (set : Set) (request : Request) : Type 0 where
  pub found : Program
  pub there : program_at set request.program ≡ Some found
  pub ranged : are_in_range found.ranges request.args ≡ true
  pub placed : are_keys_placed set request.args found.hops ≡ true

taken : (set : Set) (server : ℕ) (request : Request) (o : Option Program) → program_at set request.program ≡ o → request_fault_in set server request o ≡ None → Taken set request
taken set server request None there none = absurd (none-some answers.UnknownProgram (sym none))
taken set server request (Some found) there none =
    let origin = none_behind (not (is_origin set request.program server)) answers.WrongOrigin _ none in
    let count = none_behind (not (length request.args == found.parameters)) answers.ArgCount _ origin.1 in
    let ranged = none_behind (not (are_in_range found.ranges request.args)) answers.OutsideRange _ count.1 in
    let placed = none_behind (not (are_keys_placed set request.args found.hops)) answers.WrongShard None ranged.1 in
    record { found = found; there = there; ranged = not-false _ ranged.0; placed = not-false _ placed.0 }

-- ---- by an action that stops it

record StoppedBy (set : Set) (program : ℕ) (at : NeverAt) : Type 0 where
  pub action : Action
  pub there : slice_get (actions_at set program at.hop) at.action ≡ Some action
  pub stops : stops set program at action ≡ true

stopped_by : (set : Set) (program : ℕ) (at : NeverAt) → first_never set program ≡ Some at → StoppedBy set program at
stopped_by set program at first = by (slice_get (actions_at set program at.hop) at.action) refl
  where
    never : is_never set program at ≡ true
    never = find-true (is_never set program) (action_places set program) at first

    by : (found : Option Action) → slice_get (actions_at set program at.hop) at.action ≡ found → StoppedBy set program at
    by None is = absurd (false≢true (sym (ap (λ (f : Option Action). option_map_or (stops set program at) f false) is) ∙ never))
    by (Some action) is = record {
      action = action;
      there = is;
      stops = sym (ap (λ (f : Option Action). option_map_or (stops set program at) f false) is) ∙ never;
    }

-- no key is stuck where the arguments are taken
never_stuck : (set : Set) (request : Request) (at : NeverAt) (key : Key) → All (λ arg. arg < 2 ^ 64) request.args → Taken set request → is_stuck set request.program at key ≡ true → ⊥
never_stuck set request at (Literal key) words takes stuck = false≢true stuck
never_stuck set request at (Param parameter) words takes stuck =
    let left = argument_left set request.program takes.found at parameter request.args takes.there takes.ranged takes.placed in
    let some = some_below-from (2 ^ 64) (is_left set request.program at parameter) (slice_index request.args parameter) (word_at request.args parameter words) left in
    false≢true (sym (not-true _ stuck) ∙ some)

-- a need of numbers stands in the first hop, which it refuses
need_refuses : (set : Set) (request : Request) (at : NeverAt) (left right : Operand) (relation : Relation) (db : Database) → IsSet set →
    slice_get (actions_at set request.program at.hop) at.action ≡ Some (Need left relation right) → is_false left relation right ≡ true →
    (need : ℕ) × (meaning set request.program 0 request.args [] db ≡ Err need)
need_refuses set request at (Name place) right relation db is there unmet = absurd (false≢true unmet)
need_refuses set request at (Number left) (Name place) relation db is there unmet = absurd (false≢true unmet)
need_refuses set request at (Number left) (Number right) relation db is there unmet =
    by_hop at.hop (hop_at set request.program at.hop) refl there
  where
    by_hop : (number : ℕ) (found : Option ProgramHop) → hop_at set request.program number ≡ found →
        slice_get (unwrap_or (option_map (λ (hop : ProgramHop). hop.actions) (hop_at set request.program number)) []) at.action ≡ Some (Need (Number left) relation (Number right)) →
        (need : ℕ) × (meaning set request.program 0 request.args [] db ≡ Err need)
    by_hop zero found own here =
        refuses request.args 0 (actions_at set request.program 0) (request.args ++ []) db at.action left right relation here (not-true _ unmet)
    by_hop (suc number) None own here =
        absurd (none-some (Need (Number left) relation (Number right))
        (ap (λ (o : Option ProgramHop). slice_get (unwrap_or (option_map (λ (hop : ProgramHop). hop.actions) o) []) at.action) (sym own) ∙ here))
    by_hop (suc number) (Some hop) own here =
        absurd (later_needless set is request.program (suc number) hop own (omega arith) at.action (Number left) relation (Number right)
        (ap (λ (o : Option ProgramHop). slice_get (unwrap_or (option_map (λ (hop : ProgramHop). hop.actions) o) []) at.action) (sym own) ∙ here))

-- where the arguments are taken, the first hop refuses
refused : (set : Set) (request : Request) (at : NeverAt) (db : Database) → IsSet set → All (λ arg. arg < 2 ^ 64) request.args → Taken set request →
    first_never set request.program ≡ Some at → (need : ℕ) × (meaning set request.program 0 request.args [] db ≡ Err need)
refused set request at db is words takes first = by_action stopped.action stopped.there stopped.stops
  where
    stopped : StoppedBy set request.program at
    stopped = stopped_by set request.program at first

    by_action : (action : Action) → slice_get (actions_at set request.program at.hop) at.action ≡ Some action → stops set request.program at action ≡ true →
        (need : ℕ) × (meaning set request.program 0 request.args [] db ≡ Err need)
    by_action (Get table key) there stuck = absurd (never_stuck set request at key words takes stuck)
    by_action (Update update table key value) there stuck = absurd (never_stuck set request at key words takes stuck)
    by_action (Let left operator right) there never = absurd (false≢true never)
    by_action (Need left relation right) there unmet = need_refuses set request at left right relation db is there unmet

-- ---- the answer

-- no chain begins
pub record BeginsNone (begins : Begins) : Type 0 where
  pub answer : (chain : ChainId) (stamp : ℕ) (results : List ℕ) (again : Bool) → begins.answer ≡ answers.Begun chain stamp results again → ⊥
  pub added : (begun : BegunEntry) → begins.added ≡ Some (Begun begun) → ⊥

-- an answer says that a chain began
abbrev tells_begun : Option Answer → Bool
tells_begun None = false
tells_begun (Some (answers.Begun chain stamp results again)) = true
tells_begun (Some other) = false

only_tells : (given : Answer) → tells_begun (Some given) ≡ false → BeginsNone (only given)
only_tells given none = record {
  answer = λ chain stamp results again is. false≢true (sym none ∙ ap (λ (a : Answer). tells_begun (Some a)) is);
  added = λ begun is. none-some (Begun begun) is;
}

no_fault_begins : (set : Set) (server : ℕ) (request : Request) (o : Option Program) → tells_begun (request_fault_in set server request o) ≡ false
no_fault_begins set server request None = refl
no_fault_begins set server request (Some found) =
    let none = λ (fault : Option Answer). tells_begun fault ≡ false in
    cond_both (not (is_origin set request.program server)) (Some answers.WrongOrigin) _ none (λ _. refl) (λ _.
    cond_both (not (length request.args == found.parameters)) (Some answers.ArgCount) _ none (λ _. refl) (λ _.
    cond_both (not (are_in_range found.ranges request.args)) (Some answers.OutsideRange) _ none (λ _. refl) (λ _.
    cond_both (not (are_keys_placed set request.args found.hops)) (Some answers.WrongShard) None none (λ _. refl) (λ _. refl))))

begins_none : (set : Set) (server : ℕ) (history : History) (request : Request) (seen : ℕ) (at : NeverAt) → IsSet set → All (λ arg. arg < 2 ^ 64) request.args →
    first_never set request.program ≡ Some at → (fault : Option Answer) → request_fault set server request ≡ fault → BeginsNone (answer_new set server history request seen fault)
begins_none set server history request seen at is words first (Some fault) why =
    only_tells fault (ap tells_begun (sym why) ∙ no_fault_begins set server request (program_at set request.program))
begins_none set server history request seen at is words first None why =
    let own = refused set request at (tables_of set history) is words (taken set server request (program_at set request.program) refl why) first in
    let by : BeginsNone (begun_by set server history request seen (Err own.0)) = record { answer = λ chain stamp results again e. cc e; added = λ begun e. cc e } in
    cond_both (is_full history seen) (only answers.Full) _ BeginsNone (λ _. only_tells answers.Full refl) (λ _.
    cond_both (is_busy set server history) (only answers.Busy) _ BeginsNone (λ _. only_tells answers.Busy refl) (λ _.
    subst (λ outcome. BeginsNone (begun_by set server history request seen outcome)) (sym own.1) by))

-- a new request
pub new_begins_none : (set : Set) (server : ℕ) (history : History) (request : Request) (seen : ℕ) (at : NeverAt) → IsSet set → All (λ arg. arg < 2 ^ 64) request.args →
    first_never set request.program ≡ Some at → BeginsNone (answer_new set server history request seen (request_fault set server request))
new_begins_none set server history request seen at is words first =
    begins_none set server history request seen at is words first (request_fault set server request) refl

-- ---- nor is an earlier chain told

split_found : {X : Type 0} (test : X → Bool) (xs : List X) (x : X) → find test xs ≡ Some x → (before : List X) × (after : List X) × (xs ≡ before ++ x ∷ after)
split_found test [] x found = absurd (none-some x found)
split_found {X} test (first ∷ xs) x found = by (test first) found (split_found test xs x)
  where
    by : (b : Bool) → cond b (Some first) (find test xs) ≡ Some x → (find test xs ≡ Some x → (before : List X) × (after : List X) × (xs ≡ before ++ x ∷ after)) →
        (before : List X) × (after : List X) × (first ∷ xs ≡ before ++ x ∷ after)
    by true is rest = ([], xs, ap (λ (y : X). y ∷ xs) (same_Some first x is))
    by false is rest = let later = rest is in (first ∷ later.0, later.1, ap (λ ys. first ∷ ys) later.2)

-- no lawful entry begins a chain of the program
pub never_lawful : (set : Set) (server : ℕ) (history : History) (begun : BegunEntry) (at : NeverAt) → IsSet set → All (λ arg. arg < 2 ^ 64) begun.request.args →
    first_never set begun.request.program ≡ Some at → IsLawful set server history (Begun begun) → ⊥
never_lawful set server history begun at is words first lawful =
    let fault = request_fault set server begun.request in
    let none : fault ≡ None = is_none fault lawful.may_begin.in_order in
    let own = refused set begun.request at (tables_of set history) is words (taken set server begun.request (program_at set begun.request.program) refl none) first in
    ok_err (meaning set begun.request.program 0 begun.request.args [] (tables_of set history)) (begun.results, lawful.results.0) own.0 lawful.results.1 own.1
  where
    is_none : (o : Option Answer) → IsNone o → o ≡ None
    is_none None nothing = refl
    is_none (Some fault) nothing = cc

    ok_err : (came : HopOutcome) (outcome : List ℕ × Database) (need : ℕ) → came ≡ Ok outcome → came ≡ Err need → ⊥
    ok_err came outcome need ok err = cc (ok, err)

recorded_none : (set : Set) (server : ℕ) (history : History) (request : Request) (at : NeverAt) → IsSet set → All (λ arg. arg < 2 ^ 64) request.args → first_never set request.program ≡ Some at →
    EachIsLawful set server history → (entry : Entry) → record_of request history ≡ Some entry → tells_begun (Some (recorded_answer entry request)) ≡ false
recorded_none set server history request at is words first lawful (Hop ran) found = refl
recorded_none set server history request at is words first lawful (Refused refused) found = by (same_call refused.request request)
  where
    by : (b : Bool) → tells_begun (Some (cond b (answers.Refused refused.need refused.stamp true) answers.Clash)) ≡ false
    by true = refl
    by false = refl
recorded_none set server history request at is words first lawful (Begun begun) found = by (same_call begun.request request) refl
  where
    never : same_call begun.request request ≡ true → ⊥
    never same =
        let parts = and_parts (begun.request.program == request.program) (pointwise nat_eq begun.request.args request.args) same in
        let program = eqb-true begun.request.program request.program parts.0 in
        let args = (pointwise_decides Decides-eqb begun.request.args request.args).0 parts.1 in
        let split = split_found (is_record_of request) history (Begun begun) found in
        never_lawful set server split.0 begun at is (subst (λ (xs : List ℕ). All (λ arg. arg < 2 ^ 64) xs) (sym args) words) (ap (first_never set) program ∙ first) (lawful split.0 split.1 (Begun begun) split.2)

    by : (b : Bool) → same_call begun.request request ≡ b → tells_begun (Some (cond b (answers.Begun begun.chain begun.stamp begun.results true) answers.Clash)) ≡ false
    by true same = absurd (never same)
    by false differs = refl

answers_none : (set : Set) (server : ℕ) (history : History) (request : Request) (seen : ℕ) (at : NeverAt) → IsSet set → All (λ arg. arg < 2 ^ 64) request.args →
    first_never set request.program ≡ Some at → EachIsLawful set server history → (found : Option Entry) → record_of request history ≡ found →
    BeginsNone (answer_recorded set server history request seen found)
answers_none set server history request seen at is words first lawful None found = new_begins_none set server history request seen at is words first
answers_none set server history request seen at is words first lawful (Some entry) found =
    only_tells (recorded_answer entry request) (recorded_none set server history request at is words first lawful entry found)

pub never_answered : (set : Set) (server : ℕ) (history : History) (request : Request) (seen : ℕ) (at : NeverAt) → IsSet set → All (λ arg. arg < 2 ^ 64) request.args →
    first_never set request.program ≡ Some at → EachIsLawful set server history → (chain : ChainId) (stamp : ℕ) (results : List ℕ) (again : Bool) →
    (answer set server history request seen).answer ≡ answers.Begun chain stamp results again → ⊥
never_answered set server history request seen at is words first lawful =
    (answers_none set server history request seen at is words first lawful (record_of request history) refl).answer

-- whatever the history is, no new chain begins
new_none : (set : Set) (server : ℕ) (history : History) (request : Request) (seen : ℕ) (at : NeverAt) → IsSet set → All (λ arg. arg < 2 ^ 64) request.args →
    first_never set request.program ≡ Some at → (found : Option Entry) →
    ((chain : ChainId) (stamp : ℕ) (results : List ℕ) → (answer_recorded set server history request seen found).answer ≡ answers.Begun chain stamp results false → ⊥)
    × ((begun : BegunEntry) → (answer_recorded set server history request seen found).added ≡ Some (Begun begun) → ⊥)
new_none set server history request seen at is words first None =
    let none = new_begins_none set server history request seen at is words first in
    (λ chain stamp results. none.answer chain stamp results false, none.added)
new_none set server history request seen at is words first (Some entry) = (λ chain stamp results. by entry chain stamp results, λ begun same. none-some (Begun begun) same)
  where
    told : (b : Bool) (kept given : Answer) → (kept ≡ given → ⊥) → (answers.Clash ≡ given → ⊥) → cond b kept answers.Clash ≡ given → ⊥
    told true kept given first second = first
    told false kept given first second = second

    by : (entry : Entry) (chain : ChainId) (stamp : ℕ) (results : List ℕ) → recorded_answer entry request ≡ answers.Begun chain stamp results false → ⊥
    by (Hop ran) chain stamp results = λ same. cc same
    by (Refused refused) chain stamp results =
        told (same_call refused.request request) (answers.Refused refused.need refused.stamp true) (answers.Begun chain stamp results false) (λ same. cc same) (λ same. cc same)
    by (Begun begun) chain stamp results =
        told (same_call begun.request request) (answers.Begun begun.chain begun.stamp begun.results true) (answers.Begun chain stamp results false) (λ same. cc same) (λ same. cc same)

pub never_anew : (set : Set) (server : ℕ) (history : History) (request : Request) (seen : ℕ) (at : NeverAt) → IsSet set → All (λ arg. arg < 2 ^ 64) request.args →
    first_never set request.program ≡ Some at →
    ((chain : ChainId) (stamp : ℕ) (results : List ℕ) → (answer set server history request seen).answer ≡ answers.Begun chain stamp results false → ⊥)
    × ((begun : BegunEntry) → (answer set server history request seen).added ≡ Some (Begun begun) → ⊥)
never_anew set server history request seen at is words first = new_none set server history request seen at is words first (record_of request history)
