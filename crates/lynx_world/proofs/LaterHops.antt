-- In a set that has a text each hop is at a server of the set, and a later hop never refuses: it has no need.
use Rattle.std.proofs.Common.{◌≡◌, ℕ, zero, suc, ◌+◌, ◌<◌, false, List, [], ◌∷◌, ◌++◌, map, length, Option, Some, None, Ok, Err, nat_eq, slice_get, option_map, inl, inr, refl, sym, ap, ◌∙◌, subst, arith}
use Rattle.std.proofs.lemmas.Bool.Decides.{eqb_tells}
use Rattle.std.proofs.lemmas.List.{length_push}
use Rattle.std.proofs.lemmas.Option.{slice_get-map}
use Rattle.std.specs.List.{flat_map}
use Rattle.lynx_cells.specs.Database.{Database, value_at, with_value}
use Rattle.lynx_set.specs.declared.action.Action.{Action}
use Rattle.lynx_set.specs.declared.action.Action.TheVariants.{Get, Update, Let, Need}
use Rattle.lynx_set.specs.declared.program.Program.{Program}
use Rattle.lynx_set.specs.Scopes.{PlainScope, scope_in}
use Rattle.lynx_set.specs.Plain.{PlainHop, PlainProgram, PlainSet, plain_hop, plain_program, plain_named, plain_set}
use Rattle.lynx_set.specs.Rules.{FitActions, FitHops, FitsProgram, FitPrograms, next_scope, with_hop, with_program, no_programs, IsSet}
use Rattle.lynx_set.specs.Set.{Set}
use Rattle.lynx_hops.specs.Meaning.{HopOutcome, after_results, run, meaning, key_of, value_of, updated, result_of}
use Rattle.lynx_world.proofs.HopsOf.{HasHop, actions_are}

-- actions that never refuse
abbrev pub NeverRefuse : List Action → Type 0
NeverRefuse actions = (args : List ℕ) (needs : ℕ) (names : List ℕ) (db : Database) (need : ℕ) → run args needs actions names db ≡ Err need → ⊥

-- a refusal behind an action that bound a value
refused_behind : (value : ℕ) (outcome : HopOutcome) (need : ℕ) → after_results (value ∷ []) outcome ≡ Err need → outcome ≡ Err need
refused_behind value (Ok (results, db)) need e = cc
refused_behind value (Err other) need e = e

-- actions that stand in a later hop have no need
never_refuse : (scope : PlainScope) (actions : List Action) (known : List (List ℕ)) → scope.is_first ≡ false → FitActions scope actions known → NeverRefuse actions
never_refuse scope [] known later fit args needs names db need e = cc
never_refuse scope (Get table key ∷ actions) known later fit args needs names db need e =
    let value = value_at db table (key_of args key) in
    never_refuse (next_scope scope fit.2) actions known later fit.4 args needs (names ++ value ∷ []) db need (refused_behind value _ need e)
never_refuse scope (Update update table key value ∷ actions) known later fit args needs names db need e =
    never_refuse (next_scope scope fit.2) actions known later fit.4 args needs names
    (with_value db table (key_of args key) (updated update (value_at db table (key_of args key)) (value_of names value))) need e
never_refuse scope (Let left operator right ∷ actions) known later fit args needs names db need e =
    let value = result_of operator (value_of names left) (value_of names right) in
    never_refuse (next_scope scope fit.2) actions known later fit.4 args needs (names ++ value ∷ []) db need (refused_behind value _ need e)
never_refuse scope (Need left relation right ∷ actions) known later fit args needs names db need e = cc (fit.1.0)

-- a hop that isn't the first stands behind some
not_first : {X : Type 0} (xs : List X) (i : ℕ) → i ≡ 0 → 0 < length xs + i → nat_eq (length xs) 0 ≡ false
not_first xs i start later = elim (eqb_tells (length xs) 0) [
  | inl same ↦ let none : length xs ≡ 0 = same.1 in absurd (omega arith)
  | inr differs ↦ differs.0
]

-- what is told of the hops of a program that fit
pub record FitsHop (servers : ℕ) (later : Type 0) (hop : PlainHop) : Type 0 where
  pub server : hop.server < servers
  pub actions : later → NeverRefuse hop.actions

-- each hop of hops that fit
hop_fits : (set : PlainSet) (program : PlainProgram) (hops : List PlainHop) (after : List (List ℕ)) (i : ℕ) (hop : PlainHop) →
    FitHops set program hops after → slice_get hops i ≡ Some hop → FitsHop set.servers (0 < length program.hops + i) hop
hop_fits set program [] after i hop fit is = cc
hop_fits set program (first ∷ hops) after zero hop fit is =
    let same : first ≡ hop = cc in
    subst (FitsHop set.servers (0 < length program.hops + 0)) same (record {
      server = fit.1;
      actions = λ later. never_refuse (scope_in set first.server program []) first.actions fit.3 (not_first program.hops 0 refl later) fit.4;
    })
hop_fits set program (first ∷ hops) after (suc i) hop fit is =
    let rest = hop_fits set (with_hop program first fit.3) hops after i hop fit.5 is in
    let more = length_push program.hops first in
    record { server = rest.server; actions = λ later. rest.actions (omega arith) }

-- each program of programs that fit
program_fits : (set : PlainSet) (programs : List (List ℕ × PlainProgram)) (i : ℕ) (named : List ℕ × PlainProgram) → FitPrograms set programs →
    slice_get programs i ≡ Some named → (other : PlainSet) × (other.servers ≡ set.servers) × FitsProgram other named.1
program_fits set [] i named fit is = cc
program_fits set (first ∷ programs) zero named fit is =
    let same : first ≡ named = cc in
    (set, refl, subst (λ (n : List ℕ × PlainProgram). FitsProgram set n.1) same fit.2)
program_fits set (first ∷ programs) (suc i) named fit is = program_fits (with_program set first) programs i named fit.3 is

-- each hop is at a server of the set, and a later one never refuses
pub set_fits : (set : Set) (program number : ℕ) (has : HasHop set program number) → IsSet set →
    FitsHop set.servers (0 < number) (plain_hop has.hop)
set_fits set program number has is = by (slice_get set.programs program) refl has.program_is
  where
    by : (o : Option (List ℕ × Program)) → slice_get set.programs program ≡ o → option_map (λ (n : List ℕ × Program). n.1) o ≡ Some has.found →
        FitsHop set.servers (0 < number) (plain_hop has.hop)
    by None at same = cc
    by (Some named) at same =
        let found : named.1 ≡ has.found = cc in
        let plain = slice_get-map plain_named set.programs program ∙ ap (option_map plain_named) at in
        let fits = program_fits (no_programs (plain_set set)) (map plain_named set.programs) program (plain_named named) is.0.3 plain in
        let start : PlainProgram = record { parameters = length fits.2.parameters; names = fits.2.parameters; ranges = named.1.ranges; hops = [] } in
        let hop_is : slice_get (map plain_hop named.1.hops) number ≡ Some (plain_hop has.hop) =
        slice_get-map plain_hop named.1.hops number
        ∙ ap (option_map plain_hop) (ap (λ (p : Program). slice_get p.hops number) found ∙ has.hop_is) in
        let hop = hop_fits fits.0 start (map plain_hop named.1.hops) (plain_program named.1).names number (plain_hop has.hop) fits.2.hops hop_is in
        let servers : fits.0.servers ≡ set.servers = fits.1 in
        record { server = subst (λ n. has.hop.server < n) servers hop.server; actions = λ later. hop.actions (omega arith) }

-- the meaning of a later hop isn't a refusal
pub meaning-never_refuses : (set : Set) (program number : ℕ) (has : HasHop set program number) → IsSet set → 0 < number →
    (args : List ℕ) (earlier : List (List ℕ)) (db : Database) (need : ℕ) → meaning set program number args earlier db ≡ Err need → ⊥
meaning-never_refuses set program number has is later args earlier db need e =
    (set_fits set program number has is).actions later args 0 (args ++ flat_map (λ r. r) earlier) db need
    (ap (λ actions. run args 0 actions (args ++ flat_map (λ r. r) earlier) db) (sym (actions_are set program number has)) ∙ e)
