-- In a set that has a text each literal key lies at its hop's server.
use Rattle.std.proofs.Common.{◌≡◌, ◌&&◌, ℕ, zero, suc, Bool, true, List, [], ◌∷◌, map, length, Option, Some, None, slice_get, option_map, option_and_then, refl, ap, ◌∙◌, subst}
use Rattle.std.specs.List.{list_all}
use Rattle.std.proofs.lemmas.Option.{slice_get-map}
use Rattle.lynx_shards.specs.declared.shard.Shard.{Shard}
use Rattle.lynx_set.specs.declared.action.Action.{Action}
use Rattle.lynx_set.specs.declared.action.Action.TheVariants.{Get, Update, Let, Need}
use Rattle.lynx_set.specs.declared.program.Hop.{Hop}
use Rattle.lynx_set.specs.declared.program.Program.{Program}
use Rattle.lynx_set.specs.Home.{AreLiteralsHome, is_action_home}
use Rattle.lynx_set.specs.Lookups.{hop_at}
use Rattle.lynx_set.specs.Plain.{PlainHop, PlainProgram, PlainSet, plain_hop, plain_named, plain_set}
use Rattle.lynx_set.specs.Rules.{FitActions, FitHops, FitPrograms, next_scope, with_hop, with_program, no_programs, IsSet}
use Rattle.lynx_set.specs.Set.{Set}
use Rattle.lynx_set.specs.Scopes.{PlainScope, scope_in}

-- the literal keys of these actions are at the server
abbrev AreHome : List (List Shard) → ℕ → List Action → Type 0
AreHome shards server actions = list_all (is_action_home shards server) actions ≡ true

both_true : (a b : Bool) → a ≡ true → b ≡ true → (a && b) ≡ true
both_true a b first second = ap (λ x. x && b) first ∙ second

home_actions : (scope : PlainScope) (actions : List Action) (known : List (List ℕ)) → FitActions scope actions known → AreHome scope.shards scope.server actions
home_actions scope [] known fit = refl
home_actions scope (Get table key ∷ actions) known fit = both_true _ _ fit.1.at_home (home_actions (next_scope scope fit.2) actions known fit.4)
home_actions scope (Update update table key value ∷ actions) known fit = both_true _ _ fit.1.0.at_home (home_actions (next_scope scope fit.2) actions known fit.4)
home_actions scope (Let left operator right ∷ actions) known fit = home_actions (next_scope scope fit.2) actions known fit.4
home_actions scope (Need left relation right ∷ actions) known fit = home_actions (next_scope scope fit.2) actions known fit.4

home_hop : (set : PlainSet) (program : PlainProgram) (hops : List PlainHop) (after : List (List ℕ)) (i : ℕ) (hop : PlainHop) →
    FitHops set program hops after → slice_get hops i ≡ Some hop → AreHome set.shards hop.server hop.actions
home_hop set program [] after i hop fit is = cc
home_hop set program (first ∷ hops) after zero hop fit is =
    let same : first ≡ hop = cc in
    subst (λ (h : PlainHop). AreHome set.shards h.server h.actions) same
    (home_actions (scope_in set first.server program []) first.actions fit.3 fit.4)
home_hop set program (first ∷ hops) after (suc i) hop fit is = home_hop set (with_hop program first fit.3) hops after i hop fit.5 is

home_program : (set : PlainSet) (programs : List (List ℕ × PlainProgram)) (i : ℕ) (named : List ℕ × PlainProgram) → FitPrograms set programs →
    slice_get programs i ≡ Some named → (number : ℕ) (hop : PlainHop) → slice_get named.1.hops number ≡ Some hop → AreHome set.shards hop.server hop.actions
home_program set [] i named fit is number hop there = cc
home_program set (first ∷ programs) zero named fit is number hop there =
    let same : first ≡ named = cc in
    let start : PlainProgram = record { parameters = length fit.2.parameters; names = fit.2.parameters; ranges = first.1.ranges; hops = [] } in
    home_hop set start first.1.hops first.1.names number hop fit.2.hops
    (ap (λ (n : List ℕ × PlainProgram). slice_get n.1.hops number) same ∙ there)
home_program set (first ∷ programs) (suc i) named fit is number hop there =
    home_program (with_program set first) programs i named fit.3 is number hop there

-- the hop stands under the program's number and its own
pub literals_home : (set : Set) → IsSet set → AreLiteralsHome set
literals_home set is program number hop there = by (slice_get set.programs program) refl there
  where
    by : (o : Option (List ℕ × Program)) → slice_get set.programs program ≡ o →
        option_and_then (λ (p : Program). slice_get p.hops number) (option_map (λ (n : List ℕ × Program). n.1) o) ≡ Some hop →
        AreHome set.shards hop.server hop.actions
    by None at found = cc
    by (Some named) at found =
        home_program (no_programs (plain_set set)) (map plain_named set.programs) program (plain_named named) is.0.3
        (slice_get-map plain_named set.programs program ∙ ap (option_map plain_named) at)
        number (plain_hop hop)
        (slice_get-map plain_hop named.1.hops number ∙ ap (option_map plain_hop) found)
