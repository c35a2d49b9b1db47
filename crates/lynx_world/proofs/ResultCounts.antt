-- A hop of the set gives as many results as it declares.
use Rattle.std.proofs.Common.{◌≡◌, ℕ, List, ◌++◌, length, Ok, sym, ap, ◌∙◌}
use Rattle.std.specs.List.{flat_map}
use Rattle.lynx_cells.specs.Database.{Database}
use Rattle.lynx_set.specs.Set.{Set}
use Rattle.lynx_hops.specs.Meaning.{run, meaning}
use Rattle.lynx_rules.specs.Checks.{result_count}
use Rattle.lynx_server.proofs.ResultCounts.{run-counted}
use Rattle.lynx_world.proofs.HopsOf.{HasHop, actions_are}

pub meaning-counted : (set : Set) (program number : ℕ) (has : HasHop set program number) (args : List ℕ) (earlier : List (List ℕ))
    (before after : Database) (results : List ℕ) →
    meaning set program number args earlier before ≡ Ok (results, after) → length results ≡ result_count has.hop
meaning-counted set program number has args earlier before after results e =
    run-counted args 0 has.hop.actions (args ++ flat_map (λ r. r) earlier) before after results
    (ap (λ actions. run args 0 actions (args ++ flat_map (λ r. r) earlier) before) (sym (actions_are set program number has)) ∙ e)
