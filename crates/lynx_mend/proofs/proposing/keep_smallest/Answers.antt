use Rattle.std.proofs.Common.{List, rules, subst, sym}
use Rattle.std.specs.List.Sorted.{IsNonDecreasingBy}
use Rattle.std.proofs.lemmas.List.Sorted.{IsNonDecreasingBy-from_sort_by_key, IsNonDecreasingBy-take}
use Rattle.lynx_mend.specs.Mended.{Mended, mending_cost}
use Rattle.lynx_mend.proofs.proposing.keep_smallest.Goals as goal

pub returns-clause-rising : goal.returns-clause-rising
returns-clause-rising c =
    let sorted = IsNonDecreasingBy-from_sort_by_key mending_cost _ c.in_ok-sort_by_key.ensures.sorted (λ a r q k. search rules) in
    let P : List Mended → Type 0 = λ mendings. IsNonDecreasingBy mending_cost mendings in
    subst P (sym c.truncate.ensures.items) (IsNonDecreasingBy-take mending_cost 10 _ sorted)
