use Rattle.std.proofs.Common.{ℕ, List, map, subst}
use Rattle.std.proofs.lemmas.List.Sorted.{IsPermutation-map, IsPermutation-trans}
use Rattle.std.specs.List.Sorted.{IsPermutation}
use Rattle.lynx_set.specs.Set.{Set}
use Rattle.lynx_world.specs.Tables.{cells_of}
use Rattle.lynx_carry.specs.Naming.{by_name}
use Rattle.lynx_carry.proofs.checking.check_cells.Goals as goal

pub returns-then-branch-clause-ok : goal.returns-then-branch-clause-ok
returns-then-branch-clause-ok c =
    let name = by_name c.args.world.now.set in
    let all = cells_of c.args.world.now in
    let triples = c.in_ok-triples.triples.items in
    let cells = c.args.cells.now in
    let same : IsPermutation all triples =
    subst (λ (some : List (ℕ × ℕ × ℕ)). IsPermutation all some) c.as_slice.ensures.value (c.in_ok-are_cells.ensures c.if-branch.true) in
    let given : IsPermutation (map name triples) cells =
    subst (λ (set : Set). IsPermutation (map (by_name set) triples) cells) c.set.ensures.value c.in_ok-triples.ensures.ok in
    IsPermutation-trans (map name all) (map name triples) cells (IsPermutation-map name all triples same) given
