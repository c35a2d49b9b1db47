use Rattle.std.proofs.Common.{◌≡◌, ◌∙◌, ℕ, List, subst, sym}
use Rattle.std.proofs.lemmas.Slice.Eq.{slice_eq-Decides}
use Rattle.std.specs.List.Sorted.{IsPermutation}
use Rattle.lynx_world.specs.Tables.{cells_of}
use Rattle.lynx_carry.proofs.Triples.{triples_decide}
use Rattle.lynx_carry.proofs.checking.are_cells.Goals as goal

pub returns : goal.returns
returns c =
    let cells = c.as_slice.result.now in
    let triples = c.args.triples.now in
    λ same.
    let alike : c.in_ok-cells.cells.items ≡ triples =
    sym c.as_slice.ensures.value ∙ (slice_eq-Decides triples_decide cells triples c.eq.result c.eq.ensures).0 same in
    subst (λ (all : List (ℕ × ℕ × ℕ)). IsPermutation (cells_of c.args.world.now) all) alike c.in_ok-cells.ensures.all
