use Rattle.std.proofs.Common.{rules}
use Rattle.std.proofs.lemmas.List.Sorted.{answers_always}
use Rattle.lynx_cells.proofs.Places.{searched}
use Rattle.lynx_cells.proofs.changes.place_of.Goals as goal

-- the closure gives a triple's cell, and the slice rises by it
pub returns : goal.returns
returns c =
    let found = c.binary_search_by_key.ensures in
    let by_cell = found.position (λ triple. (triple.0, triple.1)) (answers_always _ _ _ (λ f a r g called. search rules)) in
    let ends = searched c.args.changes.now c.requires (c.args.table, c.args.key) c.binary_search_by_key.result found.bound by_cell in
    record { there = ends.0; gap = ends.1 }
