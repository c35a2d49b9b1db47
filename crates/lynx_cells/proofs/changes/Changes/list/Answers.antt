use Rattle.std.proofs.Common.{sym, ap, ◌∙◌}
use Rattle.std.specs.FinMap as map
use Rattle.lynx_cells.specs.Triples.{triples_of, entries_of}
use Rattle.lynx_cells.proofs.Maps.{entries-from_entries, triples_of-entries_of}
use Rattle.lynx_cells.proofs.changes.Changes.list.Goals as goal

pub returns : goal.returns
returns c =
    let items = c.self.inside.items.items in
    c.as_slice.ensures.value
    ∙ sym (triples_of-entries_of items)
    ∙ ap triples_of (sym (ap map.entries (sym c.self.view_is) ∙ entries-from_entries (entries_of items) c.self.invariant))
