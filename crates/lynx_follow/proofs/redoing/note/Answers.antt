use Rattle.std.proofs.Common.{ℕ, List, sym, ap, ◌∙◌}
use Rattle.std.proofs.lemmas.List.{at_drop_all}
use Rattle.std.specs.FinMap as map
use Rattle.lynx_cells.specs.Database.{applied, written}
use Rattle.lynx_cells.specs.Triples.{entries_of}
use Rattle.lynx_cells.proofs.Maps.{entries_of-triples_of}
use Rattle.lynx_follow.proofs.redoing.note.Goals as goal

-- no change is left
pub returns : goal.returns
returns c = λ db.
    let items = c.list-table-items.result.now in
    sym (at_drop_all (λ (ts : List (ℕ × ℕ × ℕ)). written (entries_of ts) (applied c.loop-table.changes db)) items c.loop-table.table-index c.loop-table-test.false)
    ∙ c.loop-table.invariant db
    ∙ ap (λ (ts : List (ℕ × ℕ × ℕ)). written (entries_of ts) (applied c.args.changes.now db)) c.list-table-items.ensures
    ∙ ap (λ es. written es (applied c.args.changes.now db)) (entries_of-triples_of (map.entries c.args.more.now))
