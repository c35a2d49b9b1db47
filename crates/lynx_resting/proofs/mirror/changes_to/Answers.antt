use Rattle.std.proofs.Common.{ℕ, List, ◌∙◌, ap, sym}
use Rattle.std.proofs.lemmas.List.{at_drop_all}
use Rattle.lynx_cells.specs.Database.{ChangeSet, applied, written}
use Rattle.lynx_cells.specs.Triples.{entries_of}
use Rattle.lynx_cells.proofs.Writes.{applied-empty}
use Rattle.lynx_resting.proofs.mirror.changes_to.Goals as goal

pub loop-table-init : goal.loop-table-init
loop-table-init c db =
    ap (written (entries_of c.args.writes.now)) (ap (λ (changes : ChangeSet). applied changes db) c.new-changes.ensures ∙ applied-empty db)

-- no write is left
pub returns : goal.returns
returns c db =
    sym (at_drop_all (λ (writes : List (ℕ × ℕ × ℕ)). written (entries_of writes) (applied c.loop-table.changes db)) c.args.writes.now
    c.loop-table.table-index c.loop-table-test.false)
    ∙ c.loop-table.invariant db
