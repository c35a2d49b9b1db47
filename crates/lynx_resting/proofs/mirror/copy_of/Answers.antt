use Rattle.std.proofs.Common.{◌∙◌, ap}
use Rattle.lynx_cells.specs.Database.{applied, empty_database, written}
use Rattle.lynx_cells.specs.Triples.{entries_of}
use Rattle.lynx_resting.proofs.Copies.{written_anew}
use Rattle.lynx_resting.proofs.mirror.copy_of.Goals as goal

pub returns : goal.returns
returns c =
    c.apply.ensures.database
    ∙ ap (applied c.in_ok-changes.changes) (c.in_ok-stage.ensures.database ∙ c.new-copied.ensures.database)
    ∙ c.in_ok-changes.ensures empty_database
    ∙ ap (λ l. written (entries_of l) empty_database) (c.as_slice.ensures.value ∙ c.in_ok-list.ensures.entries)
    ∙ written_anew c.args.cells.now.database c.in_ok-list.ensures.zero_free
