use Rattle.lynx_cells.specs.Database.{applied}
use Rattle.lynx_rules.specs.Tables.{tables_of}
use Rattle.lynx_server.proofs.Due.{run-lawful, same_begun}
use Rattle.lynx_server.proofs.steps.RanStep.keep.Goals as goal

pub keep_begun-requires-clause-lawful : goal.keep_begun-requires-clause-lawful
keep_begun-requires-clause-lawful g c =
    let books = c.args.books.now in
    let taken = c.args.self.taken in
    let ran = c.args.self.ran in
    run-lawful books taken.request taken.seen taken.stamp taken.draw ran.0 (applied ran.1 (tables_of books.set books.history)) _
    c.requires.due c.in-Ok.ensures.home c.requires.ran.taken_is.stamp_is c.requires.ran.taken_is.draw_is c.requires.ran.ran_is
    (same_begun books taken.request taken.seen taken.stamp _ _ _ _ _ c.in-Ok.ensures.begun c.numbers.ensures c.spend-results.ensures.results)
