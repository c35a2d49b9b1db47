use Rattle.std.proofs.Common.{subst}
use Rattle.lynx_server.specs.Books.{BooksState}
use Rattle.lynx_server.specs.inner.Hops.{IsDue}
use Rattle.lynx_server.specs.inner.Sorting.{IsSorted}
use Rattle.lynx_server.specs.declared.sorting.Sorted.{Sorted}
use Rattle.lynx_server.proofs.Lasting.{free_books}
use Rattle.lynx_server.proofs.server.Server.try_deliver.Goals as goal

pub run_message-requires-clause-due : goal.run_message-requires-clause-due
run_message-requires-clause-due g c =
    let books = c.self.inside.register in
    let sorted = subst (λ (sorted : Sorted). IsSorted books c.as_slice.result.now c.args.message sorted) c.in-Runs.is c.in_ok-sorted.ensures in
    rw (← c.self.view_is) (subst (λ (b : BooksState). IsDue b c.args.message c.in-Runs.stamp) (free_books books c.self.invariant.free) sorted.due)
