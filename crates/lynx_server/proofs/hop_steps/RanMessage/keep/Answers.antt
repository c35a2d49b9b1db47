use Rattle.lynx_server.proofs.Due.{hop-lawful}
use Rattle.lynx_server.proofs.hop_steps.RanMessage.keep.Goals as goal

pub keep_other-requires-clause-lawful : goal.keep_other-requires-clause-lawful
keep_other-requires-clause-lawful g c =
    rw (c.in_ok-ready.ensures.entry, c.spend-results.ensures.results)
    (hop-lawful c.args.books.now c.args.self.taken.message c.args.self.taken.stamp c.args.self.ran.0 _ c.requires.due c.requires.ran)
