use Rattle.std.specs.Prelude.{◌≡◌, ◌++◌, length}
use Rattle.lynx_worker.specs.Sending.{SendsAll}
use Rattle.lynx_worker.proofs.route.Flight.offer_again.Given as goal

abbrev pub invariant-loop-due : goal.invariant-loop-due
invariant-loop-due l =
    SendsAll l.yielded l.initial.ends l.ends × (l.count ≡ length l.yielded)
    × (l.fn.dues.items ≡ l.yielded ++ l.due-iterator.rest.items)
    × goal.iterator-loop-due.can_next l.due-iterator
    × goal.iterator-loop-due.is_finite l.due-iterator
