use Rattle.lynx_worker.specs.Unheard.{StayUnheard}
use Rattle.lynx_worker.proofs.unheard.Unheard.forget_first.Given as goal

abbrev pub invariant-loop : goal.invariant-loop
invariant-loop l = record {
  stay : StayUnheard l.initial.self.sent.items l.self.sent.items;
  none_new : StayUnheard l.self.sent.items l.initial.self.sent.items;
}
