use Rattle.lynx_order.proofs.Certificates.{AreCounted, RiseTo}
use Rattle.lynx_order.proofs.rising.rise.Given as goal

abbrev pub invariant-loop-touch : goal.invariant-loop-touch
invariant-loop-touch l = record { counted : AreCounted l.ranks l.touches l.touch-index l.sweep; kept : RiseTo l.ranks l.touches l.touch-index }
