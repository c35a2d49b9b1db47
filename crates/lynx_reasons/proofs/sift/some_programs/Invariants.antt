use Rattle.lynx_reasons.specs.inner.Sifts.{AreOfAbroad}
use Rattle.lynx_reasons.proofs.sift.some_programs.Given as goal

-- each is the program of one of the hops
abbrev pub invariant-loop-hop : goal.invariant-loop-hop
invariant-loop-hop l = AreOfAbroad l.hops l.programs
