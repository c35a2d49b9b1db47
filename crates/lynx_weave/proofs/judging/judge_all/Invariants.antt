use Rattle.std.proofs.Common.{take}
use Rattle.lynx_weave.specs.Rebuilt.{told_in}
use Rattle.lynx_weave.specs.Servers.{histories_of}
use Rattle.lynx_weave.specs.Weaving.{all_told}
use Rattle.lynx_weave.proofs.Marking.{AreCounted, AreWellBefore}
use Rattle.lynx_weave.proofs.judging.judge_all.Given as goal

abbrev pub invariant-loop-session : goal.invariant-loop-session
invariant-loop-session l = record {
  well : AreWellBefore (histories_of l.servers) l.starts (told_in l.told) l.session;
  counted : AreCounted (histories_of l.servers) l.marks (all_told (take l.session (told_in l.told)));
}
