use Rattle.std.proofs.Common.{◌≡◌, take}
use Rattle.lynx_weave.specs.inner.Judging.{AreMarked}
use Rattle.lynx_weave.specs.Servers.{histories_of}
use Rattle.lynx_weave.specs.Told.{greatest_told}
use Rattle.lynx_weave.proofs.Marking.{AreWellBelow}
use Rattle.lynx_weave.proofs.judging.judge_items.Given as goal

abbrev pub invariant-loop-place : goal.invariant-loop-place
invariant-loop-place l = record {
  well : AreWellBelow (histories_of l.servers) l.starts l.items l.place;
  greatest : l.greatest ≡ greatest_told (take l.place l.items);
  marked : AreMarked (histories_of l.servers) l.fn.marks (take l.place l.items) l.marks;
}
