use Rattle.std.proofs.Common.{◌≡◌, take, false}
use Rattle.std.specs.List.{list_any}
use Rattle.lynx_weave.specs.Servers.{histories_of}
use Rattle.lynx_weave.specs.Told.{is_topmost}
use Rattle.lynx_weave.proofs.judging.are_topped.Given as goal

abbrev pub invariant-loop-here : goal.invariant-loop-here
invariant-loop-here l = list_any (list_any is_topmost) (histories_of (take l.here-index l.servers)) ≡ false
