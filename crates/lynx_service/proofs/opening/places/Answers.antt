use Rattle.std.proofs.Common.{None}
use Rattle.lynx_service.proofs.Opened.{one_more}
use Rattle.lynx_service.proofs.opening.places.Goals as goal

pub loop-number-preserved : goal.loop-number-preserved
loop-number-preserved g c =
    one_more c.loop-number.number c.loop-number.places.items c.push.new.self.items (record { server = c.at.result; found = None }) c.in_ok-push.ensures.items c.at.ensures c.loop-number.invariant
