use Rattle.std.proofs.Common.{append_assoc}
use Rattle.lynx_status.specs.Families.{delivery_line}
use Rattle.lynx_status.proofs.outcomes.put_delivery.Goals as goal

pub returns : goal.returns
unfolding delivery_line
returns c = simp append_assoc c.write.ensures.bytes
