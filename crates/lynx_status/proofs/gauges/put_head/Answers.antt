use Rattle.std.proofs.Common.{append_assoc}
use Rattle.lynx_status.specs.Families.{head}
use Rattle.lynx_status.proofs.gauges.put_head.Goals as goal

pub returns : goal.returns
unfolding head
returns c = simp append_assoc c.write.ensures.bytes
