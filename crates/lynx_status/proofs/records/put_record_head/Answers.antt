use Rattle.std.proofs.Common.{◌∙◌, append_assoc}
use Rattle.lynx_status.specs.Records.{record_head}
use Rattle.lynx_status.proofs.records.put_record_head.Goals as goal

pub returns : goal.returns
unfolding record_head
returns c = c.in_ok-write.ensures.bytes ∙ simp append_assoc
