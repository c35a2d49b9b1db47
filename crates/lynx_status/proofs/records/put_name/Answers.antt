use Rattle.std.proofs.Common.{◌∙◌, append_assoc}
use Rattle.lynx_status.specs.Records.{name_json}
use Rattle.lynx_status.proofs.records.put_name.Goals as goal

pub returns : goal.returns
unfolding name_json
returns c = c.in_ok-write.ensures.bytes ∙ simp append_assoc
