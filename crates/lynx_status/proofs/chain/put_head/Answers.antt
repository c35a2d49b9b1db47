use Rattle.std.proofs.Common.{◌∙◌, append_assoc}
use Rattle.lynx_status.specs.Chains.{head_json}
use Rattle.lynx_status.proofs.chain.put_head.Goals as goal

pub returns : goal.returns
unfolding head_json
returns c = c.in_ok-write.ensures.bytes ∙ simp append_assoc
