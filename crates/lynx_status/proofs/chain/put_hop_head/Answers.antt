use Rattle.std.proofs.Common.{◌∙◌, append_assoc}
use Rattle.lynx_status.specs.Chains.{hop_head}
use Rattle.lynx_status.proofs.chain.put_hop_head.Goals as goal

pub returns : goal.returns
unfolding hop_head
returns c = c.in_ok-write.ensures.bytes ∙ simp append_assoc
