use Rattle.std.proofs.Common.{◌∙◌, append_assoc}
use Rattle.lynx_status.specs.Cells.{pair_json}
use Rattle.lynx_status.proofs.cells.put_pair.Goals as goal

pub returns : goal.returns
unfolding pair_json
returns c = c.in_ok-write.ensures.bytes ∙ simp append_assoc
