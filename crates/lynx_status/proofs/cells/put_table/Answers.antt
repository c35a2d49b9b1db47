use Rattle.std.proofs.Common.{◌∙◌, append_assoc}
use Rattle.lynx_status.specs.Cells.{table_head}
use Rattle.lynx_status.proofs.cells.put_table.Goals as goal

pub returns : goal.returns
unfolding table_head
returns c = c.in_ok-write.ensures.bytes ∙ simp append_assoc
