use Rattle.std.proofs.Common.{◌∙◌, append_assoc}
use Rattle.lynx_status.specs.Histograms.{count_line}
use Rattle.lynx_status.proofs.timing.put_count.Goals as goal

pub returns : goal.returns
unfolding count_line
returns c = c.in_ok-write.ensures.bytes ∙ simp (c.total-count.ensures, append_assoc)
