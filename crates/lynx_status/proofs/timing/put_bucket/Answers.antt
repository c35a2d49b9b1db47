use Rattle.std.proofs.Common.{◌∙◌, append_assoc}
use Rattle.lynx_status.specs.Histograms.{bucket_line}
use Rattle.lynx_status.proofs.timing.put_bucket.Goals as goal

pub returns : goal.returns
unfolding bucket_line
returns c = c.in_ok-write.ensures.bytes ∙ simp (c.total-count.ensures, append_assoc)
