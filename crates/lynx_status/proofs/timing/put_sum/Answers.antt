use Rattle.std.proofs.Common.{◌∙◌, append_assoc}
use Rattle.lynx_status.specs.Histograms.{sum_line}
use Rattle.lynx_status.proofs.timing.put_sum.Goals as goal

pub returns : goal.returns
unfolding sum_line
returns c =
    c.in_ok-push_str.ensures.bytes
    ∙ simp (c.in_ok-put_seconds.ensures, c.in_ok-write.ensures.bytes, append_assoc)
