use Rattle.std.proofs.Common.{◌∙◌, append_assoc}
use Rattle.lynx_status.specs.Metrics.{build_text}
use Rattle.lynx_status.proofs.metrics.put_build.Goals as goal

pub returns : goal.returns
unfolding build_text
returns c =
    c.in_ok-push_str.ensures.bytes
    ∙ simp (c.in_ok-put_hash.ensures, c.in_ok-write.ensures.bytes, c.in_ok-put_head.ensures, append_assoc)
