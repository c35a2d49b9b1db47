use Rattle.std.proofs.Common.{◌∙◌, append_assoc}
use Rattle.lynx_status.specs.Families.{begin_line}
use Rattle.lynx_status.proofs.outcomes.put_begin.Goals as goal

pub returns : goal.returns
unfolding begin_line
returns c =
    c.in_ok-write-2.ensures.bytes ∙ simp (c.in_ok-write.ensures.bytes, c.bool_text-again.ensures, append_assoc)
