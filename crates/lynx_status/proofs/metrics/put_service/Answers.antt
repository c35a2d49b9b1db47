use Rattle.std.proofs.Common.{◌∙◌, append_assoc}
use Rattle.lynx_status.proofs.metrics.put_service.Goals as goal

pub returns : goal.returns
returns c =
    c.in_ok-put_single-5.ensures
    ∙ simp (c.in_ok-put_single-4.ensures, c.in_ok-put_single-3.ensures, c.in_ok-put_single-2.ensures, c.in_ok-put_single.ensures, append_assoc)
