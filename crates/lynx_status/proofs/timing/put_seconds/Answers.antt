use Rattle.std.proofs.Common.{◌∙◌, ap, append_assoc, ◌%◌}
use Rattle.std.specs.Fmt.{styled_decimal}
use Rattle.lynx_status.specs.Histograms.{seconds_text}
use Rattle.lynx_status.proofs.Shown.{six_shown}
use Rattle.lynx_status.proofs.timing.put_seconds.Goals as goal

pub returns : goal.returns
unfolding seconds_text
returns c =
    let shown = ap (λ spec. styled_decimal spec (c.args.micros % 1000000)) c.laid_out.ensures ∙ six_shown (c.args.micros % 1000000) in
    simp append_assoc (rw shown at c.write.ensures.bytes)
