use Rattle.std.proofs.Common.{OnOk, sym, ◌∙◌, subst}
use Rattle.std.specs.Io.KnownBytes.{Appends}
use Rattle.lynx_check.specs.declared.accepted.Reason.{Reason}
use Rattle.lynx_report.specs.Checks.{accepted_line}
use Rattle.lynx_report.proofs.verdict.write_accepted.Goals as goal

pub returns-in-Blocks-clause-line : goal.returns-in-Blocks-clause-line
returns-in-Blocks-clause-line g c =
    subst (λ (reason : Reason). OnOk c.write_bytes-in-Blocks.result (Appends (g.W.Write.contents c.args.writer.now) (g.W.Write.contents c.write_bytes-in-Blocks.new.writer) (accepted_line reason)))
    (sym c.in-Blocks.is ∙ c.reason.ensures.value) c.write_bytes-in-Blocks.ensures.all
