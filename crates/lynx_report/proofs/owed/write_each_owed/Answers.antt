use Rattle.std.proofs.Common.{◌∙◌, subst}
use Rattle.lynx_report.specs.Owed.{owed_line}
use Rattle.lynx_report.specs.Written.{AppendsPart}
use Rattle.lynx_lines.proofs.Parts.{line_cut, lines_so_far, on_err}
use Rattle.lynx_report.proofs.owed.write_each_owed.Goals as goal

pub returns-in_err-line-clause-part : goal.returns-in_err-line-clause-part
returns-in_err-line-clause-part g c =
    on_err c.from_residual.result (lines_so_far owed_line _ _ c.args.owed.now c.loop-hop.hop-index c.loop-hop.invariant)

pub returns-in_err-write_bytes-clause-part : goal.returns-in_err-write_bytes-clause-part
returns-in_err-write_bytes-clause-part g c =
    on_err c.from_residual-in_err-write_bytes.result
    (line_cut owed_line _ _ _ c.args.owed.now c.loop-hop.hop-index c.hop-item.result c.loop-hop-test.true c.hop-item.is
    c.loop-hop.invariant (subst (AppendsPart _ _) (c.as_bytes.ensures.value ∙ c.in_ok-line.ensures) c.in_err-write_bytes.ensures.part))
