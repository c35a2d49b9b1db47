use Rattle.std.proofs.Common.{◌∙◌, subst}
use Rattle.lynx_report.specs.Checks.{edge_line}
use Rattle.lynx_report.specs.Written.{AppendsPart}
use Rattle.lynx_lines.proofs.Parts.{line_cut, lines_so_far, on_err}
use Rattle.lynx_report.proofs.verdict.write_edges.Goals as goal

pub returns-in_err-line-clause-part : goal.returns-in_err-line-clause-part
returns-in_err-line-clause-part g c =
    on_err c.from_residual.result
    (lines_so_far (edge_line c.args.set.now) _ _ c.args.edges.now c.loop-visit.visit-index c.loop-visit.invariant)

pub returns-in_err-write_bytes-clause-part : goal.returns-in_err-write_bytes-clause-part
returns-in_err-write_bytes-clause-part g c =
    on_err c.from_residual-in_err-write_bytes.result
    (line_cut (edge_line c.args.set.now) _ _ _ c.args.edges.now c.loop-visit.visit-index c.loop-visit-item.result c.loop-visit-test.true c.loop-visit-item.is
    c.loop-visit.invariant (subst (AppendsPart _ _) (c.as_slice.ensures.value ∙ c.in_ok-line.ensures) c.in_err-write_bytes.ensures.part))
