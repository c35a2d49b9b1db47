use Rattle.lynx_report.specs.Checks.{edge_lines}
use Rattle.lynx_lines.proofs.Parts.{on_err, part_after, part_of_more}
use Rattle.lynx_report.proofs.RunLemmas.{appends_on}
use Rattle.lynx_report.proofs.verdict.write_offending.Goals as goal

pub returns-clause-lines : goal.returns-clause-lines
returns-clause-lines g c = appends_on _ _ _ _ _ c.write_walk.result c.in_ok-write_bytes.ensures.all c.write_walk.ensures.lines

pub returns-clause-part : goal.returns-clause-part
returns-clause-part g c = part_after _ _ _ _ _ c.write_walk.result c.in_ok-write_bytes.ensures.all c.write_walk.ensures.part

pub returns-in_err-write_bytes-clause-part : goal.returns-in_err-write_bytes-clause-part
returns-in_err-write_bytes-clause-part g c =
    on_err c.from_residual.result (part_of_more _ _ _ (edge_lines c.args.set.now c.args.walk.now) c.in_err-write_bytes.ensures.part)
