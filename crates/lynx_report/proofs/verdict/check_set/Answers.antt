use Rattle.std.proofs.Common.{List, ℕ, ◌++◌, inr, sym, subst}
use Rattle.std.specs.Io.KnownBytes.{Appends}
use Rattle.lynx_lines.proofs.Parts.{appends_both, on_err, part_of_more, part_on}
use Rattle.lynx_report.specs.declared.verdict.Finding.{Finding}
use Rattle.lynx_report.specs.Checks.{finding_of, IsVerdictWith, verdict_lines}
use Rattle.lynx_report.specs.Written.{AppendsPart}
use Rattle.lynx_report.proofs.Printed.{verdict_with}
use Rattle.lynx_report.proofs.verdict.check_set.Goals as goal

pub returns-in_err-write_verdict-clause-part : goal.returns-in_err-write_verdict-clause-part
returns-in_err-write_verdict-clause-part g c =
    on_err c.from_residual-in_err-write_verdict.result
    (inr (
      finding_of c.in_ok-verdict.verdict,
      _,
      verdict_with c.args.options.why c.args.set.now c.in_ok-verdict.verdict c.in_ok-lines.lines.items c.in_ok-verdict.ensures c.in_ok-lines.ensures,
      part_of_more _ _ (verdict_lines c.args.set.now c.in_ok-verdict.verdict) c.in_ok-lines.lines.items c.in_err-write_verdict.ensures.part,
    ))

pub returns-in_err-write_bytes-clause-part : goal.returns-in_err-write_bytes-clause-part
returns-in_err-write_bytes-clause-part g c =
    on_err c.from_residual-in_err-write_bytes.result
    (inr (
      finding_of c.in_ok-verdict.verdict,
      _,
      verdict_with c.args.options.why c.args.set.now c.in_ok-verdict.verdict c.in_ok-lines.lines.items c.in_ok-verdict.ensures c.in_ok-lines.ensures,
      part_on _ _ _ (verdict_lines c.args.set.now c.in_ok-verdict.verdict) c.in_ok-lines.lines.items c.in_ok-write_verdict.ensures.lines
          (subst (λ (bytes : List ℕ). AppendsPart (g.W.Write.contents c.write_verdict.new.writer) (g.W.Write.contents c.write_bytes.new.writer) bytes) c.as_slice.ensures.value c.in_err-write_bytes.ensures.part),
    ))

pub returns-clause-ok : goal.returns-clause-ok
returns-clause-ok g c = (
  verdict_lines c.args.set.now c.in_ok-verdict.verdict ++ c.in_ok-lines.lines.items,
  subst (λ (finding : Finding). IsVerdictWith c.args.options.why c.args.set.now finding (verdict_lines c.args.set.now c.in_ok-verdict.verdict ++ c.in_ok-lines.lines.items))
      (sym c.finding_of.ensures)
      (verdict_with c.args.options.why c.args.set.now c.in_ok-verdict.verdict c.in_ok-lines.lines.items c.in_ok-verdict.ensures c.in_ok-lines.ensures),
  appends_both _ _ _ (verdict_lines c.args.set.now c.in_ok-verdict.verdict) c.in_ok-lines.lines.items c.in_ok-write_verdict.ensures.lines
      (subst (λ (bytes : List ℕ). Appends (g.W.Write.contents c.write_verdict.new.writer) (g.W.Write.contents c.write_bytes.new.writer) bytes) c.as_slice.ensures.value c.in_ok-write_bytes.ensures.all),
)
