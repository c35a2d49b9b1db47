use Rattle.std.proofs.Common.{List, inr, sym, subst}
use Rattle.lynx_check.specs.declared.verdict.Verdict.TheVariants.{Offending as OffendingVerdict}
use Rattle.lynx_graph.specs.declared.visit.Visit.{Visit}
use Rattle.lynx_check.specs.Verdicts.{Judges}
use Rattle.lynx_check.proofs.Accepting.{accepted_from_excuse}
use Rattle.lynx_lines.proofs.Parts.{on_err}
use Rattle.lynx_report.proofs.Printed.{offending_printed}
use Rattle.lynx_report.proofs.refusing.accept_or_write.Goals as goal

pub returns-in-Accepted-clause-yes : goal.returns-in-Accepted-clause-yes
returns-in-Accepted-clause-yes g c =
    λ _. accepted_from_excuse c.args.set.now c.in-Accepted.field-0.excused (subst (Judges c.args.set.now) c.in-Accepted.is c.requires).1

pub returns-in_ok-write_offending-in-Offending-clause-no : goal.returns-in_ok-write_offending-in-Offending-clause-no
returns-in_ok-write_offending-in-Offending-clause-no g c = λ _. (
  _,
  offending_printed c.args.set.now c.as_slice.result.now c.in-Offending.field-1
      (subst (λ (walk : List Visit). Judges c.args.set.now (OffendingVerdict walk c.in-Offending.field-1)) (sym c.as_slice.ensures) (subst (Judges c.args.set.now) c.in-Offending.is c.requires)),
  c.in_ok-write_offending-in-Offending.ensures.lines,
)

pub returns-in_err-write_offending-in-Offending-clause-part : goal.returns-in_err-write_offending-in-Offending-clause-part
returns-in_err-write_offending-in-Offending-clause-part g c =
    on_err c.from_residual.result
    (inr (
      _,
      offending_printed c.args.set.now c.as_slice.result.now c.in-Offending.field-1
          (subst (λ (walk : List Visit). Judges c.args.set.now (OffendingVerdict walk c.in-Offending.field-1)) (sym c.as_slice.ensures) (subst (Judges c.args.set.now) c.in-Offending.is c.requires)),
      c.in_err-write_offending-in-Offending.ensures.part,
    ))
