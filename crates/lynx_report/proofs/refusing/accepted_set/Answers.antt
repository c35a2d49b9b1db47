use Rattle.lynx_report.proofs.Printed.{refusal_begun}
use Rattle.lynx_lines.proofs.Parts.{on_err}
use Rattle.lynx_report.proofs.refusing.accepted_set.Goals as goal

pub returns-in_err-is_accepted-clause-part : goal.returns-in_err-is_accepted-clause-part
returns-in_err-is_accepted-clause-part g c =
    on_err c.from_residual-in_err-is_accepted.result (refusal_begun _ _ c.args.text.now c.in_ok-set.set c.in_ok-set.ensures.found c.in_err-is_accepted.ensures.part)

pub returns-then-branch-clause-accepted : goal.returns-then-branch-clause-accepted
returns-then-branch-clause-accepted g c = record {
  is_set = c.in_ok-set.ensures.found.0;
  spelled = c.in_ok-set.ensures.found.1;
  accepted = c.in_ok-is_accepted.ensures.yes c.if-branch.true;
}
