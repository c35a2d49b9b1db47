use Rattle.std.proofs.Common.{subst}
use Rattle.lynx_check.specs.declared.verdict.Verdict.{Verdict}
use Rattle.lynx_check.specs.Verdicts.{Judges}
use Rattle.lynx_check.proofs.Accepting.{accepted_from_excuse}
use Rattle.lynx_cli.proofs.mending.is_accepted.Goals as goal

pub returns-in-Accepted-clause-yes : goal.returns-in-Accepted-clause-yes
returns-in-Accepted-clause-yes c = λ _.
    let judges = subst (λ (verdict : Verdict). Judges c.args.set.now verdict) c.in-Accepted.is c.in_ok-check.ensures in
    accepted_from_excuse c.args.set.now c.in-Accepted.field-0.excused judges.1
