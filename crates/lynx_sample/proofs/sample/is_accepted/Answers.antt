use Rattle.std.proofs.Common.{subst}
use Rattle.lynx_check.specs.declared.verdict.Verdict.{Verdict}
use Rattle.lynx_check.specs.Verdicts.{Judges}
use Rattle.lynx_check.proofs.Accepting.{accepted_from_excuse}
use Rattle.lynx_sample.proofs.sample.is_accepted.Goals as goal

pub returns-in-Accepted : goal.returns-in-Accepted
returns-in-Accepted c = λ is.
    let judges = subst (λ (verdict : Verdict). Judges c.args.set.now verdict) c.in-Accepted.is c.requires in
    accepted_from_excuse c.args.set.now c.in-Accepted.field-0.excused judges.1
