use Rattle.std.proofs.Common.{refl, subst, ⊎_elim}
use Rattle.std.proofs.lemmas.Bool.{false≢true}
use Rattle.lynx_check.specs.declared.verdict.Verdict.{Verdict}
use Rattle.lynx_check.specs.Verdicts.{Judges}
use Rattle.lynx_reasons.proofs.LeftOnes.{accepted_by_excuse}
use Rattle.lynx_reasons.proofs.without.is_accepted.Goals as goal

pub returns-in-Accepted : goal.returns-in-Accepted
returns-in-Accepted c = (
  λ is.
      let judges = subst (λ (verdict : Verdict). Judges c.args.set.now verdict) c.in-Accepted.is c.requires in
      accepted_by_excuse c.args.set.now c.in-Accepted.field-0.excused judges.1,
  λ accepted. refl,
)

pub returns-in-Offending : goal.returns-in-Offending
returns-in-Offending c =
    let judges = subst (λ (verdict : Verdict). Judges c.args.set.now verdict) c.in-Offending.is c.requires in (
      λ is. absurd (false≢true is),
      λ accepted. absurd (⊎_elim (λ none. none c.in-Offending.field-0 judges.0) (λ none. none c.in-Offending.field-1 judges.1) accepted),
    )
