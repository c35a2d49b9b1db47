use Rattle.std.proofs.Common.{Some, None, subst}
use Rattle.lynx_check.specs.declared.accepted.Reason.TheVariants.{Walks, Blocks}
use Rattle.lynx_check.specs.Reasons.{Accepted, IsExcuse, IsReason}
use Rattle.lynx_check.proofs.Accepting.{reason_from_excuse}
use Rattle.lynx_check.proofs.accepted.AcceptedSet.reason.Goals as goal

pub returns-in-Some-clause-right : goal.returns-in-Some-clause-right
returns-in-Some-clause-right c =
    subst (λ (own : Accepted). IsReason own.set Blocks) c.self.view_is
    (reason_from_excuse c.self.inside.set (Some c.in-Some.field-0) (subst (IsExcuse c.self.inside.set) c.in-Some.is c.self.invariant))

pub returns-in-None-clause-right : goal.returns-in-None-clause-right
returns-in-None-clause-right c =
    subst (λ (own : Accepted). IsReason own.set Walks) c.self.view_is
    (reason_from_excuse c.self.inside.set None (subst (IsExcuse c.self.inside.set) c.in-None.is c.self.invariant))
