use Rattle.std.proofs.Common.{◌++◌, sym, ap, refl, ◌∙◌, Some, codes}
use Rattle.std.proofs.lemmas.List.{append_cancel_left}
use Rattle.lynx_notice.proofs.Telling.{no_value, pair_is, triple}
use Rattle.lynx_notice.proofs.notice.with_status.Goals as goal

pub returns-in_err-status-clause-only : goal.returns-in_err-status-clause-only
returns-in_err-status-clause-only c status set small told = absurd (no_value (c.in_err-status.ensures.only status (codes "--\n" ++ set) small told))

pub returns-in_err-set-clause-only : goal.returns-in_err-set-clause-only
returns-in_err-set-clause-only c status set small told =
    let is = pair_is _ _ _ _ (c.in_ok-status.ensures.only status (codes "--\n" ++ set) small told) in
    absurd (c.in_err-set.ensures.none set is.1)

pub returns-clause-only : goal.returns-clause-only
returns-clause-only c status set small told =
    let is = pair_is _ _ _ _ (c.in_ok-status.ensures.only status (codes "--\n" ++ set) small told) in
    triple _ _ _ _ _ _ refl (ap Some is.0) (append_cancel_left (codes "--\n") c.in_ok-set.set.now set (sym c.in_ok-set.ensures.found ∙ is.1))
