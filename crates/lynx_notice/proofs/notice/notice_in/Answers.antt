use Rattle.std.proofs.Common.{◌<◌, ◌^◌, ◌++◌, sym, subst, refl, ◌∙◌, ℕ, Option, codes}
use Rattle.std.specs.Prelude.{IfSome}
use Rattle.lynx_notice.specs.Notices.{status_line}
use Rattle.lynx_notice.proofs.Telling.{no_status, no_value, pair_is, some_status, triple}
use Rattle.lynx_notice.proofs.notice.notice_in.Goals as goal

pub returns-in_err-port-clause-only : goal.returns-in_err-port-clause-only
returns-in_err-port-clause-only c port status set small fits told =
    absurd (no_value (c.in_err-port.ensures.only port (status_line status ++ (codes "--\n" ++ set)) small told))

pub returns-in-Some-clause-only : goal.returns-in-Some-clause-only
returns-in-Some-clause-only c port status set small fits told =
    let is = pair_is _ _ _ _ (c.in_ok-port.ensures.only port (status_line status ++ (codes "--\n" ++ set)) small told) in
    let none = no_status c.in_ok-port.rest.now c.in-Some.set.now set status c.in-Some.ensures.found is.1 in
    triple _ _ _ _ _ _ is.0 (sym none.0) none.1

pub returns-in-None-clause-only : goal.returns-in-None-clause-only
returns-in-None-clause-only c port status set small fits told =
    let is = pair_is _ _ _ _ (c.in_ok-port.ensures.only port (status_line status ++ (codes "--\n" ++ set)) small told) in
    let some = some_status c.in_ok-port.rest.now set status c.in-None.ensures.none is.1 in
    let fit : some.0 < 2 ^ 16 = subst (λ (s : Option ℕ). IfSome s (λ own. own < 2 ^ 16)) some.1 fits in
    c.with_status.ensures.only some.0 set fit some.2 ∙ triple _ _ _ _ _ _ is.0 (sym some.1) refl
