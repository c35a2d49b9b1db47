use Rattle.std.proofs.Common.{◌++◌, sym, ap, ◌∙◌}
use Rattle.lynx_notice.proofs.Cutting.{line_again, next_is, port_is, port_next}
use Rattle.lynx_notice.proofs.notice.port_after.Goals as goal

pub returns-in_err-digits-clause-only : goal.returns-in_err-digits-clause-only
returns-in_err-digits-clause-only c port rest small told =
    let next = port_next c.args.text.now c.args.words.now c.in_ok-behind.behind.now rest port small c.in_ok-behind.ensures.found told in
    let none = c.in_err-digits.ensures.value in
    absurd cc

pub returns-in_err-port_of-clause-only : goal.returns-in_err-port_of-clause-only
returns-in_err-port_of-clause-only c port rest small told =
    let is = port_is c.args.text.now c.args.words.now c.in_ok-behind.behind.now c.in_ok-digits.digits.now rest c.in_ok-digits.rest.now port small
    c.in_ok-behind.ensures.found (sym c.in_ok-digits.ensures.value) told in
    let found = c.in_err-port_of.ensures.only port small is.0 in
    absurd cc

pub returns-clause-found : goal.returns-clause-found
returns-clause-found c =
    line_again c.args.text.now c.args.words.now c.in_ok-digits.digits.now c.in_ok-digits.rest.now c.in_ok-port_of.field-0
    (c.in_ok-behind.ensures.found ∙ ap (λ b. c.args.words.now ++ b) (next_is c.in_ok-behind.behind.now c.in_ok-digits.digits.now c.in_ok-digits.rest.now (sym c.in_ok-digits.ensures.value)))
    c.in_ok-port_of.ensures.found

pub returns-clause-only : goal.returns-clause-only
returns-clause-only c port rest small told =
    let is = port_is c.args.text.now c.args.words.now c.in_ok-behind.behind.now c.in_ok-digits.digits.now rest c.in_ok-digits.rest.now port small
    c.in_ok-behind.ensures.found (sym c.in_ok-digits.ensures.value) told in
    let found = c.in_ok-port_of.ensures.only port small is.0 in
    let more = is.1 in
    cc
