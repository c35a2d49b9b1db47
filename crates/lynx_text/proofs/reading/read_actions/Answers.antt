use Rattle.std.proofs.Common.{◌≡◌, sym, ◌∙◌, length, arith}
use Rattle.std.proofs.lemmas.Result.{err_from_is_err_and}
use Rattle.lynx_set.specs.Plain.{plain_set, plain_program}
use Rattle.lynx_text.specs.Parts.{goes_action, next_action}
use Rattle.lynx_text.proofs.Loops.{parts_more, parts_fail, parts_done, Fails-from}
use Rattle.lynx_text.proofs.reading.read_actions.Goals as goal
use Rattle.lynx_text.proofs.reading.read_actions.Goals.{After-is_action_next}

asked : (c : After-is_action_next) → c.is_action_next.result ≡ goes_action c.actions.lines
asked c = c.is_action_next.ensures

pub actions-preserved : goal.actions-preserved
actions-preserved c = record {
  few = c.in_ok-add_action.ensures.few;
  hops = c.in_ok-add_action.ensures.hops ∙ c.actions.invariant.hops;
  shrinks = omega (arith, c.in_ok-add_action.ensures.shrinks, c.actions.invariant.shrinks);
  rest = parts_more goes_action (next_action (plain_set c.args.set.now) c.args.server) 16 (length c.actions.actions) (length c.add_action.new.actions) (plain_program c.actions.program, c.actions.actions) (plain_program c.add_action.new.program, c.add_action.new.actions) c.actions.lines c.add_action.new.lines _
      (sym (asked (goal.at.actions-preserved c).After-is_action_next) ∙ c.actions-test.true) c.in_ok-add_action.ensures.value c.in_ok-add_action.ensures.count c.in_ok-add_action.ensures.few c.actions.invariant.rest;
}

pub returns-in_err-add_action-clause-value : goal.returns-in_err-add_action-clause-value
returns-in_err-add_action-clause-value c =
    let p = err_from_is_err_and c.from_residual.result c.from_residual.ensures.1 in
    rw (p.1, p.2) (Fails-from c.in_err-add_action.field-0.0 ((next_action (plain_set c.args.set.now) c.args.server) (plain_program c.actions.program, c.actions.actions) c.actions.lines) _
    (λ none. parts_fail goes_action (next_action (plain_set c.args.set.now) c.args.server) _ (plain_program c.actions.program, c.actions.actions) c.actions.lines _ (sym (asked (goal.at.returns-in_err-add_action-clause-value c).After-is_action_next) ∙ c.actions-test.true) none c.actions.invariant.rest)
    c.in_err-add_action.ensures.value)

pub returns-clause-value : goal.returns-clause-value
returns-clause-value c =
    parts_done goes_action (next_action (plain_set c.args.set.now) c.args.server) _ (plain_program c.actions.program, c.actions.actions) c.actions.lines _ (sym (asked (goal.at.returns-clause-value c).After-is_action_next) ∙ c.actions-test.false) c.actions.invariant.rest
