use Rattle.std.proofs.Common.{refl, sym, ◌∙◌, arith}
use Rattle.lynx_hops.proofs.Outcomes.{after_no_results, applied_none, outcome-at_end}
use Rattle.lynx_hops.proofs.run.run_actions.Goals as goal

pub loop-action-init : goal.loop-action-init
loop-action-init c = record {
  same = rw (c.new.ensures, c.new-2.ensures, applied_none) (after_no_results _);
  counted = omega arith;
  same_cells = refl;
  lent = refl;
}

pub returns-clause-ran : goal.returns-clause-ran
returns-clause-ran c =
    let spent = outcome-at_end c.loop-action.running c.args.actions.now c.loop-action.action-index (omega arith) in
    sym c.loop-action.invariant.same
    ∙ spent
    ∙ (rw (c.new-3.ensures.results, c.new-3.ensures.changes, c.loop-action.invariant.lent) refl)
