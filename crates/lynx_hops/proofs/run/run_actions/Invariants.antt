use Rattle.std.proofs.Common.{◌≡◌, ◌≤◌, drop}
use Rattle.lynx_hops.specs.Meaning.{run}
use Rattle.lynx_hops.specs.inner.Runs.{outcome_of}
use Rattle.lynx_hops.proofs.run.run_actions.Given as goal

-- what the actions come to stays
abbrev pub invariant-loop-action : goal.invariant-loop-action
invariant-loop-action l = record {
  same : outcome_of l.running (drop l.action-index l.actions) ≡ run l.fn.args 0 l.actions l.fn.names l.fn.cells.database;
  counted : l.running.needs ≤ l.action-index;
  same_cells : l.running.cells ≡ l.initial.running.cells;
  lent : l.running.cells.now ≡ l.fn.cells;
}
