use Rattle.std.proofs.Common.{◌≡◌, ◌+◌, ◌≤◌, ◌++◌, drop}
use Rattle.lynx_set.specs.Text.{bound_in}
use Rattle.lynx_draw.specs.Nodes.{actions_text}
use Rattle.lynx_draw.proofs.nodes.put_actions.Given as goal

-- what is written and what is left are the whole, and so are the names bound; each action binds one at most
abbrev pub invariant-loop-action : goal.invariant-loop-action
invariant-loop-action l = record {
  written : l.out.items ++ actions_text l.tables l.names l.next (drop l.action-index l.action-items) ≡ l.fn.out.items ++ actions_text l.tables l.names l.fn.place l.action-items;
  bound : l.next + bound_in (drop l.action-index l.action-items) ≡ l.fn.place + bound_in l.action-items;
  few : l.next ≤ l.fn.place + l.action-index;
}
