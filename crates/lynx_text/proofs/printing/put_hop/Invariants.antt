use Rattle.std.proofs.Common.{◌≡◌, ◌+◌, ◌≤◌, ◌++◌, drop}
use Rattle.lynx_set.specs.Text.{text, hop_lines, action_lines, bound_in}
use Rattle.lynx_text.proofs.printing.put_hop.Given as goal

abbrev pub invariant-loop-action : goal.invariant-loop-action
invariant-loop-action l = record {
  written : l.out.items ++ text (action_lines l.tables l.names l.next (drop l.action-index l.action-items)) ≡ l.fn.out.items ++ text (hop_lines l.tables l.names l.fn.place l.fn.hop);
  bound : l.next + bound_in (drop l.action-index l.action-items) ≡ l.fn.place + bound_in l.action-items;
  few : l.next ≤ l.fn.place + l.action-index;
}
