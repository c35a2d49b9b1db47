use Rattle.std.proofs.Common.{◌≡◌, ◌+◌, ◌*◌, ◌≤◌, ◌++◌, drop}
use Rattle.lynx_set.specs.Text.{text, hops_lines}
use Rattle.lynx_text.proofs.printing.put_hops.Given as goal

abbrev pub invariant-loop-hop : goal.invariant-loop-hop
invariant-loop-hop l = record {
  written : l.out.items ++ text (hops_lines l.tables l.fn.program.names l.place (drop l.hop-index l.hop-items)) ≡ l.fn.out.items ++ text (hops_lines l.tables l.fn.program.names l.fn.program.parameters l.hop-items);
  few : l.place ≤ 8 + 16 * l.hop-index;
}
