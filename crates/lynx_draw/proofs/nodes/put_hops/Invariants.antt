use Rattle.std.proofs.Common.{◌≡◌, ◌+◌, ◌*◌, ◌≤◌, ◌++◌, drop}
use Rattle.lynx_draw.specs.Nodes.{hops_text}
use Rattle.lynx_draw.proofs.nodes.put_hops.Given as goal

-- what is written and what is left are the whole; each hop binds few names
abbrev pub invariant-loop-number : goal.invariant-loop-number
invariant-loop-number l = record {
  written : l.out.items ++ hops_text l.set l.names l.program l.again l.place l.number (drop l.number l.hops) ≡ l.fn.out.items ++ hops_text l.set l.names l.program l.again l.initial.place 0 l.hops;
  few : l.place ≤ 8 + 16 * l.number;
}
