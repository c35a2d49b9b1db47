use Rattle.std.proofs.Common.{◌≡◌, ◌++◌, drop}
use Rattle.lynx_draw.specs.Clusters.{parameters_text}
use Rattle.lynx_draw.proofs.clusters.put_names.Given as goal

-- what is written and what is left are the whole
abbrev pub invariant-loop-name : goal.invariant-loop-name
invariant-loop-name l = record {
  counted : l.place ≡ l.name-index;
  written : l.out.items ++ parameters_text l.ranges l.place (drop l.name-index l.names) ≡ l.fn.out.items ++ parameters_text l.ranges 0 l.names;
}
