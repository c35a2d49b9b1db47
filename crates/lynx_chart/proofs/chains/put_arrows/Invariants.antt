use Rattle.std.proofs.Common.{◌≡◌, ◌++◌, drop}
use Rattle.std.specs.List.{flat_map}
use Rattle.lynx_chart.specs.Chains.{arrow_shapes}
use Rattle.lynx_chart.specs.Shapes.{drawn}
use Rattle.lynx_chart.proofs.chains.put_arrows.Given as goal

-- what is written and what is left are the whole
abbrev pub invariant-loop-sent : goal.invariant-loop-sent
invariant-loop-sent l =
    l.out.items ++ drawn (flat_map (arrow_shapes l.set l.notices l.chain) (drop l.sent-index l.messages))
    ≡ l.fn.out.items ++ drawn (flat_map (arrow_shapes l.set l.notices l.chain) l.messages)
