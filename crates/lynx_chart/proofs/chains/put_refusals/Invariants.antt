use Rattle.std.proofs.Common.{◌≡◌, ◌++◌, drop}
use Rattle.std.specs.List.{flat_map}
use Rattle.lynx_chart.specs.Chains.{refusal_shapes}
use Rattle.lynx_chart.specs.Shapes.{drawn}
use Rattle.lynx_chart.proofs.chains.put_refusals.Given as goal

-- what is written and what is left are the whole
abbrev pub invariant-loop-place : goal.invariant-loop-place
invariant-loop-place l =
    l.out.items ++ drawn (flat_map (refusal_shapes l.by.world.now.set l.by.explained.now l.by.stamps.now) (drop l.place l.by.world.now.list))
    ≡ l.fn.out.items ++ drawn (flat_map (refusal_shapes l.by.world.now.set l.by.explained.now l.by.stamps.now) l.by.world.now.list)
