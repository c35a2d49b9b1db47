use Rattle.std.proofs.Common.{◌≡◌, ◌++◌, drop}
use Rattle.lynx_chart.specs.Chains.{all_chains}
use Rattle.lynx_chart.specs.Drawings.{given}
use Rattle.lynx_chart.specs.Shapes.{drawn}
use Rattle.lynx_chart.proofs.chains.put_chains.Given as goal

-- what is written and what is left are the whole
abbrev pub invariant-loop-place : goal.invariant-loop-place
invariant-loop-place l =
    l.out.items ++ drawn (all_chains (given l.by) (drop l.place l.by.world.now.list))
    ≡ l.fn.out.items ++ drawn (all_chains (given l.by) l.by.world.now.list)
