use Rattle.std.proofs.Common.{◌≡◌, ◌++◌, drop}
use Rattle.lynx_chart.specs.Links.{link_shapes}
use Rattle.lynx_chart.specs.Shapes.{drawn}
use Rattle.lynx_chart.proofs.links.put_each_link.Given as goal

-- what is written and what is left are the whole
abbrev pub invariant-loop-number : goal.invariant-loop-number
invariant-loop-number l =
    l.out.items ++ drawn (link_shapes l.world.set l.world.list l.stamps l.number (drop l.number l.links))
    ≡ l.fn.out.items ++ drawn (link_shapes l.world.set l.world.list l.stamps 0 l.links)
