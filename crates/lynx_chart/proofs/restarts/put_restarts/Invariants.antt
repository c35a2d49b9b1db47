use Rattle.std.proofs.Common.{◌≡◌, ◌≤◌, ◌++◌, drop, length}
use Rattle.lynx_chart.specs.Restarts.{all_restarts}
use Rattle.lynx_chart.specs.Shapes.{drawn}
use Rattle.lynx_chart.proofs.restarts.put_restarts.Given as goal

-- what is written and what is left are the whole
abbrev pub invariant-loop-outcome : goal.invariant-loop-outcome
invariant-loop-outcome l =
    record {
      written : l.out.items ++ drawn (all_restarts l.stamps (drop l.place l.world.list) (drop l.outcome-index l.outcomes))
          ≡ l.fn.out.items ++ drawn (all_restarts l.stamps l.world.list l.outcomes);
      within : l.place ≤ length l.world.list;
    }
