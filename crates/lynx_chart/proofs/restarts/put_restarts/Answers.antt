use Rattle.std.proofs.Common.{◌+◌, ◌++◌, ◌∷◌, ◌∙◌, List, ap, drop, sym}
use Rattle.std.proofs.lemmas.List.{at_drop_more}
use Rattle.lynx_world.specs.Placed.{Placed}
use Rattle.lynx_chart.specs.Restarts.{all_restarts, left_behind, restart_shapes}
use Rattle.lynx_chart.specs.Shapes.{drawn}
use Rattle.lynx_chart.proofs.Drawn.{next_drawn}
use Rattle.lynx_chart.proofs.restarts.put_restarts.Goals as goal

pub loop-outcome-preserved : goal.loop-outcome-preserved
loop-outcome-preserved c =
    let list = c.args.world.now.list in
    let stamps = c.args.stamps.now in
    let outcomes = c.args.outcomes.now in
    let index = c.loop-outcome.outcome-index in
    let outcome = c.outcome-item.result in
    let left = drop c.loop-outcome.place list in
    let rest = drop (index + 1) outcomes in
    record {
      written = ap (λ (later : List Placed). c.put_outcome.new.out.items ++ drawn (all_restarts stamps later rest)) c.place_behind-place.ensures.behind
          ∙ next_drawn c.loop-outcome.out.items c.put_outcome.new.out.items (c.args.out.now.items ++ drawn (all_restarts stamps list outcomes)) (restart_shapes stamps left outcome)
          (all_restarts stamps (left_behind outcome left) rest) (all_restarts stamps left (drop index outcomes)) c.loop-outcome.invariant.written c.in_ok-put_outcome.ensures
          (at_drop_more (all_restarts stamps left) outcomes index outcome c.loop-outcome-test.true ∙ ap (λ first. all_restarts stamps left (first ∷ rest)) (sym c.outcome-item.is));
      within = c.place_behind-place.ensures.within;
    }
