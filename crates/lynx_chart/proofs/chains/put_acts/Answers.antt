use Rattle.std.proofs.Common.{◌+◌, ◌++◌, sym, ap, drop}
use Rattle.std.specs.List.{flat_map}
use Rattle.lynx_world.specs.Placed.{Placed}
use Rattle.lynx_chart.specs.Chains.{act_shapes}
use Rattle.lynx_chart.specs.Shapes.{drawn}
use Rattle.lynx_chart.proofs.Drawn.{next_drawn}
use Rattle.lynx_chart.proofs.Rests.{rest_at}
use Rattle.lynx_chart.proofs.chains.put_acts.Goals as goal

pub loop-place-preserved : goal.loop-place-preserved
loop-place-preserved c =
    let set = c.args.by.now.world.now.set in
    let list = c.args.by.now.world.now.list in
    let place = c.loop-place.place in
    let own = act_shapes set c.args.by.now.explained.now c.args.by.now.stamps.now c.args.chain.now in
    let placed : Placed = record { server = c.listed_at.result.server; entry = c.listed_at.result.entry.now } in
    next_drawn c.loop-place.out.items c.put_act.new.out.items (c.args.out.now.items ++ drawn (flat_map own (drop c.args.from list))) (own placed) (flat_map own (drop (place + 1) list))
    (flat_map own (drop place list)) c.loop-place.invariant c.in_ok-put_act.ensures (ap (flat_map own) (rest_at list place placed (sym c.listed_at.ensures)))
