use Rattle.std.proofs.Common.{◌+◌, ◌++◌, sym, ap, ◌∙◌, drop, List}
use Rattle.lynx_world.specs.Placed.{Placed}
use Rattle.lynx_chart.specs.Chains.{all_chains, begun_shapes}
use Rattle.lynx_chart.specs.Drawings.{given}
use Rattle.lynx_chart.specs.Shapes.{drawn}
use Rattle.lynx_chart.proofs.Drawn.{next_drawn}
use Rattle.lynx_chart.proofs.Rests.{rest_at}
use Rattle.lynx_chart.proofs.chains.put_chains.Goals as goal

pub loop-place-preserved : goal.loop-place-preserved
loop-place-preserved c =
    let list = c.args.by.now.world.now.list in
    let by = given c.args.by.now in
    let place = c.loop-place.place in
    let placed : Placed = record { server = c.listed_at.result.server; entry = c.listed_at.result.entry.now } in
    let rest = rest_at list place placed (sym c.listed_at.ensures) in
    next_drawn c.loop-place.out.items c.put_begun.new.out.items (c.args.out.now.items ++ drawn (all_chains by list)) (begun_shapes by (drop place list) placed.entry)
    (all_chains by (drop (place + 1) list)) (all_chains by (drop place list)) c.loop-place.invariant c.in_ok-put_begun.ensures
    (ap (all_chains by) rest ∙ ap (λ (l : List Placed). begun_shapes by l placed.entry ++ all_chains by (drop (place + 1) list)) (sym rest))
