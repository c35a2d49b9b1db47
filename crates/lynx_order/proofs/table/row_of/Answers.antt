use Rattle.lynx_order.specs.Touchings.{precede_at}
use Rattle.lynx_order.proofs.Tables.{map_range_more}
use Rattle.lynx_order.proofs.table.row_of.Goals as goal

pub loop-one-preserved : goal.loop-one-preserved
loop-one-preserved c =
    let more = map_range_more (precede_at c.args.all.now c.args.other) c.loop-one.one in
    cc (more, c.in_ok-push.ensures.ok, c.precede_at.ensures, c.loop-one.invariant)
