use Rattle.lynx_order.specs.Touchings.{row_of}
use Rattle.lynx_order.proofs.Tables.{map_range_more}
use Rattle.lynx_order.proofs.table.table_of.Goals as goal

pub loop-other-preserved : goal.loop-other-preserved
loop-other-preserved c =
    let more = map_range_more (row_of c.args.all.now) c.loop-other.other in
    cc (more, c.in_ok-push.ensures.ok, c.in_ok-row_of.ensures, c.loop-other.invariant)
