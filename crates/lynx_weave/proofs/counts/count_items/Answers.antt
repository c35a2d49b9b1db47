use Rattle.std.proofs.Common.{◌∙◌, sym, arith}
use Rattle.lynx_weave.proofs.Counting.{room_for}
use Rattle.lynx_weave.proofs.counts.count_items.Goals as goal

pub overflow_add-fresh : goal.overflow_add-fresh
overflow_add-fresh c =
    let room = room_for c.args.items.now c.loop-item.item-index c.index-number.result c.item-item.result (omega arith) c.item-item.is
    (sym c.is_fresh.ensures ∙ c.if-is_fresh.true) (c.index-number.ensures.value ∙ c.server.ensures) in
    let counted = c.loop-item.invariant c.index-number.result c.if-number-fresh.true in
    let fits = c.requires c.index-number.result (omega arith) in
    omega arith
