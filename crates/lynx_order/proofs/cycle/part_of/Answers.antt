use Rattle.std.proofs.Common.{take, drop, suc, arith}
use Rattle.lynx_order.proofs.Marks.{around_item, item_place}
use Rattle.lynx_order.proofs.cycle.part_of.Goals as goal

pub returns-then-place-current : goal.returns-then-place-current
returns-then-place-current c =
    let i = c.loop-place.place-index in
    record {
      part = take i c.args.path.now;
      older = drop (suc i) c.args.path.now;
      whole = around_item c.args.path.now i c.args.current c.loop-place-test.true c.if-place-current.true;
      is = c.loop-place.invariant.0;
    }

pub returns : goal.returns
returns c =
    let found = item_place c.args.current c.args.path.now c.requires in
    absurd (c.loop-place.invariant.1 found.0 (omega arith) found.2)
