use Rattle.std.proofs.Common.{false, sym, subst}
use Rattle.std.proofs.Math.ListN.{set}
use Rattle.lynx_order.specs.inner.Picks.{AreHints, ArePicked, IsFree}
use Rattle.lynx_order.proofs.Marks.{hints_fewer, mark_count-set, picked_more}
use Rattle.lynx_order.proofs.picked.pick_all.Goals as goal

pub loop-place-preserved : goal.loop-place-preserved
loop-place-preserved c =
    let free = subst (λ l. IsFree c.args.table.now l c.in-Some.place) c.as_slice.ensures.value c.in-Some.ensures.found in
    record {
      picked = subst (λ o. ArePicked c.args.table.now o (set c.loop-place.left.items c.in-Some.place false)) (sym c.in_ok-push.ensures.ok)
          (picked_more c.args.table.now c.loop-place.order c.loop-place.left.items c.in-Some.place c.loop-place.invariant.picked free);
      hints = hints_fewer c.args.table.now c.loop-place.left.items c.first_free.new.hints.items c.in-Some.place free.within
          (subst (λ l. AreHints c.args.table.now l c.first_free.new.hints.items) c.as_slice.ensures.value c.in-Some.ensures.hints);
    }

pub loop-place-smaller : goal.loop-place-smaller
loop-place-smaller c =
    let free = subst (λ l. IsFree c.args.table.now l c.in-Some.place) c.as_slice.ensures.value c.in-Some.ensures.found in
    mark_count-set c.loop-place.left.items c.in-Some.place free.is_left
