use Rattle.std.proofs.Common.{ℕ, List, false, sym, subst, ◌∙◌}
use Rattle.std.proofs.Math.ListN.{set}
use Rattle.lynx_order.specs.inner.Picks.{IsMarked, IsTrail}
use Rattle.lynx_order.proofs.Marks.{mark_count-set, marked_read, trail_more}
use Rattle.lynx_order.proofs.cycle.walk_back.Goals as goal

pub back-preserved : goal.back-preserved
back-preserved c =
    let marked : IsMarked c.back.fresh.items c.back.current = marked_read c.args.left.now c.back.fresh.items c.back.current c.index.result.now
    (c.requires.whole ∙ sym c.back.invariant.whole) c.back.invariant.is_left c.index.ensures c.back-test.true in
    subst {A = List ℕ} (λ p. IsTrail c.args.table.now c.args.left.now (set c.back.fresh.items c.back.current false) p c.step_back-current.result) (sym {A = List ℕ} c.in_ok-insert.ensures.items)
    (trail_more c.args.table.now c.args.left.now c.back.fresh.items c.back.path.items c.back.current c.step_back-current.result c.back.invariant
    marked c.step_back-current.ensures)

pub back-smaller : goal.back-smaller
back-smaller c =
    let marked : IsMarked c.back.fresh.items c.back.current = marked_read c.args.left.now c.back.fresh.items c.back.current c.index.result.now
    (c.requires.whole ∙ sym c.back.invariant.whole) c.back.invariant.is_left c.index.ensures c.back-test.true in
    mark_count-set c.back.fresh.items c.back.current marked
