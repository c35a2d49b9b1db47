use Rattle.std.proofs.Common.{subst}
use Rattle.std.specs.Prelude.{All}
use Rattle.lynx_order.specs.inner.Picks.{IsMarked, IsPart, IsRound}
use Rattle.lynx_order.proofs.Marks.{all_of_in, ok_weaker, part_left, round_of_part}
use Rattle.lynx_order.proofs.cycle.round_from.Goals as goal

pub returns-clause-round : goal.returns-clause-round
returns-clause-round c =
    ok_weaker c.part_of.result (IsPart c.as_slice.result.now c.in_ok-trail.trail.current) (IsRound c.args.table.now)
    (λ round part. round_of_part c.args.table.now c.args.left.now c.in_ok-trail.trail.path round c.in_ok-trail.trail.current c.requires.whole
    c.in_ok-trail.ensures (subst (λ p. IsPart p c.in_ok-trail.trail.current round) c.as_slice.ensures part))
    c.part_of.ensures

pub returns-clause-all_left : goal.returns-clause-all_left
returns-clause-all_left c =
    ok_weaker c.part_of.result (IsPart c.as_slice.result.now c.in_ok-trail.trail.current) (λ round. All (IsMarked c.args.left.now) round)
    (λ round part. all_of_in (IsMarked c.args.left.now) round (part_left c.args.table.now c.args.left.now c.in_ok-trail.trail.path round c.in_ok-trail.trail.current
    c.in_ok-trail.ensures (subst (λ p. IsPart p c.in_ok-trail.trail.current round) c.as_slice.ensures part)))
    c.part_of.ensures
