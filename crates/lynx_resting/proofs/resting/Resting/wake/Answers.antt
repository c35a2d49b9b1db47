use Rattle.lynx_resting.proofs.Fronts.{rests_woken, rests_either}
use Rattle.lynx_resting.proofs.resting.Resting.wake.Goals as goal

pub invariant_of-self : goal.invariant_of-self
invariant_of-self g c =
    let terms = g.K.Keeper.terms in
    let old = c.self.inside.server in
    let new = c.wake.new.self in
    rests_either terms old new c.self.inside.settled c.self.inside.mirror c.self.invariant (λ stops. (c.wake.ensures.stopped stops).1)
    (λ runs. rests_woken terms old new c.self.inside.settled c.self.inside.mirror c.self.invariant c.wake.result _ (c.wake.ensures.wakes runs) (c.wake.ensures.lasts runs))
