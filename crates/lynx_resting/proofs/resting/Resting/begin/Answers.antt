use Rattle.lynx_resting.proofs.Fronts.{rests_begun, rests_either}
use Rattle.lynx_resting.proofs.resting.Resting.begin.Goals as goal

pub invariant_of-self : goal.invariant_of-self
invariant_of-self g c =
    let terms = g.K.Keeper.terms in
    let old = c.self.inside.server in
    let new = c.begin.new.self in
    rests_either terms old new c.self.inside.settled c.self.inside.mirror c.self.invariant (λ stops. (c.begin.ensures.stopped stops).1)
    (λ runs. rests_begun terms old new c.self.inside.settled c.self.inside.mirror c.self.invariant c.args.request c.args.seen c.begin.result _ (c.begin.ensures.begins runs) (c.begin.ensures.lasts runs))
