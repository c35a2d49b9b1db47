use Rattle.lynx_resting.proofs.Fronts.{rests_delivered, rests_either}
use Rattle.lynx_resting.proofs.resting.Resting.deliver.Goals as goal

pub invariant_of-self : goal.invariant_of-self
invariant_of-self g c =
    let terms = g.K.Keeper.terms in
    let old = c.self.inside.server in
    let new = c.deliver.new.self in
    rests_either terms old new c.self.inside.settled c.self.inside.mirror c.self.invariant (λ stops. (c.deliver.ensures.stopped stops).1)
    (λ runs. rests_delivered terms old new c.self.inside.settled c.self.inside.mirror c.self.invariant c.args.message c.deliver.result _ (c.deliver.ensures.delivers runs) (c.deliver.ensures.lasts runs))
