use Rattle.std.proofs.Common.{ℕ, length, ap, subst, sym}
use Rattle.lynx_resting.specs.Resting.{IsResting}
use Rattle.lynx_resting.proofs.Fronts.{rests_settled}
use Rattle.lynx_resting.proofs.resting.Resting.settle.Goals as goal

pub invariant_of-self : goal.invariant_of-self
invariant_of-self g c =
    let terms = g.K.Keeper.terms in
    subst (λ (n : ℕ). IsResting terms c.settle.new.self n c.self.inside.mirror) (ap length (sym c.history.ensures.value))
    (rests_settled terms c.self.inside.server c.settle.new.self c.self.inside.settled c.self.inside.mirror c.settle.result c.self.invariant c.settle.ensures.stopped c.settle.ensures.settles c.if-settle.true)
