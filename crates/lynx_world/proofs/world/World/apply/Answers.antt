use Rattle.std.proofs.Common.{sym, subst}
use Rattle.lynx_names.specs.declared.limits.TheConstants.{MAX_HELD}
use Rattle.lynx_world.specs.Steps.{HasGrown, Step}
use Rattle.lynx_world.proofs.Growing.{step-grows}
use Rattle.lynx_world.proofs.world.World.apply.Goals as goal

pub returns-in-Ok-clause-list : goal.returns-in-Ok-clause-list
returns-in-Ok-clause-list c =
    subst (λ (s : Step). HasGrown c.args.self.now.list s.world.list) (sym c.in-Ok.ensures.ok)
    (step-grows MAX_HELD c.args.self.now c.args.event)
