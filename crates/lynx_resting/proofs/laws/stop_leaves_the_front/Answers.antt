use Rattle.std.proofs.Common.{subst}
use Rattle.lynx_server.specs.Keeping.{kept_of}
use Rattle.lynx_resting.specs.Resting.{RestingState, Rests, settled_front}
use Rattle.lynx_resting.proofs.laws.stop_leaves_the_front.Goals as goal

pub returns : goal.returns
returns g c runs sound =
    let here = c.args.resting.now in
    let rests = subst (λ (r : RestingState g.row.K.Denot). Rests g.K.Keeper.terms r.here r.settled) c.resting.view_is c.resting.invariant.rests in
    g.met.K.Keeper.settled here.here.keeper.inner (kept_of here.here.set (settled_front here)) sound (rests.rests runs sound).keeps
