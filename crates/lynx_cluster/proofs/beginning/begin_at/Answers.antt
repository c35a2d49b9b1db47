use Rattle.std.proofs.Common.{ap}
use Rattle.lynx_keep.specs.HeldBack.{held_terms}
use Rattle.lynx_resting.specs.Resting.{RestingState}
use Rattle.lynx_cluster.proofs.Answering.{asked_above, asked_fits}
use Rattle.lynx_cluster.proofs.InRange.{asked-in_range}
use Rattle.lynx_cluster.proofs.beginning.begin_at.Goals as goal

pub returns-in-Ok-clause-above : goal.returns-in-Ok-clause-above
returns-in-Ok-clause-above g c =
    asked_above (held_terms g.K.Keeper.terms) c.args.state.now.here c.args.request.now c.args.seen c.in-Ok.answer c.try_begin_at.new.state.here
    c.in-Ok.ensures.lawful (λ stops. let stopped = c.in-Ok.ensures.stopped stops in (stopped.0, ap (λ (r : RestingState g.row.K.Denot). r.here) stopped.1)) c.in-Ok.ensures.begins

pub returns-in-Ok-clause-fits : goal.returns-in-Ok-clause-fits
returns-in-Ok-clause-fits g c =
    asked_fits (held_terms g.K.Keeper.terms) c.args.state.now.here c.args.request.now c.args.seen c.in-Ok.answer c.try_begin_at.new.state.here
    c.in-Ok.ensures.lawful (λ stops. let stopped = c.in-Ok.ensures.stopped stops in (stopped.0, ap (λ (r : RestingState g.row.K.Denot). r.here) stopped.1)) c.in-Ok.ensures.begins

pub returns-in-Ok-clause-range : goal.returns-in-Ok-clause-range
returns-in-Ok-clause-range g c =
    asked-in_range (held_terms g.K.Keeper.terms) c.args.state.now.here c.args.request.now c.args.seen c.in-Ok.answer c.try_begin_at.new.state.here
    c.in-Ok.ensures.lawful (λ stops. let stopped = c.in-Ok.ensures.stopped stops in (stopped.0, ap (λ (r : RestingState g.row.K.Denot). r.here) stopped.1)) c.in-Ok.ensures.begins
