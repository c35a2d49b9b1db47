use Rattle.std.proofs.Common.{subst}
use Rattle.lynx_entry.specs.declared.request.Request.{Request}
use Rattle.lynx_keep.specs.HeldBack.{held_terms}
use Rattle.lynx_server.specs.Serving.{Lasts, begins_here}
use Rattle.lynx_cluster.proofs.beginning.try_begin_at.Goals as goal

pub returns-clause-lasts : goal.returns-clause-lasts
returns-clause-lasts g c runs =
    let here = c.args.state.now.here in
    subst (λ (request : Request). Lasts (held_terms g.K.Keeper.terms) here (begins_here here request c.args.seen).added c.begin.new.self.here) c.in_ok-copy.ensures
    (c.begin.ensures.lasts runs)
