use Rattle.std.proofs.Common.{◌∙◌, Some, sym, ap, subst, arith}
use Rattle.std.proofs.lemmas.Option.{slice_get-get_or}
use Rattle.lynx_weave.specs.Servers.{histories_of}
use Rattle.lynx_weave.specs.Senders.{AreSent, IsUnsent, IsUnsentFirst}
use Rattle.lynx_weave.proofs.Agreements.{history_there}
use Rattle.lynx_weave.proofs.Sending.{all_sent, all_sent_more}
use Rattle.lynx_weave.proofs.Servings.{many_of, unsent_there}
use Rattle.lynx_weave.proofs.senders.check_senders.Goals as goal

pub returns-in-Some : goal.returns-in-Some
returns-in-Some g c =
    let servers = c.args.servers.now in
    let here = c.here-item.result in
    unsent_there c.args.set.now servers c.loop-here.here-index c.server.result c.in-Some.place here c.requires
    (slice_get-get_or servers c.loop-here.here-index here (omega arith) ∙ ap Some (sym c.here-item.is)) c.server.ensures
    (subst (λ h. IsUnsent c.args.set.now (histories_of servers) h c.in-Some.place) c.history.ensures.value
    (subst (IsUnsentFirst c.args.set.now (histories_of servers) c.history.result.now) c.in-Some.is c.in_ok-place.ensures))

pub loop-here-preserved : goal.loop-here-preserved
loop-here-preserved g c =
    let servers = c.args.servers.now in
    let here = c.here-item.result in
    all_sent_more c.args.set.now (histories_of servers) c.loop-here.here-index here.history
    (history_there servers c.loop-here.here-index here
    (slice_get-get_or servers c.loop-here.here-index here (omega arith) ∙ ap Some (sym c.here-item.is)))
    (subst (AreSent c.args.set.now (histories_of servers)) c.history.ensures.value
    (subst (IsUnsentFirst c.args.set.now (histories_of servers) c.history.result.now) c.in_default.is c.in_ok-place.ensures))
    c.loop-here.invariant

pub returns : goal.returns
returns g c =
    all_sent c.args.set.now (histories_of c.args.servers.now) c.loop-here.here-index
    (let many = many_of c.args.servers.now in omega arith) c.loop-here.invariant
