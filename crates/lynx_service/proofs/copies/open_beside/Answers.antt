use Rattle.lynx_service.proofs.Followed.{follows_front}
use Rattle.lynx_service.proofs.copies.open_beside.Goals as goal

pub returns-in-Some-into_follower : goal.returns-in-Some-into_follower
returns-in-Some-into_follower g c =
    let is = c.in_ok-opened.ensures in
    follows_front g.K.Keeper.terms c.args.folder.now.set.now c.history.result.now c.args.server.now.history is.0 c.in_ok-opened.opened c.in-Some.same c.in-Some-into_follower.follower is.2 c.history.ensures.value
    c.in-Some.ensures.same c.in-Some.ensures.follower c.in-Some-into_follower.ensures.some.0 c.in-Some-into_follower.ensures.some.1
