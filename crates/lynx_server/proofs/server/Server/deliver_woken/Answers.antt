use Rattle.lynx_server.proofs.Waking.{wakes-so}
use Rattle.lynx_server.proofs.server.Server.deliver_woken.Goals as goal

pub returns-clause-wakes : goal.returns-clause-wakes
returns-clause-wakes g c =
    wakes-so g.K.Keeper.terms c.args.self.now c.args.message c.deliver-delivered.result _ c.release_woken.new.held
    (rw (← c.self.view_is) at (c.deliver-delivered.ensures.delivers c.requires)) c.release_woken.ensures
