use Rattle.lynx_resting.specs.Resting.{settled_front}
use Rattle.lynx_server.specs.Acts.{act_of}
use Rattle.lynx_cluster.specs.Looks.{looked_at}
use Rattle.lynx_cluster.proofs.InRange.{found-in_range, looked-in_range}
use Rattle.lynx_cluster.proofs.session.Session.look_at.Goals as goal

pub returns-clause-range : goal.returns-clause-range
returns-clause-range g c =
    let state = c.args.state.now in
    let front = settled_front state in
    found-in_range _ (looked_at (act_of c.args.chain.now c.args.hop front)) c.find_at.ensures.looked
    (looked-in_range state.here.set state.here.server front c.args.chain.now c.args.hop c.settled.ensures.lawful)
