use Rattle.lynx_weave.specs.Servers.{histories_of}
use Rattle.lynx_cluster.proofs.Settlings.{all_on, all_stay}
use Rattle.lynx_cluster.proofs.settling.settle.Goals as goal

pub loop-receiver-init : goal.loop-receiver-init
loop-receiver-init g c = all_stay (histories_of c.args.servers.now) c.args.servers.now

pub loop-receiver-preserved : goal.loop-receiver-preserved
loop-receiver-preserved g c = all_on c.args.servers.now c.loop-receiver.servers c.settle_at.new.servers c.loop-receiver.invariant c.settle_at.ensures

pub returns-in_err-settle_at : goal.returns-in_err-settle_at
returns-in_err-settle_at g c = all_on c.args.servers.now c.loop-receiver.servers c.settle_at.new.servers c.loop-receiver.invariant c.settle_at.ensures
