use Rattle.std.proofs.Common.{sym, subst}
use Rattle.lynx_weave.specs.Servers.{AreServersOf}
use Rattle.lynx_cluster.proofs.Openings.{servers_opened}
use Rattle.lynx_cluster.proofs.opening.Opened.open.Goals as goal

pub returns-clause-servers : goal.returns-clause-servers
returns-clause-servers g c =
    let servers = c.in_ok-servers.servers.items in
    subst (λ set. AreServersOf set servers) (sym c.in_ok-set.ensures)
    (servers_opened g.K.Keeper.terms c.args.set.now c.args.keepers.items servers c.in_ok-servers.ensures.opened)
