use Rattle.lynx_rerun.proofs.Lines.{reruns}
use Rattle.lynx_rerun.proofs.run.rerun.Goals as goal

pub returns : goal.returns
returns g c =
    reruns c.run_and_close.result g.K.Keeper.terms g.S.Stores.store_terms c.args.folder.now c.args.set.now c.args.script.now c.args.options.owed c.in_ok-events.events.items c.in_ok-servers.servers.items _ _
    c.in_ok-events.ensures.found c.in_ok-servers.ensures c.run_and_close.ensures

pub run_and_close-requires : goal.run_and_close-requires
run_and_close-requires g c = c.in_ok-servers.ensures.over.many
