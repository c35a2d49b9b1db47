use Rattle.std.proofs.Common.{◌<◌, length, ◌∙◌, sym, subst}
use Rattle.lynx_rerun.specs.Events.{IsWoken}
use Rattle.lynx_rerun.proofs.Calling.{called}
use Rattle.lynx_rerun.proofs.events.wake.Goals as goal

pub returns : goal.returns
returns g c =
    let within : c.index-2.result < length c.args.servers.now =
    subst (λ n. n < length c.args.servers.now) (c.index.ensures.value ∙ sym c.index-2.ensures.value) c.if-index-servers.false in
    called c.wake_here.result c.args.server c.index-2.result (λ outcome. IsWoken g.K.Keeper.terms c.args.server outcome) c.args.servers.now
    c.index-servers-index.result c.wake_here.new.here c.index-2.ensures.value within c.wake_here.ensures
