use Rattle.std.proofs.Common.{◌<◌, length, ◌∙◌, sym, subst}
use Rattle.lynx_rerun.specs.Events.{IsBegun}
use Rattle.lynx_rerun.proofs.Calling.{called}
use Rattle.lynx_rerun.proofs.events.begin.Goals as goal

pub returns : goal.returns
returns g c =
    let within : c.index-2.result < length c.args.servers.now =
    subst (λ n. n < length c.args.servers.now) (c.index.ensures.value ∙ sym c.index-2.ensures.value) c.if-index-servers.false in
    called c.begin_here.result c.args.server c.index-2.result (λ outcome. IsBegun g.K.Keeper.terms c.args.request c.args.seen outcome) c.args.servers.now
    c.index-servers-index.result c.begin_here.new.here c.index-2.ensures.value within c.begin_here.ensures
