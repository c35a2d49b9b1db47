use Rattle.std.proofs.Common.{◌<◌, length, ◌∙◌, sym, subst}
use Rattle.lynx_rerun.specs.Events.{IsDelivered}
use Rattle.lynx_rerun.proofs.Calling.{called, sent_comes}
use Rattle.lynx_rerun.proofs.events.deliver.Goals as goal

pub returns : goal.returns
returns g c =
    let server = c.destination_of-server.result in
    let message = c.in-Some.message in
    let within : c.index-2.result < length c.args.servers.now =
    subst (λ n. n < length c.args.servers.now) (c.index.ensures.value ∙ sym c.index-2.ensures.value) c.if-index-servers.false in
    sent_comes g.K.Keeper.terms c.args.set.now c.args.chain c.args.hop message server c.deliver_here.result c.args.servers.now _
    (sym c.in-Some.is ∙ c.in_ok-message.ensures) c.destination_of-server.ensures
    (called c.deliver_here.result server c.index-2.result (λ outcome. IsDelivered g.K.Keeper.terms c.args.chain c.args.hop message outcome) c.args.servers.now
    c.index-servers-index.result c.deliver_here.new.here c.index-2.ensures.value within c.deliver_here.ensures)
