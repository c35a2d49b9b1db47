use Rattle.std.proofs.Common.{◌<◌, length, ap, subst}
use Rattle.lynx_rerun.proofs.Opened.{reopened}
use Rattle.lynx_rerun.proofs.events.restart.Goals as goal

pub returns : goal.returns
returns g c =
    let within : c.index-place.result < length c.args.servers.now.items = subst (λ n. c.index-place.result < n) (ap length c.as_slice.ensures.value) c.if-place-as_slice.false in
    reopened g.K.Keeper.terms c.args.server c.index-place.result c.args.servers.now.items c.remove.new.self.items c.insert.new.self.items c.remove.result c.in-Ok.opened
    c.index-place.ensures.value within c.remove.ensures.value c.remove.ensures.items c.in_ok-insert-in-Ok.ensures.items c.in-Ok.ensures
