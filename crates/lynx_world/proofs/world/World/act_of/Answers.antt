use Rattle.std.proofs.Common.{◌∙◌, ap}
use Rattle.lynx_world.specs.Servers.{Servers}
use Rattle.lynx_world.specs.inner.Senders.{act_found, act_in}
use Rattle.lynx_world.specs.Worlds.{WorldState}
use Rattle.lynx_world.proofs.Finding.{act_is}
use Rattle.lynx_world.proofs.world.World.act_of.Goals as goal

pub returns : goal.returns
returns c =
    c.find_act.ensures ∙ ap (λ (s : Servers). act_found c.self.inside.set c.args.chain.now c.args.hop s) c.as_slice.ensures.value
    ∙ act_is c.self.inside.set c.self.inside.servers.items c.self.inside.order.items c.args.chain.now c.args.hop c.self.invariant
    ∙ ap (λ (w : WorldState). act_in c.args.chain.now c.args.hop w.list) c.self.view_is
