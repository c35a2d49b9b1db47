use Rattle.std.proofs.Common.{◌∙◌, List, sym, ap, length}
use Rattle.lynx_world.specs.declared.added.Added.{Added}
use Rattle.lynx_world.specs.Worlds.{WorldState}
use Rattle.lynx_world.proofs.Servers.{list_len}
use Rattle.lynx_world.proofs.world.World.len.Goals as goal

pub returns : goal.returns
returns c =
    ap (λ (o : List Added). length o) c.as_slice.ensures.value
    ∙ sym (list_len c.self.inside.servers.items c.self.inside.order.items c.self.invariant.found)
    ∙ ap (λ (w : WorldState). length w.list) c.self.view_is
