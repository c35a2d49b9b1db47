use Rattle.std.proofs.Common.{◌∙◌, List, [], sym, ap, subst}
use Rattle.lynx_world.specs.declared.added.Added.{Added}
use Rattle.lynx_world.specs.Servers.{AreServers, Servers}
use Rattle.lynx_world.proofs.Starting.{new_are, new_is}
use Rattle.lynx_world.proofs.Stepping.{world_of}
use Rattle.lynx_world.proofs.world.World.new.Goals as goal

pub invariant_of-result : goal.invariant_of-result
invariant_of-result c =
    subst (λ (o : List Added). AreServers c.args.set c.in_ok-servers.servers.items o) (sym c.new.ensures.items)
    (subst (λ (s : Servers). AreServers c.args.set s []) (sym c.in_ok-servers.ensures) (new_are c.args.set))

pub returns : goal.returns
returns c =
    ap (λ (o : List Added). world_of c.args.set c.in_ok-servers.servers.items o) c.new.ensures.items
    ∙ ap (λ (s : Servers). world_of c.args.set s []) c.in_ok-servers.ensures ∙ new_is c.args.set
