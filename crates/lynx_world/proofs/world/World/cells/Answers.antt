use Rattle.std.proofs.Common.{◌≡◌, ℕ, List, ap, subst, ◌∙◌}
use Rattle.std.specs.List.Sorted.{IsPermutation}
use Rattle.std.specs.List.{flat_map}
use Rattle.lynx_world.specs.inner.Servers.{cells_left}
use Rattle.lynx_world.specs.Tables.{cells_of}
use Rattle.lynx_world.proofs.Starting.{cells_are}
use Rattle.lynx_world.proofs.world.World.cells.Goals as goal

pub returns-clause-all : goal.returns-clause-all
returns-clause-all c =
    let same : c.in_ok-cells.cells.items ≡ cells_of c.args.self.now =
    c.in_ok-cells.ensures ∙ ap (flat_map cells_left) c.deref.ensures.value
    ∙ cells_are c.self.inside.set c.self.inside.servers.items c.self.inside.order.items c.self.invariant ∙ ap cells_of c.self.view_is in
    subst (λ (cells : List (ℕ × ℕ × ℕ)). IsPermutation cells c.sort_unstable.new.self.items) same c.sort_unstable.ensures.permutation
