use Rattle.std.proofs.Common.{◌≡◌, ◌∙◌, List, Option, None, slice_get, sym, ap}
use Rattle.std.specs.Option.{option_and_then}
use Rattle.lynx_world.specs.declared.added.Added.{Added}
use Rattle.lynx_world.specs.Servers.{Servers, placed_as, placed_of}
use Rattle.lynx_world.specs.Worlds.{WorldState}
use Rattle.lynx_world.proofs.Servers.{list_get}
use Rattle.lynx_world.proofs.world.World.entry.Goals as goal

pub returns-in_err-added : goal.returns-in_err-added
returns-in_err-added c =
    let servers = c.self.inside.servers.items in
    let order = c.self.inside.order.items in
    let none : Option Added = None in
    let nothing : none ≡ slice_get order c.args.place = c.in_err-added.ensures ∙ ap (λ (o : List Added). slice_get o c.args.place) c.deref.ensures.value in
    ap placed_as c.from_residual.ensures ∙ ap (option_and_then (placed_of servers)) nothing
    ∙ sym (list_get servers order c.args.place c.self.invariant.found)
    ∙ ap (λ (w : WorldState). slice_get w.list c.args.place) c.self.view_is

pub returns : goal.returns
returns c =
    let servers = c.self.inside.servers.items in
    let order = c.self.inside.order.items in
    c.lend.ensures ∙ ap (λ (s : Servers). placed_of s c.in_ok-added.added.now) c.deref-2.ensures.value
    ∙ ap (option_and_then (placed_of servers)) (c.in_ok-added.ensures ∙ ap (λ (o : List Added). slice_get o c.args.place) c.deref.ensures.value)
    ∙ sym (list_get servers order c.args.place c.self.invariant.found)
    ∙ ap (λ (w : WorldState). slice_get w.list c.args.place) c.self.view_is
