use Rattle.std.proofs.Common.{sym, ap, subst, ◌∙◌}
use Rattle.std.proofs.lemmas.List.{at_drop_all}
use Rattle.lynx_graph.specs.Together.{AreLed}
use Rattle.lynx_graph.specs.inner.Joining.{alone, joined_by}
use Rattle.lynx_graph.proofs.Joining.{are_led}
use Rattle.lynx_graph.proofs.members.members_of.Goals as goal

pub returns : goal.returns
returns c =
    let set = c.args.set.now in
    let members = c.loop-edge.members.items in
    let is =
    sym (at_drop_all (joined_by members) c.args.edges.now c.loop-edge.edge-index c.loop-edge-test.false)
    ∙ c.loop-edge.invariant ∙ ap (joined_by (alone set)) c.requires in
    subst (AreLed set) (sym is) (are_led set)
