use Rattle.std.proofs.Common.{List, map, ap, ◌∙◌}
use Rattle.std.proofs.lemmas.List.{take_all}
use Rattle.lynx_graph.specs.declared.place_reaches.PlaceReaches.{PlaceReaches}
use Rattle.lynx_graph.specs.Nodes.{node_among}
use Rattle.lynx_graph.proofs.Places.{nodes_of-reached}
use Rattle.lynx_graph.proofs.nodes.nodes_of.Goals as goal

pub returns : goal.returns
returns c =
    c.loop-one.invariant
    ∙ ap (map (node_among c.args.set.now c.as_slice-reached.result.now)) (take_all c.loop-one.one-index c.as_slice-reached.result.now c.loop-one-test.false)
    ∙ ap (λ (reached : List PlaceReaches). map (node_among c.args.set.now reached) reached) (c.as_slice-reached.ensures ∙ c.in_ok-all.ensures)
    ∙ nodes_of-reached c.args.set.now
