use Rattle.std.proofs.Common.{◌≡◌, ◌∙◌, List, filter, ap, sym, subst}
use Rattle.std.specs.Prelude.{◌↔◌, Contains, filter_map}
use Rattle.lynx_graph.specs.declared.edges.Edge.{Edge}
use Rattle.lynx_graph.specs.declared.meeting.Place.{Place}
use Rattle.lynx_graph.specs.Blocks.{Meets}
use Rattle.lynx_late.specs.Abroad.{are_apart, hops_abroad}
use Rattle.lynx_late.specs.inner.Ends.{other_end}
use Rattle.lynx_late.proofs.ByEdges.{hops_abroad-by_edges}
use Rattle.lynx_late.proofs.Late.{abroad_meets, meets_abroad}
use Rattle.lynx_late.proofs.abroad.hops_abroad.Goals as goal

pub returns-clause-exact : goal.returns-clause-exact
returns-clause-exact c =
    let set = c.args.set.now in
    let place = c.args.place.now in
    c.in_ok-hops.ensures ∙ ap (λ (edges : List Edge). filter (are_apart set place) (filter_map (other_end place) edges)) c.requires ∙ hops_abroad-by_edges set place

pub returns-clause-right : goal.returns-clause-right
returns-clause-right c =
    let set = c.args.set.now in
    let place = c.args.place.now in
    let exact : c.in_ok-hops.hops.items ≡ hops_abroad set place =
    c.in_ok-hops.ensures ∙ ap (λ (edges : List Edge). filter (are_apart set place) (filter_map (other_end place) edges)) c.requires ∙ hops_abroad-by_edges set place in
    subst (λ (all : List Place). (other : Place) → Contains all other ↔ Meets set place other) (sym exact) (λ other. (abroad_meets set place other, meets_abroad set place other))
