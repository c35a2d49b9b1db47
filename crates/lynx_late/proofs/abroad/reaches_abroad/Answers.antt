use Rattle.std.proofs.Common.{◌≡◌, ◌∙◌, List, ap, sym}
use Rattle.std.specs.Prelude.{filter_map}
use Rattle.std.specs.List.{list_any}
use Rattle.lynx_graph.specs.declared.edges.Edge.{Edge}
use Rattle.lynx_late.specs.Abroad.{are_apart, reaches_abroad}
use Rattle.lynx_late.specs.inner.Ends.{other_end}
use Rattle.lynx_late.proofs.ByEdges.{reaches_abroad-by_edges}
use Rattle.lynx_late.proofs.Late.{Decides-reaches_abroad}
use Rattle.lynx_late.proofs.abroad.reaches_abroad.Goals as goal
use Rattle.lynx_late.proofs.abroad.reaches_abroad.Goals.{After-is_led_abroad}

value : (c : After-is_led_abroad) → c.is_led_abroad.result ≡ reaches_abroad c.args.set.now c.args.place.now
value c =
    let set = c.args.set.now in
    let place = c.args.place.now in
    c.is_led_abroad.ensures ∙ ap (λ (edges : List Edge). list_any (are_apart set place) (filter_map (other_end place) edges)) c.requires ∙ reaches_abroad-by_edges set place

pub returns-clause-value : goal.returns-clause-value
returns-clause-value c = value c

pub returns-clause-right : goal.returns-clause-right
returns-clause-right c =
    let decides = Decides-reaches_abroad c.args.set.now c.args.place.now in
    (λ passes. decides.0 (sym (value c) ∙ passes), λ reaches. value c ∙ decides.1 reaches)
