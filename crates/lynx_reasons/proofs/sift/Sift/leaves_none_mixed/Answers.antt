use Rattle.std.proofs.Common.{◌≡◌, ◌∙◌, List, sym, subst}
use Rattle.std.specs.Prelude.{Contains}
use Rattle.std.proofs.lemmas.Bool.{not-false}
use Rattle.std.proofs.lemmas.List.Elements.{All-contains}
use Rattle.lynx_graph.specs.declared.edges.Edge.{Edge}
use Rattle.lynx_graph.specs.Edges.{IsConflict, edges_of}
use Rattle.lynx_graph.proofs.Conflicts.{edges_conflict}
use Rattle.lynx_reasons.specs.declared.joining.Joining.{Joining}
use Rattle.lynx_reasons.specs.inner.Joinings.{AreJoined, IsEdgeLeft}
use Rattle.lynx_reasons.proofs.Joinings.{joined_new, mixed_offends}
use Rattle.lynx_reasons.proofs.sift.Sift.leaves_none_mixed.Goals as goal
use Rattle.lynx_reasons.proofs.sift.Sift.leaves_none_mixed.Goals.{then-not-has+then-not-has-2+in_ok-join, else-not-has}

pub loop-edge-init : goal.loop-edge-init
loop-edge-init c = joined_new c.args.set.now c.args.culprit.now c.in_ok-joining.joining.programs.items c.in_ok-joining.ensures

pub loop-edge-preserved : goal.loop-edge-preserved
loop-edge-preserved c =
    let set = c.args.set.now in
    let culprit = c.args.culprit.now in
    let edge = c.edge-item.result in
    let items : c.deref-edge-items.result.now ≡ edges_of set = c.deref-edge-items.ensures.value ∙ c.requires.edges in
    let has : Contains c.deref-edge-items.result.now edge = (c.loop-edge.edge-index, c.loop-edge-test.true, sym c.edge-item.is) in
    let conflict = All-contains (IsConflict set) (edges_of set) edge (edges_conflict set) (subst (λ (edges : List Edge). Contains edges edge) items has) in
    elim c.if-not-has.branch [
      | then-not-has+then-not-has-2+in_ok-join w ↦
          let is : IsEdgeLeft set culprit edge = record {
            left = sym c.has.ensures ∙ w.if-not-has.true;
            right = sym w.has-then-not-has.ensures ∙ w.if-not-has-2.true;
            conflict = conflict;
          } in
          subst (λ (joining : Joining). AreJoined set culprit joining.programs.items) (sym w.joining-is) (w.in_ok-join.ensures set culprit c.loop-edge.invariant is)
      | else-not-has w ↦ subst (λ (joining : Joining). AreJoined set culprit joining.programs.items) (sym w.joining-is) c.loop-edge.invariant
    ]

pub returns : goal.returns
returns c = λ mixed none. mixed_offends c.args.set.now c.args.culprit.now c.loop-edge.joining.programs.items c.loop-edge.invariant (sym c.has_mixed.ensures ∙ not-false _ mixed) none
