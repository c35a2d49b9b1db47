use Rattle.std.proofs.Common.{◌≡◌, ◌+◌, ◌∷◌, ◌++◌, drop, ap, sym, ◌∙◌}
use Rattle.std.proofs.lemmas.List.{at_drop_more}
use Rattle.lynx_graph.specs.Edges.{edges_from}
use Rattle.lynx_graph.proofs.EdgesFrom.{edge_added, none_added}
use Rattle.lynx_graph.proofs.edges.add_edges.Goals as goal
use Rattle.lynx_graph.proofs.edges.add_edges.Goals.{then-joins+in_ok-push, else-joins}

pub loop-right-preserved : goal.loop-right-preserved
loop-right-preserved c =
    let set = c.args.set.now in
    let left = c.args.left.now in
    let others = c.args.others.now in
    let right = c.right-item.result in
    let rest = drop (c.loop-right.right-index + 1) others in
    let before = c.loop-right.edges in
    let whole = ap (λ r. before ++ edges_from set left (r ∷ rest)) c.right-item.is
    ∙ sym (at_drop_more (λ places. before ++ edges_from set left places) others c.loop-right.right-index right c.loop-right-test.true) ∙ c.loop-right.invariant in
    elim c.if-joins.branch [
      | then-joins+in_ok-push w ↦
          ap (λ edges. edges ++ edges_from set left rest) (w.edges-is ∙ w.in_ok-push.ensures.ok)
          ∙ edge_added set left right rest before (sym c.joins.ensures ∙ w.if-joins.true) ∙ whole
      | else-joins w ↦
          ap (λ edges. edges ++ edges_from set left rest) w.edges-is
          ∙ none_added set left right rest before (sym c.joins.ensures ∙ w.if-joins.false) ∙ whole
    ]
