use Rattle.std.proofs.Common.{sym, subst, ◌∙◌}
use Rattle.std.specs.Prelude.{All}
use Rattle.lynx_graph.specs.Edges.{HasConflicts, IsConflict}
use Rattle.lynx_graph.proofs.Conflicts.{conflicts_have_edges, edges_conflict}
use Rattle.lynx_graph.proofs.edges.conflict_edges.Goals as goal

pub returns-clause-conflicts : goal.returns-clause-conflicts
returns-clause-conflicts c =
    let set = c.args.set.now in
    subst (All (IsConflict set)) (sym (c.into_vec.ensures ∙ c.in_ok-edges.ensures)) (edges_conflict set)

pub returns-clause-complete : goal.returns-clause-complete
returns-clause-complete c =
    let set = c.args.set.now in
    subst (HasConflicts set) (sym (c.into_vec.ensures ∙ c.in_ok-edges.ensures)) (conflicts_have_edges set)
