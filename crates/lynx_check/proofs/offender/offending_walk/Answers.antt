use Rattle.std.proofs.Common.{◌≡◌, List, Option, Some, None, MatchOption, sym, ap, subst, ◌∙◌}
use Rattle.std.proofs.lemmas.Result.{IfOk-weaker}
use Rattle.lynx_set.specs.Set.{Set}
use Rattle.lynx_graph.specs.declared.nodes.Node.{Node}
use Rattle.lynx_graph.specs.declared.visit.Visit.{Visit}
use Rattle.lynx_graph.specs.Walks.{IsOffending, NoWalkOffends}
use Rattle.lynx_graph.specs.Nodes.{nodes_of}
use Rattle.lynx_check.specs.inner.Parts.{some_part_offends}
use Rattle.lynx_check.specs.inner.Searches.{HasNone}
use Rattle.lynx_check.specs.inner.Tracing.{IsSound}
use Rattle.lynx_check.proofs.Complete.{accepted_from_none}
use Rattle.lynx_check.proofs.Divided.{no_walk_from_parts}
use Rattle.lynx_check.proofs.offender.offending_walk.Goals as goal

-- what a search through all nodes of the set found
judged : (set : Set) (nodes : List Node) → nodes ≡ nodes_of set → (found : Option (List Visit)) → MatchOption found (HasNone nodes) (IsSound nodes) →
    MatchOption found (NoWalkOffends set) (IsOffending set)
judged set nodes are None none = accepted_from_none set (subst HasNone are none)
judged set nodes are (Some walk) sound = sound set are

pub returns-then-not-some_part_offends : goal.returns-then-not-some_part_offends
returns-then-not-some_part_offends c =
    no_walk_from_parts c.args.set.now c.as_slice.result.now
    (ap (λ (nodes : List Node). some_part_offends nodes c.as_slice.result.now) (sym c.requires) ∙ sym c.some_part_offends.ensures ∙ c.if-not-some_part_offends.true)

pub returns : goal.returns
returns c = IfOk-weaker c.shortest.result _ _ (judged c.args.set.now c.args.nodes.now c.requires) c.shortest.ensures
