use Rattle.std.proofs.Common.{◌≡◌, List, Option, Some, None, sym, ap, subst, ◌∙◌}
use Rattle.lynx_check.specs.declared.backward.Backward.{Backward}
use Rattle.lynx_check.specs.declared.backward.End.{End}
use Rattle.lynx_graph.specs.declared.block.Block.{Block}
use Rattle.lynx_graph.specs.declared.nodes.Node.{Node}
use Rattle.lynx_graph.specs.Blocks.{IsOffendingBlockWalk}
use Rattle.lynx_check.specs.inner.Backward.{backward_in, ends_of}
use Rattle.lynx_graph.specs.Nodes.{nodes_of}
use Rattle.lynx_check.proofs.Rounds.{no_round, round_offends}
use Rattle.lynx_check.proofs.backward.offending_blocks.Goals as goal
use Rattle.lynx_check.proofs.backward.offending_blocks.Goals.{After-backward_in}

-- what was found between the ends of the set's nodes
found : (c : After-backward_in) → backward_in c.args.set.now (ends_of (nodes_of c.args.set.now)) (ends_of (nodes_of c.args.set.now)) ≡ c.backward_in.result
found c =
    ap (λ (nodes : List Node). backward_in c.args.set.now (ends_of nodes) (ends_of nodes)) (sym c.requires)
    ∙ ap (λ (ends : List End). backward_in c.args.set.now ends ends) (sym (c.as_slice.ensures.value ∙ c.in_ok-ends.ensures)) ∙ sym c.backward_in.ensures

pub returns-in-Some : goal.returns-in-Some
returns-in-Some c =
    subst (IsOffendingBlockWalk c.args.set.now) (sym c.in_ok-round_of-in-Some.ensures)
    (round_offends c.args.set.now c.in-Some.backward (found (goal.at.returns-in-Some c).After-backward_in ∙ c.in-Some.is))

pub returns : goal.returns
returns c = no_round c.args.set.now (found (goal.at.returns c).After-backward_in ∙ c.in-None.is)
