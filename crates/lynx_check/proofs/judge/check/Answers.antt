use Rattle.std.proofs.Common.{List, subst, sym, ◌∙◌}
use Rattle.lynx_set.specs.Set.{Set}
use Rattle.lynx_graph.specs.Walks.{NoWalkOffends}
use Rattle.lynx_check.proofs.Accepting.{none_offends, some_offends}
use Rattle.lynx_check.proofs.judge.check.Goals as goal

pub new-requires : goal.new-requires
new-requires c =
    subst NoWalkOffends (sym c.in_ok-copy-in-None.ensures)
    (none_offends c.args.set.now c.in_ok-offending_walk.field-0 c.in_ok-offending_walk.ensures c.in-None.is)
