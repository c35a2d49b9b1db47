use Rattle.std.proofs.Common.{◌≡◌, ◌≤◌, ◌++◌, ◌∷◌, length}
use Rattle.lynx_cluster.specs.inner.Submitting.{BeginAt}
use Rattle.lynx_cluster.proofs.cluster.Frontend.take_leading.Given as goal

abbrev pub invariant-loop-next : goal.invariant-loop-next
invariant-loop-next g l = record {
  split : l.fn.first ∷ l.fn.rest.items ≡ l.leading.items ++ l.rest.items;
  home : BeginAt l.self.set l.server l.leading.items;
  some : 1 ≤ length l.leading.items;
}

abbrev pub decreases-loop-next : goal.decreases-loop-next
decreases-loop-next g l = length l.rest.items
