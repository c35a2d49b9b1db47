use Rattle.std.proofs.Common.{◌+◌, ◌≤◌, [], length, vec_capacity, vec_len}
use Rattle.lynx_cluster.specs.inner.Together.{BeginsLeading}
use Rattle.lynx_cluster.proofs.cluster.Frontend.begin_all.Given as goal

abbrev pub invariant-loop-first : goal.invariant-loop-first
invariant-loop-first g l = record {
  begins : BeginsLeading l.self.set l.fn.session l.fn.requests.items l.rest.items [] l.answers.items l.session;
  room : length l.rest.items + vec_len l.answers ≤ vec_capacity l.answers;
}

abbrev pub decreases-loop-first : goal.decreases-loop-first
decreases-loop-first g l = length l.rest.items
