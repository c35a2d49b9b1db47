use Rattle.std.proofs.Common.{◌≡◌, length, take, vec_capacity}
use Rattle.lynx_cluster.specs.inner.Submitting.{AreFit, seen_after}
use Rattle.lynx_cluster.proofs.submission.begin_all.Given as goal

abbrev pub invariant-loop-request : goal.invariant-loop-request
invariant-loop-request g l = record {
  fit : AreFit l.fn.state.here.set l.fn.state.here.server l.fn.seen (take l.request-index l.requests) l.answers.items;
  count : length l.answers.items ≡ l.request-index;
  seen : l.seen ≡ seen_after l.fn.seen l.answers.items;
  capacity : vec_capacity l.answers ≡ vec_capacity l.fn.answers;
  set : l.state.here.set ≡ l.fn.state.here.set;
  server : l.state.here.server ≡ l.fn.state.here.server;
  settled : l.state.settled ≡ l.fn.state.settled;
}
