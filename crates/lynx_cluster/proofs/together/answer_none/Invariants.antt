use Rattle.std.proofs.Common.{◌≡◌, ◌+◌, ◌++◌, vec_capacity, vec_len}
use Rattle.lynx_cluster.specs.inner.Submitting.{unanswered}
use Rattle.lynx_cluster.proofs.together.answer_none.Given as goal

abbrev pub invariant-loop : goal.invariant-loop
invariant-loop l = record {
  answers : l.answers.items ≡ l.fn.answers.items ++ unanswered l.is_stopped l.counter;
  len : vec_len l.answers ≡ vec_len l.fn.answers + l.counter;
  capacity : vec_capacity l.answers ≡ vec_capacity l.fn.answers;
}
