use Rattle.std.proofs.Common.{◌≡◌, ◌+◌, ◌≤◌, ◌++◌, length, vec_capacity, vec_len}
use Rattle.lynx_cluster.specs.inner.Submitting.{AreFew, seen_after, told_by_all}
use Rattle.lynx_cluster.proofs.together.note_all.Given as goal

abbrev pub invariant-loop-answer : goal.invariant-loop-answer
invariant-loop-answer l = record {
  told : l.told.items ++ told_by_all l.server l.requests.rest.items l.answer-iterator.rest.items
      ≡ l.fn.told.items ++ told_by_all l.server l.fn.requests.items l.fn.given.items;
  greatest : seen_after l.greatest l.answer-iterator.rest.items ≡ seen_after l.fn.greatest l.fn.given.items;
  answers : l.answers.items ++ l.answer-iterator.rest.items ≡ l.fn.answers.items ++ l.fn.given.items;
  len : vec_len l.answers + length l.answer-iterator.rest.items ≡ vec_len l.fn.answers + length l.fn.given.items;
  given : length l.answer-iterator.rest.items ≡ length l.requests.rest.items;
  rooms : length l.rooms.rest.items ≡ length l.requests.rest.items;
  few : AreFew l.answer-iterator.rest.items;
  room_told : length l.requests.rest.items + vec_len l.told ≤ vec_capacity l.told;
  room_answers : length l.requests.rest.items + vec_len l.answers ≤ vec_capacity l.answers;
  capacity : vec_capacity l.answers ≡ vec_capacity l.fn.answers;
}
