use Rattle.std.proofs.Common.{◌≡◌, ◌+◌, ◌≤◌, ◌++◌, length, map, vec_capacity, vec_len}
use Rattle.lynx_service.specs.Desks.{stopped}
use Rattle.lynx_service.proofs.desk.stop_all.Given as goal

-- those so far and those that are left are answered so, and there is room for the latter
abbrev pub invariant-loop-request : goal.invariant-loop-request
invariant-loop-request l = record {
  told : l.answers.items ++ map stopped l.request-iterator.rest.items ≡ map stopped l.fn.requests.items;
  room : length l.request-iterator.rest.items + vec_len l.answers ≤ vec_capacity l.answers;
}
