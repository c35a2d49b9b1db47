use Rattle.std.proofs.Common.{◌≤◌, ◌+◌, length, All, vec_len, vec_capacity}
use Rattle.lynx_codec.specs.Ranges.{IsAnswerInRange}
use Rattle.lynx_port.proofs.DeskLemmas.{Asks}
use Rattle.lynx_port.proofs.desk.Desk.begin_all.Given as goal

abbrev pub invariant-loop-request : goal.invariant-loop-request
invariant-loop-request g l = record {
  asks : Asks g.Self.Desk.begins l.fn.self l.self l.fn.requests.items l.request-iterator.rest.items l.answers.items;
  range : All IsAnswerInRange l.answers.items;
  room : vec_len l.answers + length l.request-iterator.rest.items ≤ vec_capacity l.answers;
}
