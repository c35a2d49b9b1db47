use Rattle.std.proofs.Common.{◌≡◌, drop}
use Rattle.lynx_chart.specs.Messages.{rows_with}
use Rattle.lynx_chart.proofs.messages.rows_with.Given as goal

-- the rows so far are raised by what is left
abbrev pub invariant-loop-sent : goal.invariant-loop-sent
invariant-loop-sent l =
    rows_with l.all (drop l.sent-index l.messages) ≡ rows_with l.rows l.messages
