use Rattle.std.proofs.Common.{◌≡◌, ◌++◌}
use Rattle.std.specs.Io.KnownBytes.{Appends}
use Rattle.lynx_report.specs.Runs.{world_after, outcome_lines}
use Rattle.lynx_report.proofs.run.run_events.Given as goal

-- the events so far are run and printed, and the others are left
abbrev pub invariant-loop-event : goal.invariant-loop-event
invariant-loop-event g l = record {
  worlds : l.world ≡ world_after l.initial.world l.yielded;
  lines : Appends (g.W.Write.contents l.initial.writer) (g.W.Write.contents l.writer) (outcome_lines l.initial.world l.yielded);
  split : l.fn.events.items ≡ l.yielded ++ l.event-iterator.rest.items;
}
