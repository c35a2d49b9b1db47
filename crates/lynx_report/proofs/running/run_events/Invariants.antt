use Rattle.std.proofs.Common.{◌≡◌, ◌++◌}
use Rattle.lynx_report.specs.Runs.{outcomes_of, world_after}
use Rattle.lynx_report.proofs.running.run_events.Given as goal

-- the events so far are run, with what they came to, and the others are left
abbrev pub invariant-loop-event : goal.invariant-loop-event
invariant-loop-event l = record {
  worlds : l.world ≡ world_after l.initial.world l.yielded;
  outcomes : l.outcomes ≡ outcomes_of l.initial.world l.yielded;
  split : l.fn.events.items ≡ l.yielded ++ l.event-iterator.rest.items;
}
