use Rattle.std.proofs.Common.{◌≡◌, ◌++◌}
use Rattle.lynx_rerun.proofs.Lines.{HasRun}
use Rattle.lynx_rerun.proofs.running.run_events.Given as goal

-- the events so far ran and have their lines, and the others are left
abbrev pub invariant-loop-event : goal.invariant-loop-event
invariant-loop-event g l = record {
  ran : HasRun g.K.Keeper.terms l.fn.set l.yielded l.initial.servers.items l.servers.items (g.W.Write.contents l.initial.writer) (g.W.Write.contents l.writer);
  split : l.fn.events.items ≡ l.yielded ++ l.event-iterator.rest.items;
}
