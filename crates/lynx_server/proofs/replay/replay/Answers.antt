use Rattle.std.proofs.Common.{subst}
use Rattle.lynx_entry.specs.declared.entry.Entry.{Entry}
use Rattle.lynx_server.specs.inner.Repeating.{Repeats}
use Rattle.lynx_server.proofs.Repeating.{replayed_more}
use Rattle.lynx_server.proofs.replay.replay.Goals as goal

pub loop-place-preserved : goal.loop-place-preserved
loop-place-preserved c =
    replayed_more c.args.set.now c.args.server c.args.entries.now c.loop-place.place c.index-entries-place.result c.loop-place.replayed c.repeats.new.self c.in_ok-repeats.field-0
    c.loop-place-test.true c.loop-place.invariant
    (subst (λ (e : Entry). Repeats c.loop-place.replayed e c.repeats.new.self c.in_ok-repeats.field-0) c.index-entries-place.is c.in_ok-repeats.ensures)
    c.if-not-branch.false
