use Rattle.std.proofs.Common.{◌≡◌, ◌+◌, take}
use Rattle.lynx_store.specs.Acts.{acts_from}
use Rattle.lynx_store.proofs.acts.acts_from.Given as goal

-- the hops of the entries so far
abbrev pub invariant-loop-entry : goal.invariant-loop-entry
invariant-loop-entry l = record {
  next : l.next ≡ l.place + l.entry-index;
  acts : l.acts.items ≡ acts_from l.place (take l.entry-index l.entries);
}
