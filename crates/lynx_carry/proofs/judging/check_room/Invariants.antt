use Rattle.std.proofs.Common.{◌≡◌, ◌<◌, ◌≤◌, ℕ}
use Rattle.lynx_names.specs.declared.limits.TheConstants.{MAX_ENTRIES}
use Rattle.lynx_carry.specs.Counts.{entries_at, entries_of}
use Rattle.lynx_carry.proofs.judging.check_room.Given as goal

-- the servers so far have room
abbrev pub invariant-loop-number : goal.invariant-loop-number
invariant-loop-number l = record {
  counts : l.counts.items ≡ entries_of l.set l.requests;
  room : (server : ℕ) → server < l.number → entries_at l.set l.requests server ≤ MAX_ENTRIES;
}
