use Rattle.std.proofs.Common.{◌≡◌, take}
use Rattle.lynx_keep.specs.Stored.{AreStored, entries_in}
use Rattle.lynx_keep.proofs.memory_keeper.encodings_of.Given as goal

-- the encodings of the entries so far
abbrev pub invariant-loop-entry : goal.invariant-loop-entry
invariant-loop-entry l = AreStored l.encodings.items × (entries_in l.encodings.items ≡ take l.entry-index l.entries)
