use Rattle.std.proofs.Common.{◌≡◌, ◌++◌, length}
use Rattle.lynx_keep.specs.Stored.{HasEntries, entries_in}
use Rattle.lynx_keep.proofs.reading.read_entries.Given as goal

-- the entries so far, and those that are left, are all
abbrev pub invariant-loop-entries : goal.invariant-loop-entries
invariant-loop-entries l = HasEntries l.feed × (l.entries.items ++ entries_in l.feed.rest ≡ entries_in l.encodings)

abbrev pub decreases-loop-entries : goal.decreases-loop-entries
decreases-loop-entries l = length (entries_in l.feed.rest)
