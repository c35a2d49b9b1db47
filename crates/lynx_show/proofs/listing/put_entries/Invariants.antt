use Rattle.std.proofs.Common.{◌≡◌, ◌++◌, take}
use Rattle.lynx_show.specs.Listing.{entry_lines}
use Rattle.lynx_show.proofs.listing.put_entries.Given as goal

-- the entries so far have their lines
abbrev pub invariant-loop-entry : goal.invariant-loop-entry
invariant-loop-entry l = l.text.items ≡ l.initial.text.items ++ entry_lines l.detail l.set (take l.entry-index l.entries)
