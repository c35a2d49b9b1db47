use Rattle.std.proofs.Common.{◌≡◌, ◌++◌, take}
use Rattle.std.specs.List.{flat_map}
use Rattle.lynx_show.specs.Finds.{found_lines}
use Rattle.lynx_show.proofs.finding.put_found.Given as goal

-- the entries so far
abbrev pub invariant-loop-entry : goal.invariant-loop-entry
invariant-loop-entry l =
    l.text.items ≡ l.initial.text.items ++ flat_map (found_lines l.set l.stores l.client l.number l.held.server) (take l.entry-index l.held.loaded.entries.items)
