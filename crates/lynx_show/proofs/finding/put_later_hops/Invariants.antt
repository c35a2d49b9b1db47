use Rattle.std.proofs.Common.{◌≡◌, ◌++◌}
use Rattle.std.specs.List.{flat_map, range_with_len}
use Rattle.lynx_show.specs.Finds.{line_behind}
use Rattle.lynx_show.proofs.finding.put_later_hops.Given as goal

-- the hops so far
abbrev pub invariant-loop-before : goal.invariant-loop-before
invariant-loop-before l =
    l.text.items ≡ l.fn.text.items ++ flat_map (line_behind l.set l.stores l.begun) (range_with_len 0 l.before)
