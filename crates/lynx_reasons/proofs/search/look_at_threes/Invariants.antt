use Rattle.std.proofs.Common.{◌+◌, ◌-◌, filter}
use Rattle.std.specs.List.{flat_map, range_with_len}
use Rattle.lynx_reasons.specs.Culprits.{threes_from, threes_of}
use Rattle.lynx_reasons.specs.inner.Searches.{Goes, Keeps, is_aimed}
use Rattle.lynx_reasons.proofs.search.look_at_threes.Given as goal

-- those of the first programs so far are looked at
abbrev pub invariant-loop-first : goal.invariant-loop-first
invariant-loop-first l = record {
  keeps : Keeps l.set 3 l.search;
  goes : Goes l.set (filter (is_aimed l.set l.is_late) (flat_map (threes_from l.set) (range_with_len 0 l.first))) l.fn.search l.search;
}

-- and those of the next one with the second programs so far
abbrev pub invariant-loop-second : goal.invariant-loop-second
invariant-loop-second l = record {
  keeps : Keeps l.set 3 l.search;
  goes : Goes l.set (filter (is_aimed l.set l.is_late) (flat_map (threes_of l.set l.first) (range_with_len (l.first + 1) (l.second - (l.first + 1))))) l.initial.search l.search;
}
