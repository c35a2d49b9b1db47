use Rattle.std.proofs.Common.{◌+◌, ◌-◌, filter, map}
use Rattle.std.specs.List.{flat_map, range_with_len}
use Rattle.lynx_reasons.specs.Culprits.{twos_of}
use Rattle.lynx_reasons.specs.declared.culprit.Culprit.TheVariants.{Two}
use Rattle.lynx_reasons.specs.inner.Searches.{Goes, Keeps, is_aimed}
use Rattle.lynx_reasons.proofs.search.look_at_twos.Given as goal

-- those of the first programs so far are looked at
abbrev pub invariant-loop-first : goal.invariant-loop-first
invariant-loop-first l = record {
  keeps : Keeps l.set 2 l.search;
  goes : Goes l.set (filter (is_aimed l.set l.is_late) (flat_map (twos_of l.set) (range_with_len 0 l.first))) l.fn.search l.search;
}

-- and those of the next one with the second programs so far
abbrev pub invariant-loop-second : goal.invariant-loop-second
invariant-loop-second l = record {
  keeps : Keeps l.set 2 l.search;
  goes : Goes l.set (filter (is_aimed l.set l.is_late) (map (λ second. Two l.first second) (range_with_len (l.first + 1) (l.second - (l.first + 1))))) l.initial.search l.search;
}
