use Rattle.std.proofs.Common.{◌+◌, ◌-◌, filter, map}
use Rattle.std.specs.List.{range_with_len}
use Rattle.lynx_reasons.specs.declared.culprit.Culprit.TheVariants.{Three}
use Rattle.lynx_reasons.specs.inner.Searches.{Goes, Keeps, is_aimed}
use Rattle.lynx_reasons.proofs.search.look_at_threes_of.Given as goal

-- those so far are looked at
abbrev pub invariant-loop-third : goal.invariant-loop-third
invariant-loop-third l = record {
  keeps : Keeps l.set 3 l.search;
  goes : Goes l.set (filter (is_aimed l.set l.is_late) (map (λ third. Three l.fn.pair.0 l.fn.pair.1 third) (range_with_len (l.fn.pair.1 + 1) (l.third - (l.fn.pair.1 + 1))))) l.fn.search l.search;
}
