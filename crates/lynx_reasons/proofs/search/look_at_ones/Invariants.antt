use Rattle.std.proofs.Common.{filter, map}
use Rattle.std.specs.List.{range_with_len}
use Rattle.lynx_reasons.specs.declared.culprit.Culprit.TheVariants.{One}
use Rattle.lynx_reasons.specs.inner.Searches.{Goes, Keeps, is_aimed}
use Rattle.lynx_reasons.proofs.search.look_at_ones.Given as goal

-- those so far are looked at
abbrev pub invariant-loop-first : goal.invariant-loop-first
invariant-loop-first l = record {
  keeps : Keeps l.set 1 l.search;
  goes : Goes l.set (filter (is_aimed l.set l.is_late) (map (λ first. One first) (range_with_len 0 l.first))) l.fn.search l.search;
}
