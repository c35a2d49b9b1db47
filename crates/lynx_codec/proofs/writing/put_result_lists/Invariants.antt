use Rattle.std.proofs.Common.{◌∷◌, ◌+◌, ◌*◌, length, take}
use Rattle.std.specs.List.{flat_map, AllByRecursion}
use Rattle.lynx_names.specs.declared.limits.TheConstants.{MAX_ACTIONS}
use Rattle.lynx_codec.specs.Fields.{values}
use Rattle.lynx_codec.specs.Adding.{Adds}
use Rattle.lynx_codec.specs.Ranges.{AreValues}
use Rattle.lynx_codec.proofs.writing.put_result_lists.Given as goal

abbrev pub invariant-loop-results : goal.invariant-loop-results
invariant-loop-results l = record {
  added : Adds l.fn.out l.out (length l.lists ∷ flat_map values (take l.results-index l.lists)) (1 + 129 * l.results-index);
  range : AllByRecursion (AreValues MAX_ACTIONS) (take l.results-index l.lists);
}
