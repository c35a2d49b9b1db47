use Rattle.std.proofs.Common.{◌∷◌, ◌+◌, ◌*◌, length, take}
use Rattle.std.specs.List.{flat_map, AllByRecursion}
use Rattle.lynx_codec.specs.Fields.{number_at}
use Rattle.lynx_codec.specs.Adding.{Adds}
use Rattle.lynx_codec.specs.Ranges.{IsNumber}
use Rattle.lynx_codec.proofs.writing.put_numbers.Given as goal

abbrev pub invariant-loop-at : goal.invariant-loop-at
invariant-loop-at l = record {
  added : Adds l.fn.out l.out (length l.list ∷ flat_map number_at (take l.at-index l.list)) (1 + 9 * l.at-index);
  range : AllByRecursion IsNumber (take l.at-index l.list);
}
