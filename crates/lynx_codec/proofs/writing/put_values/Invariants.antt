use Rattle.std.proofs.Common.{◌∷◌, ◌+◌, ◌*◌, length, take}
use Rattle.std.specs.List.{flat_map}
use Rattle.lynx_codec.specs.Fields.{word}
use Rattle.lynx_codec.specs.Adding.{Adds}
use Rattle.lynx_codec.proofs.writing.put_values.Given as goal

abbrev pub invariant-loop-value : goal.invariant-loop-value
invariant-loop-value l = Adds l.fn.out l.out (length l.list ∷ flat_map word (take l.value-index l.list)) (1 + 8 * l.value-index)
