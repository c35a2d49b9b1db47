use Rattle.std.proofs.Common.{◌≡◌, take}
use Rattle.lynx_set.proofs.set.copy_names.Given as goal

abbrev pub invariant-loop-name : goal.invariant-loop-name
invariant-loop-name l = l.copied.keys ≡ take l.name-index l.name-items
