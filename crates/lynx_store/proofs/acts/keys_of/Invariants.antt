use Rattle.std.proofs.Common.{◌≡◌, map, take}
use Rattle.lynx_store.specs.Acts.{hop_in}
use Rattle.lynx_store.proofs.acts.keys_of.Given as goal

-- the rows so far have their hops
abbrev pub invariant-loop-act : goal.invariant-loop-act
invariant-loop-act l = l.keys.items ≡ map hop_in (take l.act-index l.acts)
