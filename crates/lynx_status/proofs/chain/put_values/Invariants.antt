use Rattle.std.proofs.Common.{◌≡◌, ◌++◌, take}
use Rattle.std.specs.Prelude.{codes}
use Rattle.std.specs.List.{flat_map}
use Rattle.std.specs.String.{string_bytes}
use Rattle.lynx_status.specs.Chains.{quoted}
use Rattle.lynx_status.proofs.chain.put_values.Given as goal

-- the values so far, each behind a comma
abbrev pub invariant-loop-value : goal.invariant-loop-value
invariant-loop-value l =
    string_bytes l.text ≡ string_bytes l.initial.text ++ flat_map (λ value. codes "," ++ quoted value) (take l.value-index l.rest)
