use Rattle.std.proofs.Common.{◌≡◌, ◌++◌, take}
use Rattle.std.specs.Prelude.{codes}
use Rattle.std.specs.List.{flat_map}
use Rattle.std.specs.String.{string_bytes}
use Rattle.lynx_status.specs.Chains.{hop_json}
use Rattle.lynx_status.proofs.chain.put_hops.Given as goal

-- the hops so far, each behind a comma
abbrev pub invariant-loop-hop : goal.invariant-loop-hop
invariant-loop-hop l =
    string_bytes l.text ≡ string_bytes l.initial.text ++ flat_map (λ hop. codes "," ++ hop_json hop) (take l.hop-index l.rest)
