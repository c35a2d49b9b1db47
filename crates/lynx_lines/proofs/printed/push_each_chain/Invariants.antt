use Rattle.std.proofs.Common.{◌≡◌, ◌++◌, ◌∷◌, take}
use Rattle.std.specs.List.{flat_map}
use Rattle.std.specs.String.{string_bytes}
use Rattle.lynx_names.specs.Chain.{chain_text}
use Rattle.lynx_lines.proofs.printed.push_each_chain.Given as goal

abbrev pub invariant-loop-chain : goal.invariant-loop-chain
invariant-loop-chain l =
    string_bytes l.text ≡ string_bytes l.initial.text ++ flat_map (λ one. 32 ∷ chain_text one) (take l.chain-index l.chains)
