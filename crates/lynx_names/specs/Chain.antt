-- How a chain is written.
use Rattle.std.specs.Prelude.{ℕ, List, ◌∷◌, ◌++◌}
use Rattle.std.specs.Fmt.{decimal}
use Rattle.lynx_names.specs.declared.chain.ChainId.{ChainId}

-- its origin, a colon and its index
abbrev pub chain_text : ChainId → List ℕ
chain_text chain = decimal chain.origin ++ 58 ∷ decimal chain.index
