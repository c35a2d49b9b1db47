-- Chains by their places among those that began.
use Rattle.std.specs.Prelude.{ℕ, List, slice_index_or}
use Rattle.lynx_names.specs.declared.chain.ChainId.{ChainId}

-- the chain of a place
abbrev pub chain_at : List ChainId → ℕ → ChainId
chain_at chains place = slice_index_or chains place (record { origin = 0; index = 0 })
