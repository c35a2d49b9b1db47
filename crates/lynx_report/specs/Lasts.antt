-- What the last entry of a chain tells, given what each entry tells of its chain.
use Rattle.std.specs.Prelude.{ℕ, List, [], ◌∷◌, if◌then◌else◌, Option, Some, None, option_and_then, slice_get}
use Rattle.std.specs.Option.{option_or}
use Rattle.lynx_names.specs.declared.chain.ChainId.{ChainId}
use Rattle.lynx_entry.specs.declared.entry.Entry.{Entry}
use Rattle.lynx_rules.specs.Deliveries.{same_chain}
use Rattle.lynx_world.specs.Placed.{Placed}

-- what the entry at a place tells, and of which chain
abbrev pub told_at : {X : Type 0} → (Entry → Option (ChainId × X)) → List Placed → ℕ
    → Option (ChainId × X)
told_at tells list place = option_and_then (λ placed. tells placed.entry) (slice_get list place)

-- the same, if it is of this chain
abbrev pub told_of : {X : Type 0} → ChainId → Option (ChainId × X) → Option X
told_of chain None = None
told_of chain (Some told) = if same_chain told.0 chain then Some told.1 else None

-- what the last entry of the chain tells
abbrev pub last_of : {X : Type 0} → (Entry → Option (ChainId × X)) → List Placed → ChainId
    → Option X
last_of tells [] chain = None
last_of tells (placed ∷ list) chain =
    option_or (last_of tells list chain) (told_of chain (tells placed.entry))
