-- Each hop of a chain at most once, and in order; and chains of one origin in order.
use Rattle.std.specs.Prelude.{◌≡◌, ◌<◌, ℕ, List, slice_get, if◌then◌else◌, length, Option, Some, None}
use Rattle.std.specs.List.{filter_map, range_with_len}
use Rattle.lynx_names.specs.declared.chain.ChainId.{ChainId}
use Rattle.lynx_entry.specs.declared.entry.Entry.{Entry}
use Rattle.lynx_entry.specs.declared.entry.Entry.TheVariants.{Begun, Refused, Hop}
use Rattle.lynx_rules.specs.Deliveries.{same_chain}
use Rattle.lynx_world.specs.Placed.{Placed}

-- the hop of the chain that an entry is, if it is one
abbrev pub hop_in : ChainId → Entry → Option ℕ
hop_in chain (Begun begun) = if same_chain begun.chain chain then Some 0 else None
hop_in chain (Refused refused) = None
hop_in chain (Hop ran) = if same_chain ran.message.chain chain then Some ran.message.hop else None

-- the hops of a chain that stand in the list, in its order
abbrev pub done_hops : ChainId → List Placed → List ℕ
done_hops chain list = filter_map (λ placed. hop_in chain placed.entry) list

-- The hops of each chain stand in the list as 0, 1, .., n - 1.
abbrev pub IsOnceAndInOrder : List Placed → Type 0
IsOnceAndInOrder list =
    (chain : ChainId) → done_hops chain list ≡ range_with_len 0 (length (done_hops chain list))

-- a hop of the chain stands at that place of the list, at the server
pub record StandsAt (list : List Placed) (chain : ChainId) (server place : ℕ) : Type 0 where
  pub placed : Placed
  pub there : slice_get list place ≡ Some placed
  pub here : placed.server ≡ server
  pub hop : ℕ
  pub is : hop_in chain placed.entry ≡ Some hop

-- Of two chains of one origin the one with the lower index began first. At each server each hop of
-- it stands before each hop of the other.
abbrev pub IsInOriginOrder : List Placed → Type 0
IsInOriginOrder list =
    (earlier later : ChainId) → earlier.origin ≡ later.origin → earlier.index < later.index →
    (server place other : ℕ) → StandsAt list earlier server place → StandsAt list later server other
    → place < other
