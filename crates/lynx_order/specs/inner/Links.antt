-- What is looked at before a cycle that was found is believed.
use Rattle.std.specs.Prelude.{◌≡◌, ℕ, suc, List, [], Option, Some, None, slice_get}
use Rattle.std.specs.Option.{unwrap_or}
use Rattle.lynx_names.specs.declared.chain.ChainId.{ChainId}
use Rattle.lynx_set.specs.Set.{Set}
use Rattle.lynx_foot.specs.declared.touch.Touch.{Touch}
use Rattle.lynx_order.specs.declared.search.candidate.Link.{Link}
use Rattle.lynx_world.specs.Placed.{Placed}
use Rattle.lynx_order.specs.Precedence.{Precedes, touches_in}
use Rattle.lynx_order.specs.inner.ChainsAt.{chain_at}

-- what the chain's hop touched in the entry of that place: nothing where there is none
abbrev pub touches_of_placed : Set → ChainId → Option Placed → List Touch
touches_of_placed set chain (Some placed) = touches_in set chain placed.entry
touches_of_placed set chain None = []

-- the chain of a link
abbrev pub chain_of : List ChainId → Link → ChainId
chain_of chains link = chain_at chains link.chain

-- the chain of the link at that place precedes that of the next link; behind the last one comes the
-- first
abbrev pub PrecedesNext : Set → List Placed → List ChainId → Link → List Link → ℕ → Type 0
PrecedesNext set list chains first links place =
    (link : Link) → slice_get links place ≡ Some link →
    Precedes set list (chain_of chains link)
    (chain_of chains (unwrap_or (slice_get links (suc place)) first))

-- each chain precedes the next
abbrev pub EachPrecedes : Set → List Placed → List ChainId → Link → List Link → Type 0
EachPrecedes set list chains first links =
    (place : ℕ) → PrecedesNext set list chains first links place
