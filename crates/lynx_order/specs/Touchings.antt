-- What the hops of chains touched, and which chains precede which by that.
use Rattle.std.specs.Prelude.{ℕ, ◌+◌, ◌==◌, ◌&&◌, Bool, not, nat_lt, if◌then◌else◌, List, [], ◌∷◌, length, map, slice_index_or, Option, Some, None}
use Rattle.std.specs.List.{cons_option, list_any, range_with_len}
use Rattle.lynx_names.specs.declared.chain.ChainId.{ChainId}
use Rattle.lynx_set.specs.Set.{Set}
use Rattle.lynx_foot.specs.declared.touch.Touch.{Touch}
use Rattle.lynx_foot.specs.Tests.{some_collide}
use Rattle.lynx_world.specs.Placed.{Placed}
use Rattle.lynx_order.specs.declared.touching.Touching.{Touching}
use Rattle.lynx_order.specs.Precedence.{touches_in}

-- the touches at a place, if there are some
abbrev pub touching : ℕ → List Touch → Option Touching
touching place touches =
    if length touches == 0 then None else Some (record { place = place; touches = touches })

-- the hops of the chain that touched something, where the list begins at this place
abbrev pub touchings_from : Set → ChainId → ℕ → List Placed → List Touching
touchings_from set chain place [] = []
touchings_from set chain place (placed ∷ list) =
    cons_option (touching place (touches_in set chain placed.entry))
    (touchings_from set chain (place + 1) list)

abbrev pub touchings_of : Set → List Placed → ChainId → List Touching
touchings_of set list chain = touchings_from set chain 0 list

-- the one hop stands before the other, and conflicts with it
abbrev pub stands_before : Touching → Touching → Bool
stands_before one other = nat_lt one.place other.place && some_collide one.touches other.touches

-- some hop of the one chain does so to some hop of the other
abbrev pub meet : List Touching → List Touching → Bool
meet ones others = list_any (λ one. list_any (λ other. stands_before one other) others) ones

-- whether the chain of the one place precedes the one of the other
abbrev pub precede_at : List (List Touching) → ℕ → ℕ → Bool
precede_at all other one =
    not (one == other) && meet (slice_index_or all one []) (slice_index_or all other [])

-- for each chain, whether it precedes the one of that place
abbrev pub row_of : List (List Touching) → ℕ → List Bool
row_of all other = map (precede_at all other) (range_with_len 0 (length all))

-- for each chain, which chains precede it
abbrev pub table_of : List (List Touching) → List (List Bool)
table_of all = map (row_of all) (range_with_len 0 (length all))
