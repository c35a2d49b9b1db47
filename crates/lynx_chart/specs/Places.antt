-- The places of chains in the order or the cycle that a run ends with.
use Rattle.std.specs.Prelude.{ℕ, ◌+◌, List, [], ◌∷◌, ◌++◌, codes, decimal, if◌then◌else◌, Option, Some, None}
use Rattle.lynx_names.specs.declared.chain.ChainId.{ChainId}
use Rattle.lynx_rules.specs.Deliveries.{same_chain}
use Rattle.lynx_draw.specs.Colours.{colour_at}
use Rattle.lynx_order.specs.declared.explained.Explained.{Explained}
use Rattle.lynx_order.specs.declared.explained.Explained.TheVariants.{Order, Cycle}

-- the chains of an order or a cycle
abbrev pub chains_of : Explained → List ChainId
chains_of (Order chains) = chains
chains_of (Cycle chains) = chains

-- which of the two it is
abbrev pub word_of : Explained → List ℕ
word_of (Order chains) = codes "order"
word_of (Cycle chains) = codes "cycle"

-- the place of a chain among these, the first of which has that place
abbrev pub place_from : ℕ → List ChainId → ChainId → Option ℕ
place_from place [] chain = None
place_from place (first ∷ chains) chain =
    if same_chain first chain then Some place else place_from (place + 1) chains chain

-- the place of a chain in an order or a cycle, counted from 0, if it is one of its chains
abbrev pub place_of : Explained → ChainId → Option ℕ
place_of explained chain = place_from 0 (chains_of explained) chain

-- a line with a place, counted from 1
abbrev pub place_text : List ℕ → ℕ → List ℕ
place_text word place = decimal (place + 1) ++ codes " in the " ++ word

-- the line, if there is a place
abbrev pub place_line : List ℕ → Option ℕ → List ℕ
place_line word None = []
place_line word (Some place) = place_text word place

-- its colour; what has no place is white
abbrev pub place_colour : Option ℕ → List ℕ
place_colour None = codes "#ffffff"
place_colour (Some place) = colour_at place
