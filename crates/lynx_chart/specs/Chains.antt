-- The shapes of chains, and of what was refused.
use Rattle.std.specs.Prelude.{Bool, true, false, ℕ, List, [], ◌∷◌, ◌++◌}
use Rattle.std.specs.List.{flat_map}
use Rattle.lynx_names.specs.declared.chain.ChainId.{ChainId}
use Rattle.lynx_set.specs.Set.{Set}
use Rattle.lynx_entry.specs.declared.entry.Entry.{Entry}
use Rattle.lynx_entry.specs.declared.entry.Entry.TheVariants.{Begun, Refused, Hop}
use Rattle.lynx_order.specs.declared.explained.Explained.{Explained}
use Rattle.lynx_rules.specs.Deliveries.{same_chain}
use Rattle.lynx_world.specs.Placed.{Placed}
use Rattle.lynx_chart.specs.Arrows.{message_shapes, wanted}
use Rattle.lynx_chart.specs.Labels.{box_of}
use Rattle.lynx_chart.specs.Places.{place_colour, place_of}
use Rattle.lynx_chart.specs.Shapes.{Shape, Opens, Closes}
use Rattle.lynx_chart.specs.declared.fates.Notice.{Notice}
use Rattle.lynx_chart.specs.declared.messages.Sent.{Sent}

-- a hop of the chain ran in the entry
abbrev pub is_act_of : ChainId → Entry → Bool
is_act_of chain (Begun begun) = same_chain begun.chain chain
is_act_of chain (Refused refused) = false
is_act_of chain (Hop ran) = same_chain ran.message.chain chain

abbrev pub is_refusal : Entry → Bool
is_refusal (Begun begun) = false
is_refusal (Refused refused) = true
is_refusal (Hop ran) = false

-- the box of an entry, if it is of the chain
abbrev pub act_shapes : Set → Explained → List ℕ → ChainId → Placed → List Shape
act_shapes set explained stamps chain placed =
    wanted (is_act_of chain placed.entry) (box_of set explained stamps placed)

-- the shapes of a message, if it is of the chain
abbrev pub own_shapes : Bool → List Shape → List Shape
own_shapes true shapes = shapes
own_shapes false shapes = []

abbrev pub arrow_shapes : Set → List Notice → ChainId → Sent → List Shape
arrow_shapes set notices chain sent =
    own_shapes (same_chain sent.chain chain) (message_shapes set notices sent)

-- what the chains of a run are drawn by
pub record Given : Type 0 where
  pub set : Set
  pub explained : Explained
  pub stamps : List ℕ
  pub notices : List Notice
  pub messages : List Sent

-- the shapes of a chain: those of its entries among these, and of its messages
abbrev pub chain_shapes : Given → List Placed → ChainId → List Shape
chain_shapes by list chain =
    Opens (place_colour (place_of by.explained chain))
    ∷ (flat_map (act_shapes by.set by.explained by.stamps chain) list
    ++ (flat_map (arrow_shapes by.set by.notices chain) by.messages ++ Closes ∷ []))

-- the shapes of the chain that begins with an entry, if one does
abbrev pub begun_shapes : Given → List Placed → Entry → List Shape
begun_shapes by list (Begun begun) = chain_shapes by list begun.chain
begun_shapes by list (Refused refused) = []
begun_shapes by list (Hop ran) = []

-- the shapes of all chains, in the order in which they began
abbrev pub all_chains : Given → List Placed → List Shape
all_chains by [] = []
all_chains by (placed ∷ list) =
    begun_shapes by (placed ∷ list) placed.entry ++ all_chains by list

-- the box of an entry, if it was refused
abbrev pub refusal_shapes : Set → Explained → List ℕ → Placed → List Shape
refusal_shapes set explained stamps placed =
    wanted (is_refusal placed.entry) (box_of set explained stamps placed)
