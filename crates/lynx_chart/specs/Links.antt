-- The shapes of a cycle's links.
use Rattle.std.specs.Prelude.{ℕ, ◌+◌, List, [], ◌∷◌, ◌++◌, codes, decimal, Option, Some, None}
use Rattle.lynx_names.specs.Chain.{chain_text}
use Rattle.lynx_names.specs.declared.chain.ChainId.{ChainId}
use Rattle.lynx_set.specs.Set.{Set}
use Rattle.lynx_set.specs.Lookups.{table_name}
use Rattle.lynx_order.specs.declared.explained.Explained.{Explained}
use Rattle.lynx_world.specs.Placed.{Placed}
use Rattle.lynx_chart.specs.Rows.{spot_at}
use Rattle.lynx_chart.specs.Meetings.{links_of, meeting_of}
use Rattle.lynx_chart.specs.Shapes.{Shape, Link}
use Rattle.lynx_chart.specs.declared.meeting.Meeting.{Meeting}
use Rattle.lynx_chart.specs.declared.meeting.Node.{Node}
use Rattle.lynx_chart.specs.declared.spot.Spot.{Spot}

-- the box of an entry that stands there
abbrev pub node_spot : List ℕ → Node → Spot
node_spot stamps node = spot_at stamps node.server node.stamp

-- the cell of a meeting
abbrev pub cell_text : Set → Meeting → List ℕ
cell_text set meeting = table_name set meeting.table ++ codes " " ++ decimal meeting.key

-- which chain comes before which
abbrev pub order_text : ChainId × ChainId → List ℕ
order_text link = chain_text link.0 ++ codes " before " ++ chain_text link.1 ++ codes " by "

-- what it tells
abbrev pub link_told : Set → ChainId × ChainId → Meeting → List ℕ
link_told set link meeting = order_text link ++ cell_text set meeting

abbrev pub link_of : Set → List ℕ → ℕ → ChainId × ChainId → Meeting → Shape
link_of set stamps number link meeting =
    Link number (node_spot stamps meeting.before) (node_spot stamps meeting.after)
    (cell_text set meeting) (link_told set link meeting)

-- the shape of a link, if its chains meet
abbrev pub met_shapes : Set → List ℕ → ℕ → ChainId × ChainId → Option Meeting → List Shape
met_shapes set stamps number link None = []
met_shapes set stamps number link (Some meeting) = link_of set stamps number link meeting ∷ []

-- the shapes of links, counted from that number
abbrev pub link_shapes : Set → List Placed → List ℕ → ℕ → List (ChainId × ChainId) → List Shape
link_shapes set list stamps number [] = []
link_shapes set list stamps number (link ∷ links) =
    met_shapes set stamps number link (meeting_of set link.0 link.1 list)
    ++ link_shapes set list stamps (number + 1) links

-- those of a cycle; an order has none
abbrev pub all_links : Set → List Placed → List ℕ → Explained → List Shape
all_links set list stamps explained = link_shapes set list stamps 0 (links_of explained)
