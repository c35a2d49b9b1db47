-- Where one chain of a cycle comes before the next.
use Rattle.std.specs.Prelude.{List, [], ◌∷◌, ◌++◌, drop, take, find, Option, None, IsSome, All, option_map}
use Rattle.std.specs.List.{list_any, zip}
use Rattle.std.specs.Option.{option_or}
use Rattle.lynx_names.specs.declared.chain.ChainId.{ChainId}
use Rattle.lynx_set.specs.Set.{Set}
use Rattle.lynx_entry.specs.Entry.{stamp_of}
use Rattle.lynx_foot.specs.declared.touch.Touch.{Touch}
use Rattle.lynx_foot.specs.Tests.{collide}
use Rattle.lynx_order.specs.Precedence.{touches_in}
use Rattle.lynx_order.specs.declared.explained.Explained.{Explained}
use Rattle.lynx_order.specs.declared.explained.Explained.TheVariants.{Order, Cycle}
use Rattle.lynx_world.specs.Placed.{Placed}
use Rattle.lynx_chart.specs.declared.meeting.Meeting.{Meeting}
use Rattle.lynx_chart.specs.declared.meeting.Node.{Node}

-- the first of these touches that collides with one of the others
abbrev pub touch_met : List Touch → List Touch → Option Touch
touch_met lefts rights = find (λ left. list_any (collide left) rights) lefts

-- where an entry stands
abbrev pub node_of : Placed → Node
node_of placed = record { server = placed.server; stamp = stamp_of placed.entry }

-- the entries of two hops and the cell at which they collide
abbrev pub meeting_at : Node → Placed → Touch → Meeting
meeting_at before after touch =
    record { before = before; after = node_of after; table = touch.table; key = touch.key }

-- the meeting of an entry, whose hop touched that, with a later one, if a hop of the chain touched
-- there what collides
abbrev pub meeting_with : Set → ChainId → Node → List Touch → Placed → Option Meeting
meeting_with set other before touches after =
    option_map (meeting_at before after) (touch_met touches (touches_in set other after.entry))

-- the first meeting with one of these
abbrev pub meeting_behind : Set → ChainId → Node → List Touch → List Placed → Option Meeting
meeting_behind set other before touches [] = None
meeting_behind set other before touches (after ∷ list) =
    option_or (meeting_with set other before touches after)
    (meeting_behind set other before touches list)

-- the first meeting of an entry, in which a hop of the one chain ran, with a later one of the other
abbrev pub meeting_from : Set → ChainId → ChainId → Placed → List Placed → Option Meeting
meeting_from set one other before list =
    meeting_behind set other (node_of before) (touches_in set one before.entry) list

-- the first entries in the list by which the one chain precedes the other, and the first cell at
-- which they do
abbrev pub meeting_of : Set → ChainId → ChainId → List Placed → Option Meeting
meeting_of set one other [] = None
meeting_of set one other (before ∷ list) =
    option_or (meeting_from set one other before list) (meeting_of set one other list)

-- each chain of a cycle with the next, and the last with the first; an order has no such pairs
abbrev pub linked : List ChainId → List (ChainId × ChainId)
linked chains = zip chains (drop 1 chains ++ take 1 chains)

abbrev pub links_of : Explained → List (ChainId × ChainId)
links_of (Order chains) = []
links_of (Cycle chains) = linked chains

-- each link has entries by which its first chain precedes the second
abbrev pub AreMet : Set → List Placed → Explained → Type 0
AreMet set list explained =
    All (λ link. IsSome (meeting_of set link.0 link.1 list)) (links_of explained)
