-- Hops as nodes.
use Rattle.std.specs.Prelude.{Bool, ◌==◌, ◌+◌, ◌-◌, ℕ, List, [], ◌∷◌, ◌++◌, codes, decimal, if◌then◌else◌}
use Rattle.std.specs.Option.{option_map_or}
use Rattle.lynx_lex.specs.Lines.{joined}
use Rattle.lynx_set.specs.Set.{Set}
use Rattle.lynx_set.specs.Lookups.{program_at}
use Rattle.lynx_set.specs.Text.{action_words, bound_in, bound_names}
use Rattle.lynx_set.specs.declared.action.Action.{Action}
use Rattle.lynx_set.specs.declared.program.Hop.{Hop}
use Rattle.lynx_draw.specs.declared.spot.Spot.{Spot}
use Rattle.lynx_draw.specs.Spots.{spot_text}
use Rattle.lynx_draw.specs.Colours.{colour_at}

-- the line of an action, which binds the name at that place if it binds one
abbrev pub action_text : List (List ℕ) → List (List ℕ) → ℕ → Action → List ℕ
action_text tables names place action =
    joined (action_words tables names place action) ++ codes "\\l"

-- the lines of actions, the first of which binds the name at that place if it binds one
abbrev pub actions_text : List (List ℕ) → List (List ℕ) → ℕ → List Action → List ℕ
actions_text tables names place [] = []
actions_text tables names place (action ∷ actions) =
    action_text tables names place action
    ++ actions_text tables names (place + bound_names action) actions

-- which hop it is, and where
abbrev pub hop_label : ℕ → ℕ → List ℕ
hop_label number server =
    codes "hop " ++ decimal number ++ codes " at server " ++ decimal server ++ codes "\\n"

-- a node's name, and where its label begins
abbrev pub node_head : Set → Spot → List ℕ
node_head set spot = codes "    " ++ spot_text set spot ++ codes " [label=\""

-- where its label ends, and its colour
abbrev pub node_end : ℕ → List ℕ
node_end server = codes "\", fillcolor=\"" ++ colour_at server ++ codes "\"];\n"

-- the node of a hop: what it is, its actions, and its server's colour
abbrev pub node_line : Set → List (List ℕ) → ℕ → Spot → Hop → List ℕ
node_line set names place spot hop =
    node_head set spot ++ hop_label spot.place.hop hop.server
    ++ actions_text set.tables names place hop.actions ++ node_end hop.server

-- the hop before
abbrev pub spot_before : Spot → Spot
spot_before spot =
    record {
      place = record { program = spot.place.program; hop = spot.place.hop - 1 };
      again = spot.again;
    }

-- the arrow to a hop from the one before it, if there is one
abbrev pub arrow_text : Set → Spot → List ℕ
arrow_text set spot =
    if spot.place.hop == 0 then [] else codes "    " ++ spot_text set (spot_before spot)
    ++ codes " -> " ++ spot_text set spot ++ codes ";\n"

abbrev pub spot_at : ℕ → ℕ → Bool → Spot
spot_at program number again =
    record { place = record { program = program; hop = number }; again = again }

-- the node of a hop, and the arrow to it
abbrev pub hop_text : Set → List (List ℕ) → ℕ → Spot → Hop → List ℕ
hop_text set names place spot hop = node_line set names place spot hop ++ arrow_text set spot

-- the nodes of hops from that number on, and the arrows to them
abbrev pub hops_text : Set → List (List ℕ) → ℕ → Bool → ℕ → ℕ → List Hop → List ℕ
hops_text set names program again place number [] = []
hops_text set names program again place number (hop ∷ hops) =
    hop_text set names place (spot_at program number again) hop
    ++ hops_text set names program again (place + bound_in hop.actions) (number + 1) hops

-- the hops of a program
abbrev pub drawn_hops : Set → ℕ → Bool → List ℕ
drawn_hops set program again =
    option_map_or (λ found. hops_text set found.names program again found.parameters 0 found.hops)
    (program_at set program) []
