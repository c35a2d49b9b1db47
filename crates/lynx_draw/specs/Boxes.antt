-- Large groups of programs of one origin: they stand in a box, and the conflicts among them are
-- counted in its label.
use Rattle.std.specs.Prelude.{Bool, false, ◌&&◌, ◌==◌, nat_lt, ℕ, ◌-◌, List, [], ◌++◌, length, codes, decimal, drop, filter}
use Rattle.std.specs.List.{flat_map, list_any, zip}
use Rattle.std.specs.Option.{option_map_or}
use Rattle.lynx_set.specs.Set.{Set}
use Rattle.lynx_set.specs.Lookups.{hops_of, origin_of, program_name}
use Rattle.lynx_graph.specs.declared.edges.Edge.{Edge}
use Rattle.lynx_graph.specs.declared.members.Member.{Member}
use Rattle.lynx_graph.specs.Groups.{begin_at_one_server, group_of, leader_of, leaders_of}
use Rattle.lynx_draw.specs.declared.boxes.Boxes.{Boxes}
use Rattle.lynx_draw.specs.Captions.{begin_words, box_start, label_start, pair_words, unseen_end}
use Rattle.lynx_draw.specs.Clusters.{cluster_text}
use Rattle.lynx_draw.specs.Nodes.{spot_at}
use Rattle.lynx_draw.specs.Spots.{spot_text}
use Rattle.lynx_draw.specs.declared.spot.Spot.{Spot}

-- whether the program leads a group of more programs than lines are drawn for, which all begin at
-- one server
abbrev pub is_large : Set → List Member → ℕ → Bool
is_large set members leader =
    nat_lt 10 (length (group_of members leader)) && begin_at_one_server set leader
    (group_of members leader)

-- these programs with their leaders, and the leaders of the large groups
abbrev pub boxes_of : Set → List Member → Boxes
boxes_of set members =
    record { members = members; leaders = filter (is_large set members) (leaders_of members) }

-- whether a program is of a large group
abbrev pub is_boxed : Boxes → ℕ → Bool
is_boxed boxes program =
    list_any (λ leader. leader == leader_of boxes.members program) boxes.leaders

-- the edges of the group that the program leads
abbrev pub edges_in : Boxes → List Edge → ℕ → List Edge
edges_in boxes edges leader =
    filter (λ edge. leader_of boxes.members edge.left.program == leader) edges

-- where all its programs begin
abbrev pub origin_text : Set → ℕ → List ℕ
origin_text set leader = option_map_or decimal (origin_of set leader) []

-- how many programs stand in the box, where they begin, and how many pairs of their hops may
-- conflict
abbrev pub box_label : Set → Boxes → List Edge → ℕ → ℕ → List ℕ
box_label set boxes edges leader programs =
    decimal programs ++ begin_words ++ origin_text set leader ++ codes ": "
    ++ decimal (length (edges_in boxes edges leader)) ++ pair_words

abbrev pub box_head : Set → Boxes → List Edge → ℕ → ℕ → List ℕ
box_head set boxes edges leader programs =
    box_start ++ program_name set leader ++ label_start ++ box_label set boxes edges leader programs
    ++ codes "\";\n"

-- the programs of a box, each once: none stands in the way, since programs of other origins meet
-- none of them
abbrev pub boxed_programs : Set → List ℕ → List ℕ
boxed_programs set programs = flat_map (λ program. cluster_text set false program false) programs

-- where the last hop of a program is drawn
abbrev pub last_spot : Set → ℕ → Spot
last_spot set program = spot_at program (length (hops_of set program) - 1) false

-- one program of a box below another: no arrow is seen from its last hop to the first one of the
-- other
abbrev pub below_line : Set → ℕ × ℕ → List ℕ
below_line set pair =
    codes "    " ++ spot_text set (last_spot set pair.0) ++ codes " -> "
    ++ spot_text set (spot_at pair.1 0 false) ++ unseen_end

-- each program with the one that stands a row below it
abbrev pub rows_of : List ℕ → List (ℕ × ℕ)
rows_of programs = zip programs (drop 7 programs)

abbrev pub rows_text : Set → List ℕ → List ℕ
rows_text set programs = flat_map (below_line set) (rows_of programs)

-- the box of the group that the program leads
abbrev pub box_text : Set → Boxes → List Edge → ℕ → List ℕ
box_text set boxes edges leader =
    box_head set boxes edges leader (length (group_of boxes.members leader))
    ++ boxed_programs set (group_of boxes.members leader)
    ++ rows_text set (group_of boxes.members leader) ++ codes "  }\n"
