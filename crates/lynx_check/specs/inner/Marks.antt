-- From which hops a walk can be closed within so many further visits.
use Rattle.std.specs.Prelude.{Bool, true, false, not, ◌==◌, ◌&&◌, ◌||◌, ℕ, List, map, slice_get}
use Rattle.std.specs.List.{list_any, zip}
use Rattle.std.specs.Option.{option_map_or}
use Rattle.std.proofs.Common.{zero, suc}
use Rattle.lynx_graph.specs.declared.nodes.Node.{Node}
use Rattle.lynx_check.specs.declared.marks.Marks.{Marks}
use Rattle.lynx_graph.specs.Tests.{same_server}

-- the mark for a walk whose visits after the first so far crossed, or went abroad
abbrev pub mark : Marks → Bool → Bool → Bool
mark marks false false = marks.neither
mark marks true false = marks.crossed
mark marks false true = marks.abroad
mark marks true true = marks.both

-- the marks that a test gives
abbrev pub marks_by : (Bool → Bool → Bool) → Marks
marks_by test =
    record {
      neither = test false false;
      crossed = test true false;
      abroad = test false true;
      both = test true true;
    }

abbrev pub mark_at : List Marks → ℕ → Bool → Bool → Bool
mark_at table node crossed abroad =
    option_map_or (λ marks. mark marks crossed abroad) (slice_get table node) false

-- the node is of a program of another origin than the start's
abbrev pub is_abroad : Node → Node → Bool
is_abroad start node = not (same_server node.origin start.origin)

-- an arrival here closes the walk: its first visit is entered here and left at the start
abbrev pub is_goal : Node → Node → Bool → Bool → Bool
is_goal start node crossed abroad =
    node.place.program == start.place.program && abroad &&
    (crossed || not (node.place.hop == start.place.hop))

abbrev pub first_marks : Node → Node → Marks
first_marks start node = marks_by (is_goal start node)

abbrev pub first_table : List Node → Node → List Marks
first_table nodes start = map (first_marks start) nodes

-- a hop with which the node may conflict is marked
abbrev pub leaves : List Marks → Node → Bool → Bool → Bool
leaves table node crossed abroad =
    list_any (λ next. mark_at table next crossed abroad) node.neighbours

abbrev pub is_marked : List Marks → Bool → Bool → Bool
is_marked table crossed abroad = list_any (λ marks. mark marks crossed abroad) table

-- the marks that some hop has
abbrev pub some_marks : List Marks → Marks
some_marks table = marks_by (is_marked table)

-- the same, asked only for marks that some hop has
abbrev pub leaving_marks : List Marks → Marks → Node → Marks
leaving_marks table some node =
    marks_by (λ crossed abroad. mark some crossed abroad && leaves table node crossed abroad)

abbrev pub leaving_table : List Node → List Marks → List Marks
leaving_table nodes table = map (leaving_marks table (some_marks table)) nodes

-- the program that was entered at the node may be left by a marked hop
abbrev pub goes_on : List Marks → Node → Node → Bool → Bool → Bool
goes_on leaving start node crossed abroad =
    list_any (λ exit. mark_at leaving exit.node (crossed || not (node.place.hop == exit.hop))
    (abroad || is_abroad start node)) node.exits

abbrev pub next_marks : List Marks → Node → Node → Marks → Marks
next_marks leaving start node marks =
    marks_by (λ crossed abroad. mark marks crossed abroad || goes_on leaving start node crossed
    abroad)

abbrev pub next_table : List Node → Node → List Marks → List Marks
next_table nodes start table =
    map (λ paired. next_marks (leaving_table nodes table) start paired.0 paired.1) (zip nodes table)

-- the marks within so many further visits
unfoldable pub table_within : List Node → Node → ℕ → List Marks
table_within nodes start zero = first_table nodes start
table_within nodes start (suc further) = next_table nodes start (table_within nodes start further)
