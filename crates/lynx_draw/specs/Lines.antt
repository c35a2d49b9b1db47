-- The lines of conflicts, and of the steps of a walk.
use Rattle.std.specs.Prelude.{not, ◌+◌, ℕ, List, [], ◌∷◌, ◌++◌, codes, decimal, filter}
use Rattle.std.specs.List.{flat_map}
use Rattle.lynx_set.specs.Set.{Set}
use Rattle.lynx_graph.specs.declared.edges.Edge.{Edge}
use Rattle.lynx_graph.specs.declared.meeting.Place.{Place}
use Rattle.lynx_draw.specs.declared.spot.Spot.{Spot}
use Rattle.lynx_draw.specs.declared.steps.Step.{Step}
use Rattle.lynx_draw.specs.declared.steps.Way.{Way}
use Rattle.lynx_draw.specs.declared.steps.Way.TheVariants.{Conflict, Chain}
use Rattle.lynx_draw.specs.Spots.{left_spot, right_spot, spot_text}
use Rattle.lynx_draw.specs.Steps.{is_walked}
use Rattle.lynx_graph.specs.Tables.{tables_met}
use Rattle.lynx_draw.specs.Tables.{listed}

-- the beginning of a line: the two nodes, and where its label begins
abbrev pub arrow : Set → Spot → Spot → List ℕ
arrow set from to =
    codes "  " ++ spot_text set from ++ codes " -> " ++ spot_text set to ++ codes " [label=\" "

-- the tables at which two hops may conflict
abbrev pub met_text : Set → Place → Place → List ℕ
met_text set left right = listed (tables_met set left right)

-- the line of an edge
abbrev pub conflict_line : Set → Edge → List ℕ
conflict_line set edge =
    arrow set (left_spot edge) (right_spot edge) ++ met_text set edge.left edge.right
    ++ codes "\"];\n"

-- a line for each edge by which no step goes
abbrev pub conflict_lines : Set → List Step → List Edge → List ℕ
conflict_lines set steps edges =
    flat_map (conflict_line set) (filter (λ edge. not (is_walked edge steps)) edges)

-- the tables at which a step meets a conflict; a step within a chain has none
abbrev pub step_way : Set → Spot → Spot → Way → List ℕ
step_way set from to Conflict = codes " " ++ met_text set from.place to.place ++ codes "\"];\n"
step_way set from to Chain = codes "\", style=solid, constraint=false];\n"

abbrev pub step_end : Set → Step → List ℕ
step_end set step = step_way set step.from step.to step.way

-- the line of the step of that number
abbrev pub step_line : Set → ℕ → Step → List ℕ
step_line set number step = arrow set step.from step.to ++ decimal number ++ step_end set step

-- the lines of steps, numbered from there
abbrev pub step_lines : Set → ℕ → List Step → List ℕ
step_lines set number [] = []
step_lines set number (step ∷ steps) =
    step_line set number step ++ step_lines set (number + 1) steps
