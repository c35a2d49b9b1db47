-- The programs of a picture.
use Rattle.std.specs.Prelude.{false, true, ◌==◌, ℕ, List, [], ◌++◌, if◌then◌else◌}
use Rattle.std.specs.List.{flat_map}
use Rattle.lynx_set.specs.Set.{Set}
use Rattle.lynx_graph.specs.declared.edges.Edge.{Edge}
use Rattle.lynx_graph.specs.Groups.{leader_of}
use Rattle.lynx_draw.specs.declared.boxes.Boxes.{Boxes}
use Rattle.lynx_draw.specs.Boxes.{box_text, is_boxed}
use Rattle.lynx_draw.specs.Clusters.{cluster_text}
use Rattle.lynx_draw.specs.Late.{is_late}
use Rattle.lynx_draw.specs.declared.late.LateBlocks.{LateBlocks}
use Rattle.lynx_draw.specs.Spots.{is_drawn_twice}

-- a program, and once more where it is drawn twice
abbrev pub program_text : Set → LateBlocks → List Edge → ℕ → List ℕ
program_text set late edges program =
    cluster_text set (is_late late program) program false
    ++ (if is_drawn_twice edges program then cluster_text set (is_late late program) program true
    else [])

-- the program that leads a large group stands for its box, and the others of the group for nothing
abbrev pub drawn_text : Set → Boxes → LateBlocks → List Edge → ℕ → List ℕ
drawn_text set boxes late edges program =
    if is_boxed boxes program
    then (if leader_of boxes.members program == program then box_text set boxes edges program
    else [])
    else program_text set late edges program

-- these programs
abbrev pub programs_text : Set → Boxes → LateBlocks → List Edge → List ℕ → List ℕ
programs_text set boxes late edges programs = flat_map (drawn_text set boxes late edges) programs
