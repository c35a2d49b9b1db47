-- The marks on the changed hops of a changed set.
use Rattle.std.specs.Prelude.{Bool, false, true, ℕ, List, [], ◌++◌, codes, if◌then◌else◌}
use Rattle.std.specs.List.{flat_map}
use Rattle.lynx_set.specs.Set.{Set}
use Rattle.lynx_graph.specs.declared.edges.Edge.{Edge}
use Rattle.lynx_draw.specs.declared.boxes.Boxes.{Boxes}
use Rattle.lynx_draw.specs.declared.spot.Spot.{Spot}
use Rattle.lynx_draw.specs.Boxes.{is_boxed}
use Rattle.lynx_draw.specs.Captions.{mark_end}
use Rattle.lynx_draw.specs.Changes.{changed_hops}
use Rattle.lynx_draw.specs.Nodes.{spot_at}
use Rattle.lynx_draw.specs.Spots.{is_drawn_twice, spot_text}

-- a thick frame around a hop's node
abbrev pub mark_line : Set → Spot → List ℕ
mark_line set spot = codes "    " ++ spot_text set spot ++ mark_end

-- .. and around the hop drawn again, where its program is drawn twice
abbrev pub hop_marks : Set → Bool → ℕ → ℕ → List ℕ
hop_marks set twice program hop =
    mark_line set (spot_at program hop false)
    ++ (if twice then mark_line set (spot_at program hop true) else [])

-- the frames of a program's changed hops
abbrev pub program_marks : Set → Set → List Edge → ℕ → List ℕ
program_marks before set edges program =
    flat_map (hop_marks set (is_drawn_twice edges program) program)
    (changed_hops before set program)

-- a program of a box has none
abbrev pub drawn_marks : Set → Set → Boxes → List Edge → ℕ → List ℕ
drawn_marks before set boxes edges program =
    if is_boxed boxes program then [] else program_marks before set edges program

-- those of these programs
abbrev pub marks_text : Set → Set → Boxes → List Edge → List ℕ → List ℕ
marks_text before set boxes edges programs =
    flat_map (drawn_marks before set boxes edges) programs
