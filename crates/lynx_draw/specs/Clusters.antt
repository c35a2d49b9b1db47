-- Programs as clusters of nodes.
use Rattle.std.specs.Prelude.{Bool, true, false, ℕ, ◌+◌, List, [], ◌∷◌, ◌++◌, Option, Some, None, codes, take, if◌then◌else◌}
use Rattle.std.specs.Option.{option_map_or}
use Rattle.lynx_set.specs.declared.interval.Interval.{Interval}
use Rattle.lynx_set.specs.declared.program.ParameterRange.{ParameterRange}
use Rattle.lynx_set.specs.Intervals.{range_of}
use Rattle.lynx_set.specs.Text.{interval_word}
use Rattle.lynx_set.specs.Set.{Set}
use Rattle.lynx_set.specs.Lookups.{program_at, program_name, ranges_of}
use Rattle.lynx_draw.specs.Spots.{again_word}
use Rattle.lynx_draw.specs.Nodes.{drawn_hops}
use Rattle.lynx_draw.specs.Captions.{late_label, thick_frame}

-- the parameters of a program
abbrev pub parameters_of : Set → ℕ → List (List ℕ)
parameters_of set program =
    option_map_or (λ found. take found.parameters found.names) (program_at set program) []

-- the range of a parameter, if it has one
abbrev pub range_text : Option Interval → List ℕ
range_text None = []
range_text (Some interval) = codes ":" ++ interval_word interval

-- parameters from a place on, each with its range
abbrev pub parameters_text : List ParameterRange → ℕ → List (List ℕ) → List ℕ
parameters_text ranges place [] = []
parameters_text ranges place (name ∷ names) =
    32 ∷ name ++ range_text (range_of ranges place) ++ parameters_text ranges (place + 1) names

-- a program that stands in the way has a thick frame
abbrev pub frame_text : Bool → List ℕ
frame_text late = if late then thick_frame else []

-- .. and below its name the words why it does
abbrev pub late_words : Bool → List ℕ
late_words late = if late then late_label else []

-- what stands over it: its name and its parameters, or that it is drawn again
abbrev pub first_label : Set → Bool → ℕ → List ℕ
first_label set late program =
    codes "    label=\"" ++ program_name set program
    ++ parameters_text (ranges_of set program) 0 (parameters_of set program)
    ++ late_words late ++ codes "\";\n"

abbrev pub second_label : Set → ℕ → List ℕ
second_label set program =
    codes "    style=\"dashed,rounded\"; label=\"" ++ program_name set program
    ++ codes " (again)\";\n"

abbrev pub label_text : Set → Bool → ℕ → Bool → List ℕ
label_text set late program again =
    if again then second_label set program else first_label set late program

abbrev pub cluster_label : Set → Bool → ℕ → Bool → List ℕ
cluster_label set late program again = frame_text late ++ label_text set late program again

abbrev pub cluster_name : Set → ℕ → Bool → List ℕ
cluster_name set program again =
    codes "  subgraph \"cluster " ++ program_name set program ++ again_word again ++ codes "\" {\n"

-- a program, or the program drawn again, where it stands in the way or doesn't
abbrev pub cluster_text : Set → Bool → ℕ → Bool → List ℕ
cluster_text set late program again =
    cluster_name set program again ++ cluster_label set late program again
    ++ drawn_hops set program again ++ codes "  }\n"
