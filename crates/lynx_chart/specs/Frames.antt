-- What stands round the entries of a chart: its notes, its columns and their heads.
use Rattle.std.specs.Prelude.{ℕ, ◌+◌, ◌*◌, ◌/◌, max, nat_lt, List, [], ◌∷◌, ◌++◌, if◌then◌else◌}
use Rattle.std.specs.List.{flat_map, range_with_len}
use Rattle.lynx_order.specs.declared.explained.Explained.{Explained}
use Rattle.lynx_order.specs.declared.explained.Explained.TheVariants.{Order, Cycle}
use Rattle.lynx_lines.specs.Printed.{chains_text}
use Rattle.lynx_chart.specs.Places.{chains_of, word_of}
use Rattle.lynx_chart.specs.Shapes.{Shape, Note, Column, Head}
use Rattle.lynx_chart.specs.Spots.{top_of}
use Rattle.lynx_chart.specs.declared.captions.TheConstants.{CYCLE_WORDS, ORDER_WORDS, LEGEND_FIRST, LEGEND_SECOND, LEGEND_THIRD}

-- the last line of the run
abbrev pub last_line : Explained → List ℕ
last_line explained = word_of explained ++ chains_text (chains_of explained)

-- what it means
abbrev pub saying : Explained → List ℕ
saying (Order chains) = ORDER_WORDS.now
saying (Cycle chains) = CYCLE_WORDS.now

abbrev pub notes : Explained → List Shape
notes explained =
    Note 0 (last_line explained) ∷ Note 1 (saying explained) ∷ Note 2 LEGEND_FIRST.now
    ∷ Note 3 LEGEND_SECOND.now ∷ Note 4 LEGEND_THIRD.now ∷ []

-- the width of a chart of so many servers, and the height of one of so many rows
abbrev pub width_of : ℕ → ℕ
width_of servers = max 640 (264 * servers + 24)

abbrev pub height_of : ℕ → ℕ
height_of rows = top_of rows + 28

-- a column for each server
abbrev pub columns : ℕ → ℕ → List Shape
columns servers rows =
    flat_map (λ server. Column server (top_of rows) ∷ []) (range_with_len 0 servers)

-- the heads of the columns, at that height
abbrev pub heads : ℕ → ℕ → List Shape
heads servers height = flat_map (λ server. Head server height ∷ []) (range_with_len 0 servers)

-- those above each forty rows
abbrev pub block_heads : ℕ → ℕ → List Shape
block_heads servers block = heads servers (4188 * block + 108)

abbrev pub upper_heads : ℕ → ℕ → List Shape
upper_heads servers rows = flat_map (block_heads servers) (range_with_len 0 (rows / 40 + 1))

-- those at the bottom, of a chart that is long
abbrev pub lower_heads : ℕ → ℕ → List Shape
lower_heads servers rows = if nat_lt 10 rows then heads servers (top_of rows + 18) else []

abbrev pub frame : ℕ → ℕ → List Shape
frame servers rows =
    columns servers rows ++ upper_heads servers rows ++ lower_heads servers rows
