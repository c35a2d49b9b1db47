-- The shapes of a chart, and what stands where in each.
use Rattle.std.specs.Prelude.{ℕ, ◌+◌, ◌*◌, ◌%◌, nat_lt, List, [], ◌∷◌, ◌++◌, codes, decimal, map, if◌then◌else◌}
use Rattle.std.specs.List.{flat_map}
use Rattle.lynx_chart.specs.Spots.{leaves_side, left_of, right_of, route_text, top_of}
use Rattle.lynx_chart.specs.Texts.{escaped, fitted, title_line}
use Rattle.lynx_chart.specs.Values.{filled}
use Rattle.lynx_chart.specs.declared.spot.Spot.{Spot}
use Rattle.lynx_chart.specs.declared.templates.TheConstants.{ARROW, BOX, CLOSES, COLUMN, CORNER, CROSS, HEAD, LINE, LINK, NOTE, OPENS, RESTART}

pub data Shape : Type 0 where
  -- a line of text above all, by its number
  Note : ℕ → List ℕ → Shape
  -- the line down a server's column, to that height
  Column : ℕ → ℕ → Shape
  -- the head of a server's column, at that height
  Head : ℕ → ℕ → Shape
  -- the shapes of a chain, in its colour, up to where they end
  Opens : List ℕ → Shape
  Closes : Shape
  -- a box of a kind at its spot, what stands in its corner, and its four lines
  Boxed : List ℕ → Spot → List ℕ → List (List ℕ) → Shape
  -- an arrow of a kind from one box to another, shifted where it is drawn again, and what it tells
  Arrow : List ℕ → Spot → Spot → ℕ → List ℕ → Shape
  -- a cross beside the first box, on the side towards the second
  Cross : Spot → Spot → List ℕ → Shape
  -- a line across a server's column, above that row
  Restart : ℕ → ℕ → Shape
  -- by its number a red line from one box to another, its cell and what it tells
  Link : ℕ → Spot → Spot → List ℕ → List ℕ → Shape

-- ---- boxes

-- what is written, if there is a text for it
abbrev pub said : List ℕ → List ℕ → List ℕ
said [] written = []
said (first ∷ text) written = written

-- a line in a box, at that height
abbrev pub box_line : ℕ → List ℕ → List ℕ
box_line height line = said line (filled LINE.now (decimal height ∷ fitted 27 line ∷ []))

abbrev pub box_lines : ℕ → List (List ℕ) → List ℕ
box_lines height [] = []
box_lines height (line ∷ lines) = box_line height line ++ box_lines (height + 14) lines

-- what stands in its corner
abbrev pub box_corner : List ℕ → List ℕ
box_corner corner = said corner (filled CORNER.now (escaped corner ∷ []))

-- its frame, and what it tells when one points at it
abbrev pub box_start : List ℕ → Spot → List ℕ → List (List ℕ) → List ℕ
box_start kind spot corner lines =
    filled BOX.now (kind ∷ decimal (left_of spot.column + 8) ∷ decimal (top_of spot.row + 15)
    ∷ (map title_line lines ++ escaped corner ∷ []))

abbrev pub box_text : List ℕ → Spot → List ℕ → List (List ℕ) → List ℕ
box_text kind spot corner lines =
    box_start kind spot corner lines ++ box_corner corner ++ box_lines 0 lines ++ CLOSES.now

-- ---- lines

-- the side of a box that is towards another
abbrev pub side_of : Spot → Spot → List ℕ
side_of from to = if nat_lt to.column from.column then codes "left" else codes "right"

-- from the lower right of one box to the upper right of the other; neighbouring numbers side by
-- side
abbrev pub link_text : ℕ → Spot → Spot → List ℕ → List ℕ → List ℕ
link_text number from to cell told =
    filled LINK.now (escaped told ∷ decimal (right_of from.column)
    ∷ decimal (top_of from.row + 54) ∷ decimal (6 * (number % 4) + 10)
    ∷ decimal (top_of to.row + 8) ∷ decimal (right_of to.column)
    ∷ decimal (right_of to.column + 4) ∷ decimal (top_of to.row) ∷ fitted 34 cell ∷ [])

-- ---- all

abbrev pub shape_text : Shape → List ℕ
shape_text (Note number text) =
    filled NOTE.now (decimal (15 * number + 18) ∷ fitted 88 text ∷ [])
shape_text (Column server bottom) =
    filled COLUMN.now (decimal (left_of server + 100) ∷ decimal bottom ∷ [])
shape_text (Head server height) =
    filled HEAD.now (decimal (left_of server + 100) ∷ decimal height ∷ decimal server ∷ [])
shape_text (Opens colour) = filled OPENS.now (colour ∷ [])
shape_text Closes = CLOSES.now
shape_text (Boxed kind spot corner lines) = box_text kind spot corner lines
shape_text (Arrow kind from to shift told) =
    filled ARROW.now (kind ∷ route_text from to shift ∷ escaped told ∷ [])
shape_text (Cross from to told) =
    filled CROSS.now (side_of from to ∷ decimal (leaves_side from to)
    ∷ decimal (top_of from.row + 31) ∷ escaped told ∷ [])
shape_text (Restart server row) =
    filled RESTART.now (decimal (left_of server) ∷ decimal (top_of row) ∷ decimal server ∷ [])
shape_text (Link number from to cell told) = link_text number from to cell told

-- shapes one after another
abbrev pub drawn : List Shape → List ℕ
drawn shapes = flat_map shape_text shapes
