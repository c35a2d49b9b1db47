-- Where the shapes of a chart stand, in pixels.
use Rattle.std.specs.Prelude.{◌==◌, nat_lt, ℕ, ◌+◌, ◌-◌, ◌*◌, ◌/◌, List, [], ◌∷◌, ◌++◌, codes, decimal, if◌then◌else◌}
use Rattle.std.specs.List.{flat_map}
use Rattle.lynx_chart.specs.declared.spot.Point.{Point}
use Rattle.lynx_chart.specs.declared.spot.Spot.{Spot}

-- the left and the right side of a column's boxes
abbrev pub left_of : ℕ → ℕ
left_of column = 264 * column + 24

abbrev pub right_of : ℕ → ℕ
right_of column = 264 * column + 224

-- the upper side of a row's boxes; before each forty rows there is room for the heads
abbrev pub top_of : ℕ → ℕ
top_of row = 104 * row + 28 * (row / 40) + 118

-- a point, behind a space
abbrev pub point_text : Point → List ℕ
point_text point = codes " " ++ decimal point.x ++ codes "," ++ decimal point.y

abbrev pub point : ℕ → ℕ → Point
point x y = record { x = x; y = y }

-- where an arrow leaves a box, and where it comes in; an arrow that is drawn once more is shifted
abbrev pub leaves_at : Spot → ℕ → ℕ
leaves_at spot shift = top_of spot.row + 46 + 5 * shift

abbrev pub enters_at : Spot → ℕ → ℕ
enters_at spot shift = top_of spot.row + 16 + 5 * shift

-- below its row each column has a height of its own at which its arrows go past others' columns
abbrev pub lane_of : Spot → ℕ → ℕ
lane_of spot shift = top_of spot.row + 68 + 2 * spot.column + shift

-- at the side that is towards the other box
abbrev pub leaves_side : Spot → Spot → ℕ
leaves_side from to =
    if nat_lt to.column from.column then left_of from.column else right_of from.column

abbrev pub enters_side : Spot → Spot → ℕ
enters_side from to =
    if nat_lt from.column to.column then left_of to.column else right_of to.column

abbrev pub start_of : Spot → Spot → ℕ → Point
start_of from to shift = point (leaves_side from to) (leaves_at from shift)

abbrev pub end_of : Spot → Spot → ℕ → Point
end_of from to shift = point (enters_side from to) (enters_at to shift)

-- the points at which it turns, so that it crosses no box: none where the columns are neighbours
abbrev pub turns_of : Spot → Spot → ℕ → List Point
turns_of from to shift =
    if from.column == to.column
    then point (right_of from.column + 20) (leaves_at from shift)
    ∷ point (right_of from.column + 20) (enters_at to shift) ∷ []
    else (if nat_lt (from.column + 1) to.column
    then point (left_of (from.column + 1)) (lane_of from shift)
    ∷ point (right_of (to.column - 1)) (lane_of from shift) ∷ []
    else (if nat_lt (to.column + 1) from.column
    then point (right_of (from.column - 1)) (lane_of from shift)
    ∷ point (left_of (to.column + 1)) (lane_of from shift) ∷ []
    else []))

-- the way of an arrow
abbrev pub route_of : Spot → Spot → ℕ → List Point
route_of from to shift =
    start_of from to shift ∷ turns_of from to shift ++ end_of from to shift ∷ []

abbrev pub route_text : Spot → Spot → ℕ → List ℕ
route_text from to shift = flat_map point_text (route_of from to shift)
