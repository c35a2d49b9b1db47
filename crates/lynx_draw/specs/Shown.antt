-- Which programs and conflicts of a set are drawn.
use Rattle.std.specs.Prelude.{Bool, true, not, ◌==◌, ◌&&◌, ◌||◌, ℕ, List, [], length, filter, unwrap_or}
use Rattle.std.specs.List.{list_any, range_with_len}
use Rattle.lynx_set.specs.Set.{Set}
use Rattle.lynx_graph.specs.declared.visit.Visit.{Visit}
use Rattle.lynx_check.specs.declared.verdict.Verdict.{Verdict}
use Rattle.lynx_check.specs.declared.verdict.Verdict.TheVariants.{Accepted, Offending}
use Rattle.lynx_graph.specs.declared.edges.Edge.{Edge}
use Rattle.lynx_draw.specs.declared.shown.Extent.{Extent}
use Rattle.lynx_draw.specs.declared.shown.Extent.TheVariants.{All, Walk, Late}
use Rattle.lynx_draw.specs.declared.boxes.Boxes.{Boxes}
use Rattle.lynx_draw.specs.Boxes.{is_boxed}
use Rattle.lynx_draw.specs.declared.late.LateBlocks.{LateBlocks}
use Rattle.lynx_draw.specs.Late.{is_late, is_met}
use Rattle.lynx_draw.specs.Steps.{visits}

-- the closed walk that offends, excused or not; no visit where no walk does
abbrev pub walk_in : Verdict → List Visit
walk_in (Accepted own) = unwrap_or own.excused []
walk_in (Offending walk blocks) = walk

-- the walk of which the steps are drawn: none where late blocks alone are
abbrev pub walk_drawn : Extent → Verdict → List Visit
walk_drawn All verdict = walk_in verdict
walk_drawn Walk verdict = walk_in verdict
walk_drawn Late verdict = []

-- whether a program is drawn
abbrev pub shows : Extent → Verdict → LateBlocks → ℕ → Bool
shows All verdict late program = true
shows Walk verdict late program = visits (walk_in verdict) program
shows Late verdict late program = is_late late program || is_met late program

-- the programs that are drawn, in the order of the set
abbrev pub shown_programs : Extent → Set → Verdict → LateBlocks → List ℕ
shown_programs shown set verdict late =
    filter (shows shown verdict late) (range_with_len 0 (length set.programs))

abbrev pub is_one_of : List ℕ → ℕ → Bool
is_one_of programs program = list_any (λ own. own == program) programs

-- whether both ends of an edge are of these programs, and it isn't within a box: both ends are of
-- one group
abbrev pub shows_edge : List ℕ → Boxes → Edge → Bool
shows_edge programs boxes edge =
    is_one_of programs edge.left.program && is_one_of programs edge.right.program && not
    (is_boxed boxes edge.left.program)

-- the edges that are drawn where these programs are
abbrev pub shown_edges : List ℕ → Boxes → List Edge → List Edge
shown_edges programs boxes edges = filter (shows_edge programs boxes) edges
