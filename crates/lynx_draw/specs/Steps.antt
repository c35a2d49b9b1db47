-- The steps of a walk, from hop to hop as they are drawn.
use Rattle.std.specs.Prelude.{Bool, false, not, ◌&&◌, ◌||◌, ◌==◌, ℕ, List, [], ◌∷◌, ◌++◌, if◌then◌else◌}
use Rattle.std.specs.List.{list_any}
use Rattle.lynx_graph.specs.declared.visit.Visit.{Visit}
use Rattle.lynx_graph.specs.declared.edges.Edge.{Edge}
use Rattle.lynx_draw.specs.declared.spot.Spot.{Spot}
use Rattle.lynx_draw.specs.declared.steps.Stay.{Stay}
use Rattle.lynx_draw.specs.declared.steps.Step.{Step}
use Rattle.lynx_draw.specs.declared.steps.Way.{Way}
use Rattle.lynx_draw.specs.declared.steps.Way.TheVariants.{Conflict, Chain}
use Rattle.lynx_draw.specs.Spots.{is_drawn_twice, left_spot, right_spot}

-- whether some visit is of the program
abbrev pub visits : List Visit → ℕ → Bool
visits walk program = list_any (λ visit. visit.program == program) walk

-- a visit is drawn again where an earlier one is of its program, and this is drawn twice
abbrev pub is_again : List Edge → List Visit → Visit → Bool
is_again edges before visit = is_drawn_twice edges visit.program && visits before visit.program

-- where a visit is entered and left, as it is drawn
abbrev pub stay_of : List Edge → List Visit → Visit → Stay
stay_of edges before visit = record {
  entered = record {
    place = record { program = visit.program; hop = visit.entered };
    again = is_again edges before visit;
  };
  left = record {
    place = record { program = visit.program; hop = visit.left };
    again = is_again edges before visit;
  };
}

-- the visits of a walk as they are drawn, after these
abbrev pub stays_after : List Edge → List Visit → List Visit → List Stay
stays_after edges before [] = []
stays_after edges before (visit ∷ walk) =
    stay_of edges before visit ∷ stays_after edges (before ++ visit ∷ []) walk

abbrev pub stays_of : List Edge → List Visit → List Stay
stays_of edges walk = stays_after edges [] walk

-- the step within a visit, where it is left by another hop than it is entered at
abbrev pub inside : Stay → List Step
inside stay =
    if not (stay.entered.place.hop == stay.left.place.hop)
    then record { from = stay.entered; to = stay.left; way = Chain } ∷ [] else []

-- the step to the next visit, and the one within it
abbrev pub steps_to : Stay → Stay → List Step
steps_to stay next = record { from = stay.left; to = next.entered; way = Conflict } ∷ inside next

-- the steps from a visit to those after it, and from the last of them to the first
abbrev pub steps_around : Stay → Stay → List Stay → List Step
steps_around first stay [] = steps_to stay first
steps_around first stay (next ∷ rest) = steps_to stay next ++ steps_around first next rest

abbrev pub steps_between : List Stay → List Step
steps_between [] = []
steps_between (first ∷ rest) = steps_around first first rest

-- the steps of a walk, from where its first visit is left, round to there
abbrev pub steps_of : List Edge → List Visit → List Step
steps_of edges walk = steps_between (stays_of edges walk)

-- whether two spots are one
abbrev pub same_spot : Spot → Spot → Bool
same_spot left right =
    left.place.program == right.place.program && left.place.hop == right.place.hop &&
    (if left.again then right.again else not right.again)

-- whether a step is from the one to the other
abbrev pub joins : Step → Spot → Spot → Bool
joins step from to = same_spot step.from from && same_spot step.to to

-- whether a step of that way is from the one to the other, or back
abbrev pub goes_between : Way → Step → Spot → Spot → Bool
goes_between Conflict step left right = joins step left right || joins step right left
goes_between Chain step left right = false

-- whether a step is by the edge, in one direction or the other
abbrev pub is_along : Edge → Step → Bool
is_along edge step = goes_between step.way step (left_spot edge) (right_spot edge)

abbrev pub is_walked : Edge → List Step → Bool
is_walked edge steps = list_any (is_along edge) steps
