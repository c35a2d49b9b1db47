-- Blocks that aren't forward, between hops that programs of other origins meet.
use Rattle.std.specs.Prelude.{Bool, false, not, ◌==◌, ◌&&◌, if◌then◌else◌, ℕ, nat_lt, List, [], ◌∷◌, Option, Some, None, find, filter_map, option_and_then, option_map, slice_get}
use Rattle.std.specs.Option.{option_map_or, option_or}
use Rattle.lynx_set.specs.Set.{Set}
use Rattle.lynx_check.specs.declared.backward.Backward.{Backward}
use Rattle.lynx_check.specs.declared.backward.End.{End}
use Rattle.lynx_graph.specs.declared.block.Block.{Block}
use Rattle.lynx_graph.specs.declared.block.Block.TheVariants.{One, Two}
use Rattle.lynx_graph.specs.declared.meeting.Place.{Place}
use Rattle.lynx_graph.specs.declared.nodes.Node.{Node}
use Rattle.lynx_graph.specs.Tests.{same_server, has_come}

-- the node is of a program of another origin
abbrev pub is_abroad_at : List Node → Option ℕ → ℕ → Bool
is_abroad_at nodes origin node =
    option_map_or (λ other. not (same_server origin other.origin)) (slice_get nodes node) false

-- the node as an end, with the first node of a program of another origin that meets it, if there is
-- one
abbrev pub end_of : List Node → Node → Option End
end_of nodes node =
    option_and_then
    (λ next. option_map
    (λ meets. record { place = node.place; origin = node.origin; meets = meets.place })
    (slice_get nodes next))
    (find (is_abroad_at nodes node.origin) node.neighbours)

abbrev pub ends_of : List Node → List End
ends_of nodes = filter_map (end_of nodes) nodes

-- the block that is entered at the one end and left by the other, if there is one that isn't
-- forward
abbrev pub backward_between : Set → End → End → Option Block
backward_between set entered left =
    if entered.place.program == left.place.program && nat_lt left.place.hop entered.place.hop
    then Some (One entered.place.program entered.place.hop left.place.hop)
    else (if same_server entered.origin left.origin && not
    (has_come set entered.place left.place.program left.place.hop)
    then Some (Two entered.place.program entered.place.hop left.place.program left.place.hop)
    else None)

-- the first that is entered at the end
abbrev pub backward_from : Set → End → List End → Option Backward
backward_from set entered [] = None
backward_from set entered (left ∷ ends) =
    option_or (option_map (λ block. record { entered = entered; left = left; block = block })
    (backward_between set entered left)) (backward_from set entered ends)

-- the first that is entered at one of these, of those between any two
abbrev pub backward_in : Set → List End → List End → Option Backward
backward_in set ends [] = None
backward_in set ends (entered ∷ rest) =
    option_or (backward_from set entered ends) (backward_in set ends rest)

-- one chain that is entered and left at the hop
abbrev pub one_at : Place → Block
one_at place = One place.program place.hop place.hop

-- the same chains, entered where the block is left
abbrev pub turned : Block → Block
turned (One program entered left) = One program left entered
turned (Two first entered second left) = Two second left first entered

-- the walk through the block and back
abbrev pub round_of : Backward → List Block
round_of backward =
    backward.block ∷ one_at backward.left.meets ∷ turned backward.block
    ∷ one_at backward.entered.meets ∷ []
