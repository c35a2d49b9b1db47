-- Parts of the graph, of which none offends.
use Rattle.std.specs.Prelude.{Bool, false, not, ◌==◌, ◌&&◌, ◌||◌, ℕ, List, length, Option, Some, None, slice_get}
use Rattle.std.specs.List.{enumerate_from, list_any}
use Rattle.std.specs.Option.{option_map_or}
use Rattle.lynx_graph.specs.declared.nodes.Node.{Node}
use Rattle.lynx_graph.specs.Tests.{same_server}

-- the hops are in one part
abbrev pub are_one : Option ℕ → Option ℕ → Bool
are_one (Some left) (Some right) = left == right
are_one (Some left) None = false
are_one None right = false

abbrev pub is_same_part : List ℕ → ℕ → ℕ → Bool
is_same_part parts left right = are_one (slice_get parts left) (slice_get parts right)

-- some hop with which the hop may conflict is in another part
abbrev pub meets_other_part : List ℕ → ℕ → Node → Bool
meets_other_part parts place node =
    list_any (λ next. not (is_same_part parts place next)) node.neighbours

-- some hop of its program is
abbrev pub is_split : List ℕ → ℕ → Node → Bool
is_split parts place node = list_any (λ exit. not (is_same_part parts place exit.node)) node.exits

-- some hop may conflict with the hop
abbrev pub is_met : Node → Bool
is_met node = not (length node.neighbours == 0)

abbrev pub has_neighbours : List Node → ℕ → Bool
has_neighbours nodes node = option_map_or (λ node. is_met node) (slice_get nodes node) false

-- some other hop of the program may conflict with one
abbrev pub has_other_exit : List Node → Node → Bool
has_other_exit nodes node =
    list_any (λ exit. not (exit.hop == node.place.hop) && has_neighbours nodes exit.node) node.exits

-- the part of the hop has a program of another origin
abbrev pub has_abroad : List Node → List ℕ → ℕ → Node → Bool
has_abroad nodes parts place node =
    list_any (λ numbered. not (same_server numbered.1.origin node.origin) && is_same_part parts
    place numbered.0) (enumerate_from 0 nodes)

-- the hop has an edge to another part, or a walk may enter its program here and leave it by another
-- hop, while a program of another origin is in the part
abbrev pub part_offends : List Node → List ℕ → ℕ → Node → Bool
part_offends nodes parts place node =
    meets_other_part parts place node ||
    (is_split parts place node ||
    (is_met node && (has_other_exit nodes node && has_abroad nodes parts place node)))

-- these are no parts, or some part offends
abbrev pub some_part_offends : List Node → List ℕ → Bool
some_part_offends nodes parts =
    list_any (λ numbered. part_offends nodes parts numbered.0 numbered.1) (enumerate_from 0 nodes)
