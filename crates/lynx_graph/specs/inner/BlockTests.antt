-- The tests that decide whether a walk of blocks offends.
use Rattle.std.specs.Prelude.{Bool, true, false, not, ◌&&◌, nat_lt, List, [], ◌∷◌}
use Rattle.std.specs.List.{list_any}
use Rattle.lynx_set.specs.Set.{Set}
use Rattle.lynx_set.specs.Lookups.{origin_of}
use Rattle.lynx_graph.specs.declared.block.Block.{Block}
use Rattle.lynx_graph.specs.declared.block.Block.TheVariants.{One, Two}
use Rattle.lynx_graph.specs.declared.meeting.Place.{Place}
use Rattle.lynx_graph.specs.Blocks.{entrance_of, exit_of}
use Rattle.lynx_graph.specs.Tests.{has_come, joins, same_server}

-- one chain, or two of one origin
abbrev pub is_block : Set → Block → Bool
is_block set (One program entered left) = true
is_block set (Two first entered second left) =
    same_server (origin_of set first) (origin_of set second)

-- the block isn't forward
abbrev pub is_backward : Set → Block → Bool
is_backward set (One program entered left) = nat_lt left entered
is_backward set (Two first entered second left) =
    not (has_come set (record { program = first; hop = entered }) second left)

-- the places may conflict, and their programs are of different origins
abbrev pub meets : Set → Place → Place → Bool
meets set left right =
    joins set left right && not
    (same_server (origin_of set left.program) (origin_of set right.program))

abbrev pub meets_around : Set → Block → Block → List Block → Bool
meets_around set first block [] = meets set (exit_of block) (entrance_of first)
meets_around set first block (next ∷ rest) =
    meets set (exit_of block) (entrance_of next) && meets_around set first next rest

abbrev pub is_block_walk : Set → List Block → Bool
is_block_walk set [] = false
is_block_walk set (only ∷ []) = false
is_block_walk set (first ∷ second ∷ rest) = meets_around set first first (second ∷ rest)

abbrev pub some_is_no_block : Set → List Block → Bool
some_is_no_block set walk = list_any (λ block. not (is_block set block)) walk

-- whether the walk of blocks offends
abbrev pub block_offends : Set → List Block → Bool
block_offends set walk =
    is_block_walk set walk && (not (some_is_no_block set walk) && list_any (is_backward set) walk)
