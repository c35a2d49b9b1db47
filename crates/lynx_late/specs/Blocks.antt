-- Late blocks, and the list of a set's late blocks.
use Rattle.std.specs.Prelude.{Bool, not, ◌==◌, ◌&&◌, ◌≢◌, nat_lt, List, ◌++◌, filter, map}
use Rattle.std.specs.List.{flat_map}
use Rattle.lynx_set.specs.Set.{Set}
use Rattle.lynx_set.specs.Lookups.{origin_of}
use Rattle.lynx_graph.specs.Blocks.{IsBlock, IsForward, entrance_of, exit_of}
use Rattle.lynx_graph.specs.Nodes.{places_of}
use Rattle.lynx_graph.specs.Tests.{has_come, same_server}
use Rattle.lynx_graph.specs.declared.block.Block.{Block}
use Rattle.lynx_graph.specs.declared.block.Block.TheVariants.{One, Two}
use Rattle.lynx_graph.specs.declared.meeting.Place.{Place}
use Rattle.lynx_late.specs.Abroad.{ReachesAbroad, reaches_abroad}

-- it isn't forward, and reaches abroad by the hop at which it is entered and by the one by which it
-- is left
pub record IsLate (set : Set) (block : Block) : Type 0 where
  pub is_block : IsBlock set block
  pub not_forward : ¬ IsForward set block
  pub entered_abroad : ReachesAbroad set (entrance_of block)
  pub left_abroad : ReachesAbroad set (exit_of block)

-- all blocks are listed but those of two chains of one program
abbrev pub IsListed : Block → Type 0
IsListed (One program entered left) = Unit {0}
IsListed (Two first entered second left) = first ≢ second

-- the hops that reach abroad, in the set's order
abbrev pub ends_of : Set → List Place
ends_of set = filter (reaches_abroad set) (places_of set)

-- the exit is an earlier hop of the program of the entrance
abbrev pub is_before : Place → Place → Bool
is_before entrance exit = exit.program == entrance.program && nat_lt exit.hop entrance.hop

-- the exit is of another program, of the same origin, that by then hasn't been at the server of the
-- entrance
abbrev pub has_not_come : Set → Place → Place → Bool
has_not_come set entrance exit =
    not (exit.program == entrance.program)
    && same_server (origin_of set entrance.program) (origin_of set exit.program)
    && not (has_come set entrance exit.program exit.hop)

-- the block of one chain, and that of two, from the one hop to the other
abbrev pub one_chain : Place → Place → Block
one_chain entrance exit = One entrance.program entrance.hop exit.hop

abbrev pub two_chains : Place → Place → Block
two_chains entrance exit = Two entrance.program entrance.hop exit.program exit.hop

-- the late blocks from the entrance to one of the ends: those of one chain, then those of two
abbrev pub late_from : Set → List Place → Place → List Block
late_from set ends entrance =
    map (one_chain entrance) (filter (is_before entrance) ends)
    ++ map (two_chains entrance) (filter (has_not_come set entrance) ends)

-- the late blocks of the set, by their entrances
abbrev pub late_blocks : Set → List Block
late_blocks set = flat_map (late_from set (ends_of set)) (ends_of set)
