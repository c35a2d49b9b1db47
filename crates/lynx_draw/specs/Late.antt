-- The blocks that stand in the way of an offending set, and what they meet.
use Rattle.std.specs.Prelude.{Bool, ◌==◌, ◌&&◌, ◌||◌, ℕ, List, [], filter}
use Rattle.std.specs.List.{flat_map, list_any}
use Rattle.lynx_set.specs.Set.{Set}
use Rattle.lynx_check.specs.declared.verdict.Verdict.{Verdict}
use Rattle.lynx_check.specs.declared.verdict.Verdict.TheVariants.{Accepted, Offending}
use Rattle.lynx_graph.specs.Blocks.{entrance_of, exit_of}
use Rattle.lynx_graph.specs.Nodes.{places_of}
use Rattle.lynx_graph.specs.declared.block.Block.{Block}
use Rattle.lynx_graph.specs.declared.meeting.Place.{Place}
use Rattle.lynx_late.specs.Abroad.{hops_abroad}
use Rattle.lynx_late.specs.Blocks.{late_blocks}
use Rattle.lynx_draw.specs.declared.late.LateBlocks.{LateBlocks}

-- the blocks that stand in the way of an offending set; none does of an accepted one
abbrev pub blocks_in : Set → Verdict → List Block
blocks_in set (Accepted own) = []
blocks_in set (Offending walk blocks) = late_blocks set

abbrev pub is_place : Place → Place → Bool
is_place left right = left.program == right.program && left.hop == right.hop

-- whether one of the blocks is entered or left at the hop
abbrev pub is_end : List Block → Place → Bool
is_end blocks place =
    list_any (λ block. is_place (entrance_of block) place || is_place (exit_of block) place) blocks

-- the hops of programs of other origins that the blocks meet where they are entered and left
abbrev pub hops_met : Set → List Block → List Place
hops_met set blocks = flat_map (hops_abroad set) (filter (is_end blocks) (places_of set))

-- these blocks of a set, and what they meet
abbrev pub late_of : Set → Verdict → LateBlocks
late_of set verdict =
    record { blocks = blocks_in set verdict; met = hops_met set (blocks_in set verdict) }

-- whether one of the blocks is of the program
abbrev pub is_late : LateBlocks → ℕ → Bool
is_late late program =
    list_any (λ block. (entrance_of block).program == program ||
    (exit_of block).program == program) late.blocks

-- whether one of the blocks meets the program
abbrev pub is_met : LateBlocks → ℕ → Bool
is_met late program = list_any (λ place. place.program == program) late.met
