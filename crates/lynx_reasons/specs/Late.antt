-- The lines of blocks that are late, and of the hops of other origins that they meet.
use Rattle.std.specs.Prelude.{ℕ, List, ◌∷◌, ◌++◌, codes, decimal}
use Rattle.std.specs.List.{flat_map}
use Rattle.lynx_lex.specs.Lines.{with_feed}
use Rattle.lynx_set.specs.Set.{Set}
use Rattle.lynx_graph.specs.Blocks.{entrance_of, exit_of}
use Rattle.lynx_graph.specs.declared.block.Block.{Block}
use Rattle.lynx_graph.specs.declared.block.Block.TheVariants.{One, Two}
use Rattle.lynx_graph.specs.declared.meeting.Place.{Place}
use Rattle.lynx_late.specs.Abroad.{hops_abroad}
use Rattle.lynx_late.specs.Blocks.{late_blocks}
use Rattle.lynx_reasons.specs.Meets.{lines_text, pair_text, place_text}

-- the hop by which a block is left: of one chain its number, of two its program and its number
abbrev pub exit_text : Set → Block → List ℕ
exit_text set (One program entered left) = 32 ∷ decimal left
exit_text set (Two first entered second left) =
    place_text set (record { program = second; hop = left })

-- the line of a late block: the hops, and the lines of the set's text on which they stand
abbrev pub late_line : Set → Block → List ℕ
late_line set block =
    with_feed (codes "late" ++ place_text set (entrance_of block) ++ exit_text set block
    ++ lines_text set (entrance_of block) (exit_of block))

-- the line of a hop and one of another origin that it may conflict with
abbrev pub abroad_line : Set → Place → Place → List ℕ
abroad_line set left right =
    with_feed (codes "abroad" ++ pair_text set (record { left = left; right = right }))

abbrev pub abroad_lines : Set → Place → List ℕ
abroad_lines set place = flat_map (abroad_line set place) (hops_abroad set place)

-- a late block, what it meets where it is entered, and what where it is left
abbrev pub late_text : Set → Block → List ℕ
late_text set block =
    late_line set block ++ abroad_lines set (entrance_of block) ++ abroad_lines set (exit_of block)

abbrev pub late_lines : Set → List ℕ
late_lines set = flat_map (late_text set) (late_blocks set)
