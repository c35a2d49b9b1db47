-- What a sift knows of a set.
use Rattle.std.specs.Prelude.{◌≡◌, Bool, not, ◌==◌, ◌&&◌, ℕ, List, All, Any}
use Rattle.std.specs.List.{list_any}
use Rattle.lynx_set.specs.Set.{Set}
use Rattle.lynx_graph.specs.Blocks.{Meets, entrance_of, exit_of}
use Rattle.lynx_graph.specs.Edges.{edges_of}
use Rattle.lynx_graph.specs.declared.block.Block.{Block}
use Rattle.lynx_graph.specs.declared.meeting.Place.{Place}
use Rattle.lynx_late.specs.Blocks.{late_blocks}
use Rattle.lynx_reasons.specs.Culprits.{is_of}
use Rattle.lynx_reasons.specs.declared.culprit.Culprit.{Culprit}
use Rattle.lynx_reasons.specs.declared.sift.End.{End}
use Rattle.lynx_reasons.specs.declared.sift.Sift.{Sift}

-- each program is that of one of the hops
abbrev pub AreOfAbroad : List Place → List ℕ → Type 0
AreOfAbroad hops programs = All (λ program. Any (λ hop. hop.program ≡ program) hops) programs

-- the place meets some hop of the program abroad
abbrev pub MeetsProgram : Set → Place → ℕ → Type 0
MeetsProgram set place program =
    (hop : ℕ) × Meets set place (record { program = program; hop = hop })

-- and so it does of each of the programs that are noted of it
abbrev pub IsEnd : Set → End → Type 0
IsEnd set end = All (MeetsProgram set end.place) end.meets

pub record IsSift (set : Set) (sift : Sift) : Type 0 where
  pub edges : sift.edges.items ≡ edges_of set
  pub ends : All (IsEnd set) sift.ends.items
  pub blocks : sift.blocks.items ≡ late_blocks set

-- the hop is left without these programs, and so is one of those that it meets
abbrev pub is_end_left : Culprit → End → Bool
is_end_left culprit end =
    not (is_of culprit end.place.program)
    && list_any (λ program. not (is_of culprit program)) end.meets

abbrev pub is_end_at : Culprit → Place → End → Bool
is_end_at culprit place end =
    (end.place.program == place.program && end.place.hop == place.hop) && is_end_left culprit end

-- both ends of the block are
abbrev pub is_block_left : Culprit → List End → Block → Bool
is_block_left culprit ends block =
    not (is_of culprit (entrance_of block).program)
    && not (is_of culprit (exit_of block).program)
    && list_any (is_end_at culprit (entrance_of block)) ends
    && list_any (is_end_at culprit (exit_of block)) ends

-- some block is late without these programs
abbrev pub leaves_late : Culprit → Sift → Bool
leaves_late culprit sift = list_any (is_block_left culprit sift.ends.items) sift.blocks.items
