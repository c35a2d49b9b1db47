-- What is written of what is owed: all of it, or where a fault stops the writing a beginning of it.
use Rattle.std.specs.Prelude.{◌≡◌, ◌⊎◌, ℕ, List, ◌++◌, Option}
use Rattle.std.specs.Io.KnownBytes.{Appends, Keeps}
use Rattle.std.specs.List.Sorted.{IsPermutation, IsSorted}
pub use Rattle.lynx_lines.specs.Written.{AppendsPart, BeginsWith}
use Rattle.lynx_set.specs.Rules.{IsSet}
use Rattle.lynx_set.specs.Set.{Set}
use Rattle.lynx_set.specs.Text.{text_of}
use Rattle.lynx_entry.specs.declared.event.Event.{Event}
use Rattle.lynx_order.specs.declared.explained.Explained.{Explained}
use Rattle.lynx_lines.specs.Scripts.{IsScript, script_of}
use Rattle.lynx_world.specs.Tables.{cells_of, triple_cmp}
use Rattle.lynx_world.specs.Worlds.{WorldState, new_world}
use Rattle.lynx_report.specs.Runs.{Explains, cell_lines, explained_line, outcome_lines, world_after}

-- a beginning of the lines of a world's nonzero cells, or all of them and a beginning of a line
-- that explains its list
pub record BeginsEnd (chains : Set) (world : WorldState) (part : List ℕ) : Type 0 where
  pub cells : List (ℕ × ℕ × ℕ)
  pub all_cells : IsPermutation (cells_of world) cells
  pub in_order : IsSorted triple_cmp cells
  pub begins : BeginsWith (cell_lines chains.tables cells) part
      ⊎ ((explained : Explained) × Explains chains world.list explained
      × BeginsWith (cell_lines chains.tables cells ++ explained_line explained) part)

-- nothing is written, or a beginning of the lines of the end
abbrev pub WritesEnd : Set → WorldState → Option (List ℕ) → Option (List ℕ) → Type 0
WritesEnd chains world old new =
    Keeps old new ⊎ ((part : List ℕ) × BeginsEnd chains world part × Appends old new part)

-- a beginning of the lines of the events, or all of them and a beginning of the lines of the end
abbrev pub BeginsRun : Set → List Event → List ℕ → Type 0
BeginsRun chains events part =
    BeginsWith (outcome_lines (new_world chains) events) part
    ⊎ ((end : List ℕ) × BeginsEnd chains (world_after (new_world chains) events) end
    × (part ≡ outcome_lines (new_world chains) events ++ end))

-- A beginning of what a set text and a script print.
pub record BeginsPrint (set script : List ℕ) (part : List ℕ) : Type 0 where
  pub chains : Set
  pub is_set : IsSet chains
  pub set_spelled : set ≡ text_of chains
  pub events : List Event
  pub is_script : IsScript chains events
  pub script_spelled : script ≡ script_of chains events
  pub run : BeginsRun chains events part

-- Where a fault stops a run, nothing is written, or a beginning of what the texts print.
abbrev pub WritesPart : List ℕ → List ℕ → Option (List ℕ) → Option (List ℕ) → Type 0
WritesPart set script old new =
    Keeps old new ⊎ ((part : List ℕ) × BeginsPrint set script part × Appends old new part)
