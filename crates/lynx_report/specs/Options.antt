-- What a run prints, and what is written of it, by what is asked for behind its last line.
use Rattle.std.specs.Prelude.{◌≡◌, ◌⊎◌, ℕ, Bool, true, false, Option, List, [], ◌++◌}
use Rattle.std.specs.Bool.{MatchBool}
use Rattle.std.specs.Io.KnownBytes.{Keeps}
use Rattle.lynx_set.specs.Rules.{IsSet}
use Rattle.lynx_set.specs.Set.{Set}
use Rattle.lynx_set.specs.Text.{text_of}
use Rattle.lynx_entry.specs.declared.event.Event.{Event}
use Rattle.lynx_lines.specs.Scripts.{IsScript, script_of}
use Rattle.lynx_world.specs.Placed.{Placed}
use Rattle.lynx_world.specs.Worlds.{WorldState, new_world}
use Rattle.lynx_report.specs.declared.owed.OwedHop.{OwedHop}
use Rattle.lynx_report.specs.declared.run.Ending.{Ending}
use Rattle.lynx_report.specs.declared.options.RunOptions.{RunOptions}
use Rattle.lynx_report.specs.Owed.{AreTheOwed, owed_lines}
use Rattle.lynx_report.specs.Runs.{EndPrints, IsPromised, Prints, RunPrints, world_after}
use Rattle.lynx_report.specs.Written.{AppendsPart, BeginsRun, BeginsWith, WritesPart}

-- what is printed behind a run: a line for each hop that its list owes where that is asked for,
-- else nothing
abbrev pub RestPrints : Bool → Set → List Placed → List ℕ → Type 0
RestPrints true chains list printed =
    (owed : List OwedHop) × AreTheOwed chains list owed × (printed ≡ owed_lines owed)
RestPrints false chains list printed = printed ≡ []

-- nothing of it is written, or a beginning
abbrev pub WritesRest : Bool → Set → List Placed → Option (List ℕ) → Option (List ℕ) → Type 0
WritesRest true chains list old new =
    Keeps old new
    ⊎ ((printed : List ℕ) × RestPrints true chains list printed × AppendsPart old new printed)
WritesRest false chains list old new = Keeps old new

-- the last lines of a run that came to this world, and those behind them
pub record EndPrintsWith (owed : Bool) (world : WorldState) (ending : Ending)
    (printed : List ℕ) : Type 0 where
  pub end_lines : List ℕ
  pub end : EndPrints world.set world ending end_lines
  pub rest : List ℕ
  pub asked : RestPrints owed world.set world.list rest
  pub lines : printed ≡ end_lines ++ rest

-- the lines of a run, and those behind it
pub record RunPrintsWith (owed : Bool) (chains : Set) (events : List Event) (ending : Ending)
    (printed : List ℕ) : Type 0 where
  pub run_lines : List ℕ
  pub run : RunPrints chains events ending run_lines
  pub rest : List ℕ
  pub asked : RestPrints owed chains (world_after (new_world chains) events).list rest
  pub lines : printed ≡ run_lines ++ rest

-- a beginning of the lines of a run, or of them and those behind it
abbrev pub BeginsRunWith : Bool → Set → List Event → List ℕ → Type 0
BeginsRunWith true chains events part =
    BeginsRun chains events part
    ⊎ ((ending : Ending) × (printed : List ℕ) × RunPrintsWith true chains events ending printed
    × BeginsWith printed part)
BeginsRunWith false chains events part = BeginsRun chains events part

-- What a set text and a script print where owed hops are asked for: the lines of the run, and one
-- for each owed hop.
pub record PrintsOwed (set script : List ℕ) (ending : Ending) (printed : List ℕ) : Type 0 where
  pub chains : Set
  pub is_set : IsSet chains
  pub set_spelled : set ≡ text_of chains
  pub events : List Event
  pub is_script : IsScript chains events
  pub script_spelled : script ≡ script_of chains events
  pub run : RunPrintsWith true chains events ending printed
  pub promised : IsPromised chains events ending

-- What a set text and a script print with these options.
abbrev pub PrintsWith : RunOptions → List ℕ → List ℕ → Ending → List ℕ → Type 0
PrintsWith options set script ending printed =
    MatchBool options.owed (PrintsOwed set script ending printed) (Prints set script ending printed)

-- Where a fault stops a run with these options, nothing is written, or a beginning of what the
-- texts print.
abbrev pub WritesPartWith : RunOptions → List ℕ → List ℕ → Option (List ℕ) → Option (List ℕ)
    → Type 0
WritesPartWith options set script old new =
    MatchBool options.owed
    (WritesPart set script old new
    ⊎ ((ending : Ending) × (printed : List ℕ) × PrintsOwed set script ending printed
    × AppendsPart old new printed))
    (WritesPart set script old new)
