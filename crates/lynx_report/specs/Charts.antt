-- What the chart of a run is, as it is written.
use Rattle.std.specs.Prelude.{◌≡◌, ◌≢◌, ◌⊎◌, ℕ, Option, List}
use Rattle.std.specs.Io.KnownBytes.{Keeps}
use Rattle.lynx_chart.specs.Charts.{chart_of}
use Rattle.lynx_chart.specs.Meetings.{AreMet}
use Rattle.lynx_set.specs.Rules.{IsSet}
use Rattle.lynx_set.specs.Set.{Set}
use Rattle.lynx_set.specs.Text.{text_of}
use Rattle.lynx_entry.specs.declared.event.Event.{Event}
use Rattle.lynx_order.specs.declared.explained.Explained.{Explained}
use Rattle.lynx_lines.specs.Scripts.{IsScript, script_of}
use Rattle.lynx_world.specs.Worlds.{new_world}
use Rattle.lynx_lex.specs.declared.fault.FaultKind.TheVariants.{Memory as NoMemory}
use Rattle.lynx_report.specs.declared.run.Ending.{Ending}
use Rattle.lynx_report.specs.declared.run.RunFault.{RunFault}
use Rattle.lynx_report.specs.declared.run.RunFault.TheVariants.{Set as SetFault, Script as ScriptFault, Write, Memory}
use Rattle.lynx_report.specs.Runs.{Explains, HasNoScript, IsPromised, IsNoSet, ending_of, outcomes_of, world_after}
use Rattle.lynx_report.specs.Written.{AppendsPart}

-- The chart shows what the servers of a new world do in these events, what befell their messages,
-- and an order that explains it, or a cycle each link of which is drawn; and the ending is of the
-- one or the other.
pub record IsChart (chains : Set) (events : List Event) (ending : Ending) (chart : List ℕ) : Type
    0 where
  pub explained : Explained
  pub explains : Explains chains (world_after (new_world chains) events).list explained
  pub ending_is : ending ≡ ending_of explained
  pub drawn : chart
      ≡ chart_of chains (world_after (new_world chains) events).list
      (outcomes_of (new_world chains) events) explained
  pub linked : AreMet chains (world_after (new_world chains) events).list explained

-- The chart of a run of a script's events over a set's text.
pub record Charts (set script : List ℕ) (ending : Ending) (chart : List ℕ) : Type 0 where
  pub chains : Set
  pub is_set : IsSet chains
  pub set_spelled : set ≡ text_of chains
  pub events : List Event
  pub is_script : IsScript chains events
  pub script_spelled : script ≡ script_of chains events
  pub is_chart : IsChart chains events ending chart
  pub promised : IsPromised chains events ending

-- why no chart comes: a faulty text, and want of memory, are told before anything is written, and a
-- text's fault is never want of memory
abbrev pub NoChartFor : List ℕ → List ℕ → Type 0 → RunFault → Type 0
NoChartFor set script unwritten (SetFault fault) = IsNoSet set × unwritten × (fault.kind ≢ NoMemory)
NoChartFor set script unwritten (ScriptFault fault) =
    HasNoScript set script × unwritten × (fault.kind ≢ NoMemory)
NoChartFor set script unwritten Write = Unit {0}
NoChartFor set script unwritten Memory = unwritten

-- Where a fault stops it, nothing is written, or a beginning of the chart.
abbrev pub BeginsChart : List ℕ → List ℕ → Option (List ℕ) → Option (List ℕ) → Type 0
BeginsChart set script old new =
    Keeps old new
    ⊎ ((ending : Ending) × (chart : List ℕ) × Charts set script ending chart
    × AppendsPart old new chart)
