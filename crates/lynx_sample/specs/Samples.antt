-- What a random script is to be, and why none comes.
use Rattle.std.specs.Prelude.{◌≡◌, ◌⊎◌, ℕ, Bool, true, false, List, Option}
use Rattle.std.specs.Io.KnownBytes.{Keeps}
use Rattle.lynx_lines.specs.Written.{AppendsPart}
use Rattle.lynx_names.specs.declared.chain.ChainId.{ChainId}
use Rattle.lynx_set.specs.Rules.{IsSet}
use Rattle.lynx_set.specs.Set.{Set}
use Rattle.lynx_set.specs.Text.{text_of}
use Rattle.lynx_entry.specs.declared.event.Event.{Event}
use Rattle.lynx_order.specs.declared.explained.Explained.TheVariants.{Cycle}
use Rattle.lynx_lines.specs.Scripts.{IsScript, script_of}
use Rattle.lynx_world.specs.Placed.{Placed}
use Rattle.lynx_world.specs.Worlds.{new_world}
use Rattle.lynx_report.specs.declared.owed.OwedHop.{OwedHop}
use Rattle.lynx_report.specs.Owed.{IsOwed}
use Rattle.lynx_report.specs.Drawings.{NoPictureFor}
use Rattle.lynx_report.specs.Runs.{Explains, world_after}
use Rattle.lynx_sample.specs.declared.fault.SampleFault.{SampleFault}
use Rattle.lynx_sample.specs.declared.fault.SampleFault.TheVariants.{Run, NoCycle, TooLong}

-- no chain of the list owes a hop
abbrev pub OwesNothing : Set → List Placed → Type 0
OwesNothing chains list = (owed : OwedHop) → ¬ IsOwed chains list owed

-- a cycle explains the list
abbrev pub HasCycle : Set → List Placed → Type 0
HasCycle chains list = (cycle : List ChainId) × Explains chains list (Cycle cycle)

-- no hop is owed, and where a cycle is asked for one explains the list
abbrev pub EndsWell : Bool → Set → List Placed → Type 0
EndsWell true chains list = OwesNothing chains list × HasCycle chains list
EndsWell false chains list = OwesNothing chains list

-- the text of a script over the set, whose run in a new world ends well
pub record IsSampleOver (cycle : Bool) (chains : Set) (script : List ℕ) : Type 0 where
  pub events : List Event
  pub is_script : IsScript chains events
  pub spelled : script ≡ script_of chains events
  pub ends : EndsWell cycle chains (world_after (new_world chains) events).list

-- such a script over the set that the text spells
pub record IsSample (cycle : Bool) (set script : List ℕ) : Type 0 where
  pub chains : Set
  pub is_set : IsSet chains
  pub spelled : set ≡ text_of chains
  pub sample : IsSampleOver cycle chains script

-- why no script comes, and that nothing is written but where writing fails: the text is that of no
-- set, as for a picture; or no cycle was found; or the script would be too long
abbrev pub NoSampleFor : Bool → List ℕ → Type 0 → SampleFault → Type 0
NoSampleFor cycle set unwritten (Run fault) = NoPictureFor set unwritten fault
NoSampleFor cycle set unwritten NoCycle = (cycle ≡ true) × unwritten
NoSampleFor cycle set unwritten TooLong = unwritten

-- Where a fault stops it, nothing is written, or a beginning of such a script.
abbrev pub BeginsSample : Bool → List ℕ → Option (List ℕ) → Option (List ℕ) → Type 0
BeginsSample cycle set old new =
    Keeps old new ⊎ ((script : List ℕ) × IsSample cycle set script × AppendsPart old new script)
