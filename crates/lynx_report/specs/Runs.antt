-- What a whole run does and prints.
use Rattle.std.specs.Prelude.{◌≡◌, ◌≢◌, ℕ, List, [], ◌∷◌, ◌++◌, codes, slice_get, unwrap_or}
use Rattle.std.specs.List.{flat_map}
use Rattle.std.specs.List.Sorted.{IsPermutation, IsSorted}
use Rattle.std.specs.Fmt.{decimal}
use Rattle.lynx_set.specs.Home.{AreLiteralsHome}
use Rattle.lynx_set.specs.Rules.{IsSet}
use Rattle.lynx_set.specs.Set.{Set}
use Rattle.lynx_set.specs.Text.{text_of}
use Rattle.lynx_entry.specs.declared.event.Event.{Event}
use Rattle.lynx_entry.specs.declared.event.Outcome.{Outcome}
use Rattle.lynx_names.specs.declared.limits.TheConstants.{MAX_HELD}
use Rattle.lynx_world.specs.Placed.{Placed}
use Rattle.lynx_world.specs.Worlds.{WorldState, new_world}
use Rattle.lynx_world.specs.Steps.{step}
pub use Rattle.lynx_world.specs.Steps.{world_after}
use Rattle.lynx_world.specs.Tables.{cells_of, triple_cmp}
use Rattle.lynx_report.specs.declared.run.RunFault.{RunFault}
use Rattle.lynx_report.specs.declared.run.RunFault.TheVariants.{Set as SetFault, Script as ScriptFault, Write, Memory}
use Rattle.lynx_lex.specs.declared.fault.FaultKind.TheVariants.{Memory as NoMemory}
use Rattle.lynx_graph.specs.Acceptance.{IsAccepted}
use Rattle.lynx_order.specs.declared.explained.Explained.{Explained}
use Rattle.lynx_order.specs.declared.explained.Explained.TheVariants.{Order, Cycle}
use Rattle.lynx_order.specs.Explained.{CycleIsRight, GivesOrder, OrderIsRight}
use Rattle.lynx_promises.specs.Promises.{KeepsPromises}
use Rattle.lynx_report.specs.declared.run.Ending.{Ending}
use Rattle.lynx_report.specs.declared.run.Ending.TheVariants.{Ordered, Cyclic}
use Rattle.lynx_lines.specs.Printed.{chains_text, outcome_text}
use Rattle.lynx_lex.specs.Lines.{with_feed}
use Rattle.lynx_lines.specs.Scripts.{IsScript, script_of}

-- what the events come to, one after another
abbrev pub outcomes_of : WorldState → List Event → List Outcome
outcomes_of world [] = []
outcomes_of world (event ∷ events) =
    (step MAX_HELD world event).outcome ∷ outcomes_of (step MAX_HELD world event).world events

-- a line for each outcome
abbrev pub outcome_lines : WorldState → List Event → List ℕ
outcome_lines world events =
    flat_map (λ outcome. with_feed (outcome_text outcome)) (outcomes_of world events)

-- the line of a cell, where the tables have these names
abbrev pub cell_line : List (List ℕ) → ℕ × ℕ × ℕ → List ℕ
cell_line tables cell =
    with_feed (codes "cell " ++ unwrap_or (slice_get tables cell.0) [] ++ 32 ∷ decimal cell.1 ++ 32
    ∷ decimal cell.2)

-- a line for each cell
abbrev pub cell_lines : List (List ℕ) → List (ℕ × ℕ × ℕ) → List ℕ
cell_lines tables cells = flat_map (cell_line tables) cells

-- the line of an order or a cycle of chains
abbrev pub explained_line : Explained → List ℕ
explained_line (Order chains) = with_feed (codes "order" ++ chains_text chains)
explained_line (Cycle chains) = with_feed (codes "cycle" ++ chains_text chains)

-- how a run ends: with an order or with a cycle
abbrev pub ending_of : Explained → Ending
ending_of (Order chains) = Ordered
ending_of (Cycle chains) = Cyclic

-- An order explains the list, and each chain stands in it before those that it precedes; a cycle is
-- one; and where the set's literal keys lie at their servers and it is accepted, it is an order.
pub record Explains (chains : Set) (list : List Placed) (explained : Explained) : Type 0 where
  pub order : OrderIsRight chains list explained
  pub cycle : CycleIsRight chains list explained
  pub accepted : AreLiteralsHome chains → IsAccepted chains → GivesOrder explained

-- the lines of a world's nonzero cells, tables and keys rising, and the one that explains its list
pub record EndPrints (chains : Set) (world : WorldState) (ending : Ending) (printed : List ℕ) : Type
    0 where
  pub cells : List (ℕ × ℕ × ℕ)
  pub all_cells : IsPermutation (cells_of world) cells
  pub in_order : IsSorted triple_cmp cells
  pub explained : Explained
  pub explains : Explains chains world.list explained
  pub ending_is : ending ≡ ending_of explained
  pub lines : printed ≡ cell_lines chains.tables cells ++ explained_line explained

-- the lines of what the events come to in a new world of the set, in order, and then those of its
-- end
pub record RunPrints (chains : Set) (events : List Event) (ending : Ending)
    (printed : List ℕ) : Type 0 where
  pub rest : List ℕ
  pub end : EndPrints chains (world_after (new_world chains) events) ending rest
  pub lines : printed ≡ outcome_lines (new_world chains) events ++ rest

-- What is promised of a run of these events: all promises hold of what the servers did, and where
-- the set is accepted, for either reason, the run ends with an order.
pub record IsPromised (chains : Set) (events : List Event) (ending : Ending) : Type 0 where
  pub promises : KeepsPromises chains (world_after (new_world chains) events).list
  pub ordered : IsAccepted chains → ending ≡ Ordered

-- What a set text and a script print: the lines of a run of the script's events over the set.
pub record Prints (set script : List ℕ) (ending : Ending) (printed : List ℕ) : Type 0 where
  pub chains : Set
  pub is_set : IsSet chains
  pub set_spelled : set ≡ text_of chains
  pub events : List Event
  pub is_script : IsScript chains events
  pub script_spelled : script ≡ script_of chains events
  pub run : RunPrints chains events ending printed
  pub promised : IsPromised chains events ending

-- the text is that of no set
abbrev pub IsNoSet : List ℕ → Type 0
IsNoSet text = (chains : Set) → IsSet chains → text ≢ text_of chains

-- the text is that of no script over the set
abbrev pub IsNoScript : Set → List ℕ → Type 0
IsNoScript chains text =
    (events : List Event) → IsScript chains events → text ≢ script_of chains events

-- The first text is a set's, and the other is that of no script over it.
abbrev pub HasNoScript : List ℕ → List ℕ → Type 0
HasNoScript set script =
    (chains : Set) × IsSet chains × (set ≡ text_of chains) × IsNoScript chains script

-- a fault that comes when events run already
abbrev pub IsLate : RunFault → Type 0
IsLate (SetFault fault) = ⊥
IsLate (ScriptFault fault) = ⊥
IsLate Write = Unit {0}
IsLate Memory = Unit {0}

-- why a run stops, that a faulty text is told before anything is written, and that its fault is
-- never want of memory
abbrev pub StopsFor : List ℕ → List ℕ → Type 0 → RunFault → Type 0
StopsFor set script unwritten (SetFault fault) = IsNoSet set × unwritten × (fault.kind ≢ NoMemory)
StopsFor set script unwritten (ScriptFault fault) =
    HasNoScript set script × unwritten × (fault.kind ≢ NoMemory)
StopsFor set script unwritten Write = Unit {0}
StopsFor set script unwritten Memory = Unit {0}
