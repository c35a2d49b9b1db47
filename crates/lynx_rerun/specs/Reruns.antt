-- What a run over stores does and prints.
use Rattle.std.specs.Prelude.{◌≡◌, ℕ, Bool, List, [], ◌++◌, Some, length, map, slice_get}
use Rattle.std.specs.List.{flat_map}
use Rattle.lynx_set.specs.Set.{Set}
use Rattle.lynx_entry.specs.declared.event.Event.{Event}
use Rattle.lynx_entry.specs.declared.event.Outcome.{Outcome}
use Rattle.lynx_keep.specs.Kept.{Terms}
use Rattle.lynx_lex.specs.Lines.{with_feed}
use Rattle.lynx_lines.specs.Printed.{outcome_text}
use Rattle.lynx_lines.specs.Scripts.{IsScript, script_of}
use Rattle.lynx_report.specs.Options.{EndPrintsWith}
use Rattle.lynx_report.specs.declared.run.Ending.{Ending}
use Rattle.lynx_server.specs.Opening.{IsOpened}
use Rattle.lynx_server.specs.Serving.{Serving}
use Rattle.lynx_store_files.specs.Closed.{AreClosed}
use Rattle.lynx_store_files.specs.Folders.{StandIn}
use Rattle.lynx_store_files.specs.Terms.{StoreTerms}
use Rattle.lynx_weave.specs.Gathering.{IsGathered}
use Rattle.lynx_world.specs.Worlds.{WorldState}
use Rattle.lynx_rerun.specs.Events.{ComeTo}

-- a server of the set is opened over what its keeper keeps
abbrev pub IsOver : {K : Type 0} → Terms K → Set → List K → ℕ → Serving K → Type 0
IsOver {K} terms set keepers server here =
    (keeper : K) × (slice_get keepers server ≡ Some keeper)
    × IsOpened terms set server keeper here

-- one server for each of the set, in order, each opened over its keeper
pub record AreOver {K : Type 0} (terms : Terms K) (set : Set) (keepers : List K)
    (servers : List (Serving K)) : Type 0 where
  pub many : length servers ≡ set.servers
  pub each : (server : ℕ) (here : Serving K) → slice_get servers server ≡ Some here
      → IsOver terms set keepers server here

-- the servers of the set, each opened over its own store in the folder
pub record AreOpened {K : Type 0} (terms : Terms K) (stores : StoreTerms K) (folder : List ℕ)
    (set : Set) (servers : List (Serving K)) : Type 0 where
  pub keepers : List K
  pub stand : StandIn stores folder set keepers
  pub over : AreOver terms set keepers servers

-- the keepers of servers
abbrev pub keepers_of : {K : Type 0} → List (Serving K) → List K
keepers_of {K} servers = map (λ (here : Serving K). here.keeper) servers

-- a line for each outcome
abbrev pub lines_of : List Outcome → List ℕ
lines_of outcomes = flat_map (λ outcome. with_feed (outcome_text outcome)) outcomes

-- the last lines are of the world that the keepers keep together, which are these once they were
-- read
pub record EndsAs {K : Type 0} (terms : Terms K) (set : Set) (owed : Bool) (keepers read : List K)
    (ending : Ending) (printed : List ℕ) : Type 0 where
  pub world : WorldState
  pub gathered : IsGathered terms set keepers read [] world
  pub end : EndPrintsWith owed world ending printed

-- What a run of a script prints at servers that were opened over their stores in that folder: a
-- line for each event, of what the server answered that it was for, and the lines of the world that
-- the stores keep then. All stores are closed, and that went well.
pub record Reruns {K : Type 0} (terms : Terms K) (stores : StoreTerms K) (folder : List ℕ)
    (set : Set) (script : List ℕ) (owed : Bool) (ending : Ending)
    (printed : List ℕ) : Type 0 where
  pub events : List Event
  pub is_script : IsScript set events
  pub spelled : script ≡ script_of set events
  pub opened : List (Serving K)
  pub are_opened : AreOpened terms stores folder set opened
  pub outcomes : List Outcome
  pub last : List (Serving K)
  pub come : ComeTo terms set events outcomes opened last
  pub read : List K
  pub end_lines : List ℕ
  pub ends : EndsAs terms set owed (keepers_of last) read ending end_lines
  pub let_go : AreClosed stores.closed read
  pub lines : printed ≡ lines_of outcomes ++ end_lines
