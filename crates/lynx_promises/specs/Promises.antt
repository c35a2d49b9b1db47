-- What is promised of all that the servers of a set did.
use Rattle.std.specs.Prelude.{◌≡◌, ◌≢◌, ℕ, List, length, slice_get, Some, Result, Ok, Err}
use Rattle.lynx_names.specs.declared.chain.ChainId.{ChainId}
use Rattle.lynx_set.specs.Set.{Set}
use Rattle.lynx_graph.specs.Acceptance.{IsAccepted}
use Rattle.lynx_entry.specs.Entry.{History}
use Rattle.lynx_keep.specs.Kept.{KeptState, Terms}
use Rattle.lynx_world.specs.Placed.{Placed}
use Rattle.lynx_world.specs.Worlds.{WorldState, history_of}
use Rattle.lynx_world.specs.Legal.{IsLegal}
use Rattle.lynx_world.specs.Order.{IsInOriginOrder, IsOnceAndInOrder}
use Rattle.lynx_weave.specs.declared.fault.WeaveFault.{WeaveFault}
use Rattle.lynx_weave.specs.declared.fault.WeaveFault.TheVariants.{Memory}
use Rattle.lynx_weave.specs.declared.gather_fault.GatherFault.{GatherFault}
use Rattle.lynx_weave.specs.declared.gather_fault.GatherFault.TheVariants.{Weave}
use Rattle.lynx_weave.specs.Parts.{ArePartsOf}
use Rattle.lynx_weave.specs.Weaving.{Weaves}
use Rattle.lynx_order.specs.declared.explained.Explained.{Explained}
use Rattle.lynx_order.specs.Explained.{CycleIsRight, GivesOrder}
use Rattle.lynx_order.specs.Explanations.{IsExplanation}
use Rattle.lynx_promises.specs.Requests.{AnswersAlike, OneEntryEach, OneHomeEach}
use Rattle.lynx_promises.specs.Stops.{Past}

-- Each entry is lawful where it stands; each hop acts at most once and in chain order; chains of
-- one origin keep their order everywhere; each request is recorded once, at one server; and where
-- the set is accepted, some order of whole chains explains the list, and whatever is given as an
-- order or a cycle of it, and is right, is an order.
pub record KeepsPromises (set : Set) (list : List Placed) : Type 0 where
  pub legal : IsLegal set list
  pub once : IsOnceAndInOrder list
  pub origins : IsInOriginOrder list
  pub requests : (server : ℕ) → OneEntryEach (history_of server list)
  pub homes : OneHomeEach list
  pub serial : IsAccepted set → (chains : List ChainId) × IsExplanation set list chains
  pub answer : IsAccepted set → (explained : Explained) → CycleIsRight set list explained
      → GivesOrder explained

-- Of what servers keep, and what sessions were told: the promises hold of what the servers did;
-- each request was answered alike; and no entry that is kept, and nothing that was told, is ever
-- said to disagree with the rest.
pub record StandsOverStops (set : Set) (past : Past) : Type 0 where
  pub promises : KeepsPromises set past.world.list
  pub requests : AnswersAlike past.told
  pub agrees : (histories : List History) (fault : WeaveFault)
      → ArePartsOf set past.world.list histories → fault ≢ Memory
      → Weaves set histories past.told (Err fault) → ⊥

-- these keepers, one for each server, each keep just its part of the list
pub record KeepParts {K : Type 0} (terms : Terms K) (set : Set) (list : List Placed)
    (keepers : List K) : Type 0 where
  pub many : length keepers ≡ set.servers
  pub each : (server : ℕ) (keeper : K) → slice_get keepers server ≡ Some keeper
      → (kept : KeptState) × terms.keeps keeper kept × (kept.entries ≡ history_of server list)

-- the stores of these keepers have given back what they were given
pub record AreSound {K : Type 0} (terms : Terms K) (set : Set) (keepers : List K) : Type 0 where
  pub many : length keepers ≡ set.servers
  pub each : (server : ℕ) (keeper : K) → slice_get keepers server ≡ Some keeper
      → terms.sound keeper

-- what keepers gather to is no disagreement, and where it is a world, that has the promises
abbrev pub GathersWell : Set → Result WorldState GatherFault → Type 0
GathersWell set (Ok world) = KeepsPromises set world.list
GathersWell set (Err (Weave fault)) = ⊥
GathersWell set (Err fault) = Unit {0}
