-- How a service ends well.
use Rattle.std.specs.Prelude.{◌≡◌, ◌++◌, ℕ, Bool, true, false, List, Option, codes}
use Rattle.std.specs.Io.KnownBytes.{Appends}
use Rattle.lynx_cluster.specs.Closing.{IsClosed}
use Rattle.lynx_cluster.specs.Clusters.{ClusterState}
use Rattle.lynx_cluster.specs.Sessions.{SessionState}
use Rattle.lynx_cluster.specs.Starting.{AreOpened, Starts}
use Rattle.lynx_graph.specs.Acceptance.{IsAccepted}
use Rattle.lynx_keep.specs.Kept.{Terms}
use Rattle.lynx_order.specs.declared.explained.Explained.{Explained}
use Rattle.lynx_order.specs.declared.explained.Explained.TheVariants.{Order, Cycle}
use Rattle.lynx_order.specs.Explained.{CycleIsRight, GivesOrder, OrderIsRight}
use Rattle.lynx_lines.specs.Printed.{chains_text}
use Rattle.lynx_set.specs.Home.{AreLiteralsHome}
use Rattle.lynx_promises.specs.Promises.{KeepsPromises}
use Rattle.lynx_server.specs.Serving.{Serving}
use Rattle.lynx_set.specs.Rules.{IsSet}
use Rattle.lynx_set.specs.Set.{Set}
use Rattle.lynx_store_files.specs.Closed.{AreClosed}
use Rattle.lynx_store_files.specs.Folders.{StandIn}
use Rattle.lynx_store_files.specs.Terms.{StoreTerms}
use Rattle.lynx_weave.specs.Senders.{AreAllSent}
use Rattle.lynx_weave.specs.Servers.{histories_of}
use Rattle.lynx_lex.specs.Lines.{with_feed}
use Rattle.lynx_world.specs.Worlds.{WorldState}

-- what is said of an end: that it is one, and the order of all chains, or a cycle
abbrev pub last_lines : Explained → List ℕ
last_lines (Order chains) = codes "closed\n" ++ with_feed (codes "order" ++ chains_text chains)
last_lines (Cycle chains) = codes "closed\n" ++ with_feed (codes "cycle" ++ chains_text chains)

-- the last lines of a service: those, or `closed` alone where its order goes to a file of its own
abbrev pub closing_lines : Bool → Explained → List ℕ
closing_lines false explained = last_lines explained
closing_lines true explained = codes "closed\n"

-- The world is explained so: an order of its chains gives all that they did, or each of some chains
-- precedes the next, around a cycle, which is never told of an accepted set.
pub record IsExplainedBy (world : WorldState) (explained : Explained) : Type 0 where
  pub order : OrderIsRight world.set world.list explained
  pub cycle : CycleIsRight world.set world.list explained
  pub accepted : AreLiteralsHome world.set → IsAccepted world.set → GivesOrder explained

-- The end of a service over that world: it is explained so, and that is written, the order apart
-- where that is asked for.
pub record IsEnded (world : WorldState) (apart : Bool) (old new : Option (List ℕ))
    (explained : Explained) : Type 0 where
  pub right : IsExplainedBy world explained
  pub written : Appends old new (closing_lines apart explained)

-- it is written that clients are listened to, and where
abbrev pub AppendsListening : Option (List ℕ) → Option (List ℕ) → Type 0
AppendsListening old new = (place : List ℕ) × Appends old new (codes "listening " ++ place)

-- A service over that set. Its servers were opened over the keepers of their stores in that folder,
-- of which none was lost, each with a lawful history, and all that ran there was sent; a cluster of
-- them was started, and closed: its world is just what the keepers keep then, all sessions that it
-- made were handed in, and all that they were told stands in it. The keepers were let go, each
-- well. That world has all promises. It is written where clients are listened to, and behind that
-- what explains that world, unless that goes to a file of its own.
pub record HasServed {K : Type 0} (terms : Terms K) (stores : StoreTerms K) (folder : List ℕ)
    (apart : Bool) (set : Set) (old new : Option (List ℕ)) (explained : Explained) : Type 0 where
  pub before : List K
  pub stood : StandIn stores folder set before
  pub servers : List (Serving K)
  pub opened : AreOpened terms set before servers
  pub sent : AreAllSent set (histories_of servers)
  pub cluster : ClusterState
  pub started : Starts set servers cluster
  pub sessions : List SessionState
  pub keepers : List K
  pub made : ℕ
  pub world : WorldState
  pub closed : IsClosed terms cluster sessions made world keepers
  pub let_go : AreClosed stores.closed keepers
  pub promises : IsSet set → KeepsPromises set world.list
  pub right : IsExplainedBy world explained
  pub ordered : IsSet set → IsAccepted set → GivesOrder explained
  pub place : List ℕ
  pub written : Appends old new ((codes "listening " ++ place) ++ closing_lines apart explained)
