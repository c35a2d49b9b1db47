-- How a service ends well.
use Rattle.std.proofs.Common.{◌≡◌, ◌∙◌, ◌++◌, ℕ, Bool, List, Option, Result, Ok, Err, sym, subst}
use Rattle.std.specs.Prelude.{IfOk, OnOk, codes}
use Rattle.std.specs.Io.KnownBytes.{Appends}
use Rattle.std.proofs.KnownBytes.{Appends-trans}
use Rattle.lynx_order.specs.declared.explained.Explained.{Explained}
use Rattle.lynx_cluster.specs.Closing.{IsClosed}
use Rattle.lynx_cluster.specs.Clusters.{ClusterState}
use Rattle.lynx_cluster.specs.Sessions.{SessionState}
use Rattle.lynx_cluster.specs.Starting.{AreOpened, Starts}
use Rattle.lynx_graph.specs.Acceptance.{IsAccepted}
use Rattle.lynx_keep.specs.Kept.{Terms}
use Rattle.lynx_promises.proofs.Promised.{promised}
use Rattle.lynx_server.specs.Serving.{Serving}
use Rattle.lynx_set.specs.Home.{AreLiteralsHome}
use Rattle.lynx_set.specs.Set.{Set}
use Rattle.lynx_set.proofs.Literals.{literals_home}
use Rattle.lynx_store_files.specs.Closed.{AreClosed}
use Rattle.lynx_store_files.specs.Folders.{StandIn}
use Rattle.lynx_store_files.specs.Terms.{StoreTerms}
use Rattle.lynx_weave.specs.Senders.{AreAllSent}
use Rattle.lynx_weave.specs.Servers.{histories_of}
use Rattle.lynx_world.specs.Legal.{IsLegal}
use Rattle.lynx_world.specs.Worlds.{WorldState}
use Rattle.lynx_service.specs.declared.fault.ServeFault.{ServeFault}
use Rattle.lynx_service.specs.Services.{AppendsListening, HasServed, IsEnded, closing_lines}

-- what holds where a result is Ok
pub of_ok : {T : Type 0} {E : Type 0} (result : Result T E) (value : T) (fact : Type 0) → result ≡ Ok value → OnOk result fact → fact
of_ok result value fact same given = subst (λ r. OnOk r fact) same given

-- a cluster of opened servers that was halted as it was and closed, and the end over its world, behind what was written before
pub ends_well : {K : Type 0} (terms : Terms K) (stores : StoreTerms K) (folder : List ℕ) (apart : Bool) (set opened_set : Set) (before : List K) (servers : List (Serving K)) (cluster halted : ClusterState) (sessions : List SessionState) (made : ℕ) (keepers : List K)
    (old middle new : Option (List ℕ)) (world : WorldState) (result : Result Explained ServeFault) →
    opened_set ≡ set → AreOpened terms set before servers → StandIn stores folder set before → AreAllSent opened_set (histories_of servers) → Starts opened_set servers cluster → halted ≡ cluster → IsClosed terms halted sessions made world keepers →
    AppendsListening old middle → IfOk result (IsEnded world apart middle new) → OnOk result (AreClosed stores.closed keepers) → IfOk result (HasServed terms stores folder apart set old new)
ends_well terms stores folder apart set opened_set before servers cluster halted sessions made keepers old middle new world (Ok explained) same opened stood sent began still ended_so first ended let_go =
    let closed : IsClosed terms cluster sessions made world keepers = subst (λ state. IsClosed terms state sessions made world keepers) still ended_so in
    let started : Starts set servers cluster = subst (λ s. Starts s servers cluster) same began in
    let of_set : world.set ≡ set = closed.woven.set_is ∙ started.set_is in
    let legal = subst (λ s. IsLegal s world.list) started.set_is closed.woven.list_is.legal in
    record {
      before = before;
      stood = stood;
      servers = servers;
      opened = opened;
      sent = subst (λ s. AreAllSent s (histories_of servers)) same sent;
      cluster = cluster;
      started = started;
      sessions = sessions;
      keepers = keepers;
      made = made;
      world = world;
      closed = closed;
      let_go = let_go;
      promises = λ is. promised set world.list is legal;
      right = ended.right;
      ordered = λ is accepted. ended.right.accepted (subst AreLiteralsHome (sym of_set) (literals_home set is)) (subst IsAccepted (sym of_set) accepted);
      place = first.0;
      written = Appends-trans old middle new (codes "listening " ++ first.0) (closing_lines apart explained) first.1 ended.written;
    }
ends_well terms stores folder apart set opened_set before servers cluster halted sessions made keepers old middle new world (Err fault) same opened stood sent began still ended_so first ended let_go = tt
