-- What is restored of the stores in a folder, by servers that were opened over copies of them.
use Rattle.std.proofs.Common.{Bool, ◌≡◌, ◌∙◌, ◌<◌, ◌+◌, [], ◌∷◌, ℕ, zero, suc, List, Option, Some, None, Result, Ok, Err, ap, arith, length, map, option_map, refl, slice_get, subst, sym}
use Rattle.std.specs.Prelude.{IfOk, IfSome}
use Rattle.std.proofs.lemmas.Option.{same_Some, slice_get-map, slice_get_within}
use Rattle.sqlite.specs.State.{State}
use Rattle.lynx_audit.specs.Audits.{AreOpenedTo}
use Rattle.lynx_cluster.specs.Starting.{AreOpened}
use Rattle.lynx_entry.specs.Entry.{History}
use Rattle.lynx_keep.specs.Kept.{Terms}
use Rattle.lynx_restore.specs.Restored.{IsRestored, restored_of}
use Rattle.lynx_restore.specs.declared.restored.Restored.{Restored}
use Rattle.lynx_restore.specs.declared.restored.RestoredServer.{RestoredServer}
use Rattle.lynx_server.specs.Opening.{IsOpened}
use Rattle.lynx_server.specs.Serving.{Serving}
use Rattle.lynx_set.specs.Set.{Set}
use Rattle.lynx_store_files.specs.Terms.{StoreTerms}
use Rattle.lynx_weave.specs.Servers.{histories_of}
use Rattle.lynx_cli.specs.Copied.{AreHistoriesIn}
use Rattle.lynx_cli.specs.Restores.{HasRestored, HasToldRestored, RestoresBy, RestoresHistories, room_of, taken_from}
use Rattle.lynx_cli.proofs.Placing.{as_many, there}

-- servers that opened over keepers opened with their histories
pub opened_to : {K : Type 0} (terms : Terms K) (set : Set) (keepers : List K) (servers : List (Serving K)) → AreOpened terms set keepers servers →
    AreOpenedTo terms set keepers (histories_of servers)
opened_to {K} terms set keepers servers are =
    let seen : Serving K → History = λ here. here.history in
    record {
      many = as_many seen servers ∙ are.one_server;
      each = λ server keeper history kept at.
          let place = there servers server (omega (arith, slice_get_within (histories_of servers) server history at, as_many seen servers)) in
          let here = place.0 in
          record {
            here = here;
            opened = are.each server keeper here kept place.1;
            history_is = same_Some (seen here) history (ap (option_map seen) (sym place.1) ∙ sym (slice_get-map seen servers server) ∙ at);
          };
    }

-- what holds of what is there
if_there : {A : Type 0} (found : Option A) (Q : A → Type 0) → ((x : A) → found ≡ Some x → Q x) → IfSome found Q
if_there None Q h = tt
if_there (Some x) Q h = h x refl

-- it holds of more
if_more : {A : Type 0} (found : Option A) (P Q : A → Type 0) → ((x : A) → P x → Q x) → IfSome found P → IfSome found Q
if_more None P Q more p = tt
if_more (Some x) P Q more p = more x p

-- the servers have their numbers
pub numbered : {K : Type 0} (terms : Terms K) (set : Set) (keepers : List K) (servers : List (Serving K)) → AreOpened terms set keepers servers →
    (i : ℕ) → IfSome (slice_get servers i) (λ here. here.server ≡ 0 + i)
numbered {K} terms set keepers servers are i = if_there (slice_get servers i) (λ here. here.server ≡ 0 + i) (λ here at.
    let place = there keepers i (omega (arith, slice_get_within servers i here at, are.one_server, are.one_keeper)) in
    let opened : IsOpened terms set i place.0 here = are.each i place.0 here place.1 at in
    let own = opened.server_is in
    omega (arith, own))

-- what is told of servers that have their numbers from the first on
taken_is : {K : Type 0} (first : ℕ) (counts : List ℕ) (servers : List (Serving K)) → ((i : ℕ) → IfSome (slice_get servers i) (λ here. here.server ≡ first + i)) →
    restored_of counts servers ≡ taken_from first counts (histories_of servers)
taken_is first [] servers each = refl
taken_is first (count ∷ counts) [] each = refl
taken_is {K} first (count ∷ counts) (here ∷ servers) each =
    let later : (i : ℕ) → IfSome (slice_get servers i) (λ one. one.server ≡ first + 1 + i) =
    λ i. if_more (slice_get servers i) (λ one. one.server ≡ first + suc i) (λ one. one.server ≡ first + 1 + i) (λ one at. omega (arith, at)) (each (suc i)) in
    let own : here.server ≡ first = let at = each 0 in omega (arith, at) in
    let made : ℕ → RestoredServer = λ server. record { server = server; taken = count; of = length here.history } in
    ap (λ server. made server ∷ restored_of counts servers) own
    ∙ ap (λ told. made first ∷ told) (taken_is (first + 1) counts servers later)

-- what is told of all servers
pub taken_of_all : {K : Type 0} (terms : Terms K) (set : Set) (keepers : List K) (servers : List (Serving K)) (counts : List ℕ) → AreOpened terms set keepers servers →
    restored_of counts servers ≡ taken_from 0 counts (histories_of servers)
taken_of_all terms set keepers servers counts are = taken_is 0 counts servers (numbered terms set keepers servers are)

-- what was made holds of it where it was moved
pub moved_so : {A E F : Type 0} (made : Result A E) (moved : Result A F) (P Q : A → Type 0) → ((x : A) → P x → Q x) → IfOk moved (λ x. made ≡ Ok x) → IfOk made P →
    IfOk moved Q
moved_so made (Err fault) P Q more same is = tt
moved_so made (Ok x) P Q more same is = more x (subst (λ one. IfOk one P) same is)

-- what is restored of keepers over copies of the stores in a folder is restored of these
pub restored_folder : {C K L E : Type 0} (copied_from : List ℕ → C → Type 0) (state_of : C → State) (from folder : List ℕ) (set : Set) (copied : Terms K) (terms : Terms L)
    (stores : StoreTerms L) (keepers : List K) (made : Result Restored E) →
    ((histories : List History) → AreOpenedTo copied set keepers histories → AreHistoriesIn copied_from state_of from set histories) →
    IfOk made (IsRestored copied terms stores (room_of folder) set keepers) → IfOk made (RestoresHistories copied_from state_of terms stores from folder)
restored_folder copied_from state_of from folder set copied terms stores keepers (Err fault) are is = tt
restored_folder copied_from state_of from folder set copied terms stores keepers (Ok restored) are is = record {
  set = set;
  histories = histories_of is.servers;
  are = are (histories_of is.servers) (opened_to copied set keepers is.servers is.opened);
  counts = is.counts;
  cut = is.cut;
  stored = is.stored;
  told = is.told ∙ taken_of_all copied set keepers is.servers is.counts is.opened;
}

-- what was restored was told
pub restored_told : {C L E : Type 0} (copied_from : List ℕ → C → Type 0) (uncopied : List ℕ → Type 0) (state_of : C → State) (terms : Terms L) (stores : StoreTerms L)
    (from folder : List ℕ) (longest : Bool) (old new : Option (List ℕ)) (restored : Restored) (told : Result ℕ E) →
    RestoresBy copied_from uncopied state_of terms stores from folder longest restored → IfOk told (HasToldRestored restored.servers.items old new) →
    IfOk told (HasRestored copied_from uncopied state_of terms stores from folder longest old new)
restored_told copied_from uncopied state_of terms stores from folder longest old new restored (Err fault) restores is = tt
restored_told copied_from uncopied state_of terms stores from folder longest old new restored (Ok status) restores is = record {
  restored = restored;
  restores = restores;
  told = is;
}
