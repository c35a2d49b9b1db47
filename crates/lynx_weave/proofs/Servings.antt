-- Servers that were made of histories.
use Rattle.std.proofs.Common.{◌≡◌, ℕ, suc, true, List, [], ◌∷◌, length, slice_get, Option, Some, None, option_map, refl, sym, ap, ◌∙◌, subst}
use Rattle.std.proofs.lemmas.Option.{slice_get-map}
use Rattle.lynx_set.specs.Set.{Set}
use Rattle.lynx_entry.specs.Entry.{History}
use Rattle.lynx_keep.specs.Kept.{KeptState}
use Rattle.lynx_server.specs.History.{IsLawfulHistory}
use Rattle.lynx_server.specs.Serving.{Serving}
use Rattle.lynx_world.specs.Servers.{Servers}
use Rattle.std.specs.Global.{Vec}
use Rattle.std.specs.List.{list_any}
use Rattle.lynx_weave.specs.declared.told.ToldItem.{ToldItem}
use Rattle.lynx_weave.specs.inner.Judging.{are_topped}
use Rattle.lynx_weave.specs.Told.{is_topmost}
use Rattle.lynx_weave.specs.Rebuilt.{told_in}
use Rattle.lynx_weave.specs.inner.Rebuilt.{AreRebuilt}
use Rattle.lynx_weave.specs.Servers.{AreServersOf, histories_of}
use Rattle.lynx_weave.proofs.Gets.{in_place}
use Rattle.lynx_world.proofs.Members.{any_of}
use Rattle.lynx_weave.specs.Senders.{IsUnsent}
use Rattle.lynx_weave.specs.Weaving.{IsUnsentAt}
use Rattle.lynx_weave.proofs.Agreements.{history_there}
use Rattle.lynx_weave.proofs.Sending.{AreLawful, unsent_at}

-- the server of a history
pub record IsServer {K : Type 0} (servers : List (Serving K)) (server : ℕ) (history : History) : Type 0 where
  pub here : Serving K
  pub there : slice_get servers server ≡ Some here
  pub history_is : here.history ≡ history

pub server_of : {K : Type 0} (servers : List (Serving K)) (server : ℕ) (history : History) → slice_get (histories_of servers) server ≡ Some history → IsServer servers server history
server_of {K} servers server history is = by (slice_get servers server) refl (sym (slice_get-map (λ (h : Serving K). h.history) servers server) ∙ is)
  where
    by : (o : Option (Serving K)) → slice_get servers server ≡ o → option_map (λ (h : Serving K). h.history) o ≡ Some history → IsServer servers server history
    by None there found = cc
    by (Some here) there found = record { here = here; there = there; history_is = cc }

-- servers that were made of histories are those of the set
pub servers_of : (set : Set) (servers : Servers) → AreRebuilt set servers → AreServersOf set servers
servers_of set servers are = record {
  many = are.many;
  each = λ server here there. let one = are.each server here there in record { set_is = one.set_is; server_is = one.server_is; lawful = one.lawful };
}

pub lawful_servers : {K : Type 0} (set : Set) (servers : List (Serving K)) → AreServersOf set servers → AreLawful set (histories_of servers)
lawful_servers {K} set servers are server history there =
    let one = server_of servers server history there in
    subst (IsLawfulHistory set server) one.history_is (are.each server one.here one.there).lawful

pub lawful_all : (set : Set) (servers : Servers) → AreRebuilt set servers → AreLawful set (histories_of servers)
lawful_all set servers are = lawful_servers set servers (servers_of set servers are)

-- a server's entry whose message nobody sent
pub unsent_there : {K : Type 0} (set : Set) (servers : List (Serving K)) (number server place : ℕ) (here : Serving K) → AreServersOf set servers →
    slice_get servers number ≡ Some here → server ≡ here.server → IsUnsent set (histories_of servers) here.history place →
    IsUnsentAt set (histories_of servers) server place
unsent_there set servers number server place here are there is unsent =
    subst (λ n. IsUnsentAt set (histories_of servers) n place) (sym (is ∙ (are.each number here there).server_is))
    (unsent_at set (histories_of servers) number place here.history (lawful_servers set servers are) (history_there servers number here there) unsent)

-- one history for each
pub many_of : {K : Type 0} (servers : List (Serving K)) → length (histories_of servers) ≡ length servers
many_of [] = refl
many_of (here ∷ servers) = ap suc (many_of servers)

-- a server with the greatest of all stamps
pub topped_there : (servers : Servers) (number : ℕ) (here : Serving KeptState) → slice_get servers number ≡ Some here →
    list_any is_topmost here.history ≡ true → are_topped (histories_of servers) ≡ true
topped_there servers number here there topped =
    any_of (list_any is_topmost) (histories_of servers) here.history
    (in_place here.history (histories_of servers) number (history_there servers number here there)) topped

-- ---- what sessions were told

pub many_told : (told : List (Vec ToldItem)) → length (told_in told) ≡ length told
many_told [] = refl
many_told (items ∷ told) = ap suc (many_told told)

pub told_there : (told : List (Vec ToldItem)) (session : ℕ) (items : Vec ToldItem) → slice_get told session ≡ Some items →
    slice_get (told_in told) session ≡ Some items.items
told_there told session items there =
    slice_get-map (λ (i : Vec ToldItem). i.items) told session ∙ ap (option_map (λ (i : Vec ToldItem). i.items)) there
