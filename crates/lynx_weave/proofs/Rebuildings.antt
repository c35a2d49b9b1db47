-- Servers made one after another.
use Rattle.std.proofs.Common.{◌≡◌, ℕ, zero, suc, ◌+◌, ◌<◌, ◌≤◌, List, [], ◌∷◌, ◌++◌, drop, take, length, slice_get, Some, option_map, Err, inl, inr, refl, sym, ap, ◌∙◌, subst, arith}
use Rattle.std.specs.Global.{Vec}
use Rattle.std.proofs.lemmas.Bool.{cases_lt}
use Rattle.std.proofs.lemmas.List.{length-append, map-append}
use Rattle.std.proofs.lemmas.Option.{slice_get-map, slice_get_within}
use Rattle.lynx_set.specs.Set.{Set}
use Rattle.lynx_entry.specs.declared.entry.Entry.{Entry}
use Rattle.lynx_entry.specs.Entry.{History}
use Rattle.lynx_keep.specs.Kept.{KeptState}
use Rattle.lynx_server.specs.Rebuilding.{IsRebuilt}
use Rattle.lynx_server.specs.Serving.{Serving}
use Rattle.lynx_server.proofs.Chains.{get_before, get_last}
use Rattle.lynx_world.specs.Servers.{Servers}
use Rattle.lynx_weave.specs.declared.fault.WeaveFault.{WeaveFault}
use Rattle.lynx_weave.specs.declared.fault.WeaveFault.TheVariants.{Mismatch, Told, Memory}
use Rattle.lynx_weave.specs.Rebuilt.{histories_in}
use Rattle.lynx_weave.specs.inner.Rebuilt.{AreRebuilt, IsRebuildFault, RebuildsOne}
use Rattle.lynx_weave.specs.Servers.{histories_of}
use Rattle.lynx_weave.specs.Weaving.{IsUnlawfulAt}
use Rattle.lynx_weave.proofs.Gets.{take_next, take_whole}

-- the first servers, made of the first histories
pub record AreRebuiltBelow (set : Set) (histories : List History) (number : ℕ) (servers : Servers) : Type 0 where
  pub many : length servers ≡ number
  pub each : (server : ℕ) (here : Serving KeptState) → slice_get servers server ≡ Some here → IsRebuilt set server here.history here
  pub histories_are : histories_of servers ≡ take number histories

pub rebuilt_none : (set : Set) (histories : List History) → AreRebuiltBelow set histories 0 []
rebuilt_none set histories = record { many = refl; each = λ server here is. cc; histories_are = refl }

pub rebuilt_more : (set : Set) (histories : List History) (number : ℕ) (servers : Servers) (history : History) (here : Serving KeptState) →
    slice_get histories number ≡ Some history → IsRebuilt set number history here → AreRebuiltBelow set histories number servers →
    AreRebuiltBelow set histories (number + 1) (servers ++ here ∷ [])
rebuilt_more set histories number servers history here there is below = record {
  many = let many = below.many in let more = length-append servers (here ∷ []) in omega (arith, more);
  each = λ server one at. elim (cases_lt server (length servers)) [
    | inl within ↦ below.each server one (sym (get_before servers here server within) ∙ at)
    | inr past ↦
        let bound = slice_get_within (servers ++ here ∷ []) server one at in
        let more = length-append servers (here ∷ []) in
        let last : server ≡ length servers = omega (arith, more) in
        let entries : Some here ≡ Some one = sym (ap (slice_get (servers ++ here ∷ [])) last ∙ get_last servers here) ∙ at in
        let alike : here ≡ one = cc in
        let server_is : server ≡ number = last ∙ below.many in
        subst (λ (o : Serving KeptState). IsRebuilt set server o.history o) alike
        (subst (λ n. IsRebuilt set n here.history here) (sym server_is) (subst (λ h. IsRebuilt set number h here) (sym is.history_is) is))
  ];
  histories_are =
      map-append (λ (h : Serving KeptState). h.history) servers (here ∷ [])
      ∙ ap (λ hs. hs ++ here.history ∷ []) below.histories_are
      ∙ ap (λ h. take number histories ++ h ∷ []) is.history_is
      ∙ sym (take_next histories number history there);
}

pub rebuilt_all : (set : Set) (histories : List History) (number : ℕ) (servers : Servers) → number ≡ set.servers → length histories ≤ number →
    AreRebuiltBelow set histories number servers → AreRebuilt set servers × (histories_of servers ≡ histories)
rebuilt_all set histories number servers all few below = (
  record { many = below.many ∙ all; each = below.each },
  below.histories_are ∙ take_whole histories number few,
)

-- what is first behind a place stands there
pub first_behind : {X : Type 0} (xs rest : List X) (place : ℕ) (first : X) → drop place xs ≡ first ∷ rest →
    (slice_get xs place ≡ Some first) × (drop (place + 1) xs ≡ rest)
first_behind {X} xs rest place first is = let both = by xs place is in (both.0, ap (λ n. drop n xs) (next place) ∙ both.1)
  where
    next : (n : ℕ) → n + 1 ≡ suc n
    next n = omega arith

    by : (ys : List X) (n : ℕ) → drop n ys ≡ first ∷ rest → (slice_get ys n ≡ Some first) × (drop (suc n) ys ≡ rest)
    by [] zero at = cc
    by [] (suc n) at = cc
    by (y ∷ ys) zero at = (cc, cc)
    by (y ∷ ys) (suc n) at = by ys n at

pub history_at : (histories : List (Vec Entry)) (place : ℕ) (entries : Vec Entry) → slice_get histories place ≡ Some entries →
    slice_get (histories_in histories) place ≡ Some entries.items
history_at histories place entries there =
    slice_get-map (λ (e : Vec Entry). e.items) histories place ∙ ap (option_map (λ (e : Vec Entry). e.items)) there

-- there is a history for each place
pub none_behind : {X : Type 0} (xs : List X) (place : ℕ) → place < length xs → drop place xs ≡ [] → ⊥
none_behind [] place within none = omega arith
none_behind (x ∷ xs) zero within none = cc
none_behind (x ∷ xs) (suc place) within none = none_behind xs place (omega arith) none

-- the history that isn't lawful
pub rebuild_fault : (set : Set) (histories : List History) (number : ℕ) (history : History) (fault : WeaveFault) →
    slice_get histories number ≡ Some history → RebuildsOne set number history (Err fault) → IsRebuildFault set histories fault
rebuild_fault set histories number history (Mismatch found place) there is =
    subst (λ n. IsUnlawfulAt set histories n place) (sym is.0) (record { history = history; there = there; first = is.1 })
rebuild_fault set histories number history (Told session place) there is = is
rebuild_fault set histories number history Memory there is = tt
