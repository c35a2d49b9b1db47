-- Stores that are made one after another.
use Rattle.std.proofs.Common.{◌≡◌, ◌≤◌, ◌<◌, ◌+◌, ℕ, List, [], length, slice_get, Some, inl, inr, ap, ◌∙◌, subst, arith}
use Rattle.std.specs.FinMap as map
use Rattle.std.proofs.lemmas.Bool.{cases_lt}
use Rattle.std.proofs.lemmas.Option.{slice_get_within}
use Rattle.lynx_entry.specs.Entry.{History}
use Rattle.lynx_keep.specs.HeldBack.{Holding}
use Rattle.lynx_keep.specs.Kept.{Terms}
use Rattle.lynx_server.specs.Serving.{Serving}
use Rattle.lynx_set.specs.Set.{Set}
use Rattle.lynx_weave.proofs.Fronts.{one_of}
use Rattle.lynx_store_files.specs.Terms.{StoreTerms}
use Rattle.lynx_restore.specs.Restored.{AreStored, IsStored}

-- the servers below that number have their stores
abbrev pub AreStoredBelow : {L : Type 0} → Terms L → StoreTerms L → List ℕ → Set → ℕ → List History → Type 0
AreStoredBelow terms stores folder set number parts =
    (server : ℕ) (front : History) → server < number → slice_get parts server ≡ Some front → IsStored terms stores folder set server front

pub stored_more : {L : Type 0} (terms : Terms L) (stores : StoreTerms L) (folder : List ℕ) (set : Set) (number : ℕ) (parts : List History) (last : History) →
    slice_get parts number ≡ Some last → IsStored terms stores folder set number last → AreStoredBelow terms stores folder set number parts →
    AreStoredBelow terms stores folder set (number + 1) parts
stored_more terms stores folder set number parts last there is below server front within at = elim (cases_lt server number) [
  | inl before ↦ below server front before at
  | inr past ↦
      let same : number ≡ server = omega (arith, within, past) in
      let alike : last ≡ front = one_of last front (slice_get parts number) there (ap (slice_get parts) same ∙ at) in
      subst (λ n. IsStored terms stores folder set n front) same (subst (IsStored terms stores folder set number) alike is)
]

pub stored_all : {L : Type 0} (terms : Terms L) (stores : StoreTerms L) (folder : List ℕ) (set : Set) (number : ℕ) (parts : List History) →
    length parts ≤ number → AreStoredBelow terms stores folder set number parts → AreStored terms stores folder set parts
stored_all terms stores folder set number parts all below server front at =
    let inside = slice_get_within parts server front at in
    below server front (omega (arith, inside, all)) at

-- a server that holds back is of the same set, over the same keeper
pub held_back : {K : Type 0} (opened : Serving K) (held : Serving (Holding K)) →
    held ≡ record {
      set = opened.set;
      server = opened.server;
      history = opened.history;
      held = opened.held;
      is_stopped = opened.is_stopped;
      opened = opened.opened;
      acknowledged = opened.acknowledged;
      keeper = record { inner = opened.keeper; waiting = []; changes = map.empty; faults = 0 };
    } →
    (held.set ≡ opened.set) × (held.keeper.inner ≡ opened.keeper)
held_back {K} opened held is = (ap (λ (s : Serving (Holding K)). s.set) is, ap (λ (s : Serving (Holding K)). s.keeper.inner) is)
