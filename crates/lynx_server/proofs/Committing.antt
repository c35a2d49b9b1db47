-- What a commit makes of a keeper that had kept a server's history and tables.
use Rattle.std.proofs.Common.{◌≤◌, ◌++◌, ◌∷◌, [], Err, inr, refl, subst}
use Rattle.std.specs.Prelude.{IsErrOf}
use Rattle.lynx_cells.specs.Database.{ChangeSet}
use Rattle.lynx_set.specs.Set.{Set}
use Rattle.lynx_entry.specs.declared.entry.Entry.{Entry}
use Rattle.lynx_entry.specs.Entry.{History}
use Rattle.lynx_keep.specs.Kept.{HasRisen, KeptState, RestsOn, Terms, with_entry}
use Rattle.lynx_keep.specs.declared.fault.KeepFault.{KeepFault}
use Rattle.lynx_keep.specs.declared.fault.KeepFault.TheVariants.{Failed, Memory}
use Rattle.lynx_server.specs.Keeping.{kept_of}
use Rattle.lynx_server.specs.inner.Keeping.{AreChangesOf, Commits, HasKept, StopLeaves}
use Rattle.lynx_server.proofs.Growing.{kept_more}

-- a stop leaves what was kept, or that with the entry
left : {K : Type 0} (terms : Terms K) (set : Set) (history : History) (entry : Entry) (changes : ChangeSet) (old new : K) → AreChangesOf set history entry changes →
    (terms.sound new → (before : KeptState) → terms.keeps old before → terms.leaves new before (with_entry before entry changes)) →
    StopLeaves terms old new (kept_of set history) (kept_of set (history ++ entry ∷ []))
left terms set history entry changes old new are stop =
    inr (λ sound keeps. subst (terms.leaves new (kept_of set history)) (kept_more set history entry changes are) (stop sound (kept_of set history) keeps))

-- the entry is kept
pub committed : {K : Type 0} (terms : Terms K) (set : Set) (history : History) (entry : Entry) (changes : ChangeSet) (old new : K) → AreChangesOf set history entry changes →
    (terms.sound new → terms.sound old) → terms.counted old ≤ terms.counted new →
    ((before : KeptState) → RestsOn terms old new before (with_entry before entry changes)) →
    (terms.sound new → (before : KeptState) → terms.keeps old before → terms.keeps new (with_entry before entry changes)) →
    (terms.sound new → (before : KeptState) → terms.keeps old before → terms.leaves new before (with_entry before entry changes)) →
    HasKept terms old new (kept_of set history) (kept_of set (history ++ entry ∷ []))
committed terms set history entry changes old new are sound_before counts rests ok stop = record {
  goes = record {
    sound_before = sound_before;
    keeps_after = λ sound keeps. subst (terms.keeps new) (kept_more set history entry changes are) (ok sound (kept_of set history) keeps);
    counts = counts;
    rests = subst (RestsOn terms old new (kept_of set history)) (kept_more set history entry changes are) (rests (kept_of set history));
  };
  stop = left terms set history entry changes old new are stop;
}

-- it isn't kept, or that is unknown
pub not_committed : {K X : Type 0} (terms : Terms K) (set : Set) (history : History) (entry : Entry) (changes : ChangeSet) (old new : K) (fault : KeepFault) →
    AreChangesOf set history entry changes → (terms.sound new → terms.sound old) → terms.counted old ≤ terms.counted new →
    (IsErrOf {T = X} (Err fault) Memory → (before : KeptState) → RestsOn terms old new before before) →
    (terms.sound new → IsErrOf {T = X} (Err fault) Memory → (before : KeptState) → terms.keeps old before → terms.keeps new before) →
    (IsErrOf {T = X} (Err fault) Failed → HasRisen (terms.counted old) (terms.counted new)) →
    (terms.sound new → (before : KeptState) → terms.keeps old before → terms.leaves new before (with_entry before entry changes)) →
    Commits {K = K} {X = X} terms old new (kept_of set history) (kept_of set (history ++ entry ∷ [])) (Err fault)
not_committed terms set history entry changes old new Memory are sound_before counts rests memory failed stop = record {
  sound_before = sound_before;
  keeps_after = λ sound keeps. memory sound refl (kept_of set history) keeps;
  counts = counts;
  rests = rests refl (kept_of set history);
}
not_committed terms set history entry changes old new Failed are sound_before counts rests memory failed stop = record {
  sound_before = sound_before;
  rose = failed refl;
  counts = counts;
  stop = left terms set history entry changes old new are stop;
}
