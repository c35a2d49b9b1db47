-- What a search for programs to blame keeps.
use Rattle.std.specs.Prelude.{◌<◌, ◌≤◌, ◌≡◌, Bool, false, true, not, ◌&&◌, ◌||◌, ℕ, ◌-◌, List, [], ◌++◌, All, length, nat_lt, if◌then◌else◌}
use Rattle.lynx_set.specs.Set.{Set}
use Rattle.lynx_reasons.specs.Culprits.{IsCulprit, Tells, are_late, candidates, fewest, first_three, programs_of, wants_looks}
use Rattle.lynx_reasons.specs.declared.culprit.Culprit.{Culprit}
use Rattle.lynx_reasons.specs.declared.search.Search.{Search}

-- what was found has so many programs in each case, and there are at most three
pub record Keeps (set : Set) (count : ℕ) (search : Search) : Type 0 where
  pub each : All (IsCulprit set count) search.found
  pub few : length search.found ≤ 3

-- so many programs of the set
pub record IsOf (set : Set) (count : ℕ) (culprit : Culprit) : Type 0 where
  pub counted : length (programs_of culprit) ≡ count
  pub programs : All (λ program. program < length set.programs) (programs_of culprit)

-- all of them have late blocks, or not all, as is asked
abbrev pub is_aimed : Set → Bool → Culprit → Bool
is_aimed set is_late culprit =
    if is_late then are_late set culprit else not (are_late set culprit)

-- candidates of one count are behind the search, which had so many looks for them
pub record Looked (accepted : Culprit → Bool) (budget : ℕ) (was_bound : Bool)
    (done : List Culprit) (search : Search) : Type 0 where
  pub found : search.found ≡ first_three accepted budget done
  pub left : length search.found < 3 → search.most - search.looks ≡ budget - length done
  pub within : search.looks ≤ search.most
  pub spent : search.is_bound ≡ true → search.looks ≡ search.most
  pub bound : search.is_bound
      ≡ (was_bound || (nat_lt budget (length done) && nat_lt (length search.found) 3))

-- from the one search to the other these candidates are looked at
pub record Goes (set : Set) (culprits : List Culprit) (old new : Search) : Type 0 where
  pub most : new.most ≡ old.most
  pub looked : (accepted : Culprit → Bool) → Tells set accepted → (budget : ℕ) (was_bound : Bool)
      (done : List Culprit) → Looked accepted budget was_bound done old
      → Looked accepted budget was_bound (done ++ culprits) new

-- a search that has only begun
pub record IsNew (search : Search) : Type 0 where
  pub found : search.found ≡ []
  pub looks : search.looks ≡ 0
  pub bound : search.is_bound ≡ false

-- it found what is to be found, and notes whether it ended for want of looks
pub record IsEnded (set : Set) (accepted : Culprit → Bool) (most : ℕ)
    (search : Search) : Type 0 where
  pub found : search.found ≡ fewest accepted most (candidates set)
  pub bound : search.is_bound ≡ wants_looks accepted most (candidates set)
  pub spent : search.is_bound ≡ true → search.looks ≡ most

abbrev pub Ends : Set → ℕ → Search → Type 0
Ends set most search =
    (accepted : Culprit → Bool) → Tells set accepted → IsEnded set accepted most search
