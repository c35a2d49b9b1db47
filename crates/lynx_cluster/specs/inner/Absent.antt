-- Marks of numbers. A number past their end counts as marked.
use Rattle.std.specs.Prelude.{◌≡◌, ◌⊎◌, ◌<◌, ℕ, Bool, true, false, List, length, slice_get, unwrap_or, Option, Some, None}
use Rattle.lynx_cluster.specs.Closing.{HasOne, IsFirstAbsent}
use Rattle.lynx_cluster.specs.Sessions.{SessionState}

abbrev pub is_marked : List Bool → ℕ → Bool
is_marked marks number = unwrap_or (slice_get marks number) true

-- the number of each session is marked, and what else is marked was so before
pub record AreMarked (sessions : List SessionState) (old new : List Bool) : Type 0 where
  pub marked : (place : ℕ) (session : SessionState) → slice_get sessions place ≡ Some session
      → is_marked new session.number ≡ true
  pub only : (number : ℕ) → is_marked new number ≡ true
      → (is_marked old number ≡ true) ⊎ HasOne sessions number
  pub as_long : length new ≡ length old

-- the first number without a mark, none where all are marked
abbrev pub IsFirstUnmarked : List Bool → Option ℕ → Type 0
IsFirstUnmarked marks None = (number : ℕ) → is_marked marks number ≡ true
IsFirstUnmarked marks (Some number) =
    (is_marked marks number ≡ false)
    × ((other : ℕ) → other < number → is_marked marks other ≡ true)

-- the first of so many numbers that no session has, none where each is one session's
abbrev pub IsAbsent : ℕ → List SessionState → Option ℕ → Type 0
IsAbsent made sessions None = (number : ℕ) → number < made → HasOne sessions number
IsAbsent made sessions (Some number) = (number < made) × IsFirstAbsent sessions number
