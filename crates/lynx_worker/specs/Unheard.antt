-- Of which of the messages that were sent to a server nothing was heard.
use Rattle.std.specs.Prelude.{◌≡◌, ◌≢◌, ◌⊎◌, ◌==◌, ℕ, Bool, false, true, List, [], ◌∷◌}
use Rattle.std.specs.List.{list_any}
use Rattle.lynx_worker.specs.declared.steps.Due.{Due}
use Rattle.lynx_worker.specs.declared.unheard.Sent.{Sent}

-- a message of that place was sent, and nothing was heard of it
abbrev pub IsUnheard : List Sent → ℕ → Type 0
IsUnheard [] place = ⊥
IsUnheard (sent ∷ others) place =
    ((sent.place ≡ place) × (sent.is_heard ≡ false)) ⊎ IsUnheard others place

-- each place that is unheard of in the one list is so in the other
abbrev pub StayUnheard : List Sent → List Sent → Type 0
StayUnheard old new = (place : ℕ) → IsUnheard old place → IsUnheard new place

-- each but that one
abbrev pub StayUnheardBut : ℕ → List Sent → List Sent → Type 0
StayUnheardBut heard old new =
    (place : ℕ) → place ≢ heard → IsUnheard old place → IsUnheard new place

-- one of the messages is of that place
abbrev pub has_place : List Due → ℕ → Bool
has_place dues place = list_any (λ due. due.place == place) dues

-- Each place that is unheard of and still owes one of these messages stays unheard of.
abbrev pub HearsAbsent : List Due → List Sent → List Sent → Type 0
HearsAbsent dues old new =
    (place : ℕ) → IsUnheard old place → has_place dues place ≡ true → IsUnheard new place
