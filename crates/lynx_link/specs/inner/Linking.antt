-- How the rings of all pairs come about, one after another.
use Rattle.std.specs.Prelude.{ℕ, ◌≡◌, ◌<◌, ◌≤◌, ◌+◌, List, [], ◌∷◌, zero, suc, length}
use Rattle.lynx_link.specs.Rings.{Sending, Receiving, IsNewRing}
use Rattle.lynx_link.specs.EndLists.{EndLists, with_sender, with_receiver}
use Rattle.lynx_link.specs.Links.{to_of, from_of, IsLinked}

-- the item at that place is changed
abbrev pub changed_at : {X : Type 0} → (X → X) → List X → ℕ → List X
changed_at change [] place = []
changed_at change (item ∷ items) zero = change item ∷ items
changed_at change (item ∷ items) (suc place) = item ∷ changed_at change items place

-- a new ring leads from one server to the other, each end behind those that they have
pub record Connects (old new : List EndLists) (sender receiver : ℕ) : Type 0 where
  pub sending : Sending
  pub receiving : Receiving
  pub is_new : IsNewRing sending receiving
  pub added : new
      ≡ changed_at (with_receiver receiving) (changed_at (with_sender sending) old sender) receiver

-- the rings of each server before this one, and its own rings to each server before that one
pub record AreSoFar (servers sender receiver : ℕ) (ends : List EndLists) : Type 0 where
  pub counted : length ends ≡ servers
  pub to_before : (server : ℕ) → server < sender → length (to_of ends server) ≡ servers
  pub to_here : length (to_of ends sender) ≡ receiver
  pub to_after : (server : ℕ) → sender < server → length (to_of ends server) ≡ 0
  pub from_before : (server : ℕ) → server < receiver → length (from_of ends server) ≡ sender + 1
  pub from_after : (server : ℕ) → receiver ≤ server → server < servers
      → length (from_of ends server) ≡ sender
  pub linked_before : (server other : ℕ) → server < sender → other < servers
      → IsLinked ends server other
  pub linked_here : (other : ℕ) → other < receiver → IsLinked ends sender other
