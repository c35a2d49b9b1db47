-- What contracts see of a ring, and of its two ends.
use Rattle.std.specs.Prelude.{ℕ, ◌≡◌, ◌+◌, ◌≤◌, List, [], ◌∷◌, ◌++◌}
use mathlib.Core.List.{IsPrefix}
use denote.RawPtr.{Ptr}
use Rattle.rtrb.specs.Shared.{Names}
use Rattle.rtrb.specs.declared.end.End.{End}
use Rattle.lynx_link.specs.declared.parcel.Parcel.{Parcel}
use Rattle.lynx_link.specs.declared.ring.TheConstants.{RING_PARCELS}

-- which ring it is: where it lies in memory, and its names in proofs
pub record Ring : Type 0 where
  pub words : Ptr
  pub slots : Ptr
  pub names : Names

abbrev pub ring_of : {T A P : Type 0} → End T A P → Ring
ring_of end = record { words = end.words; slots = end.slots; names = end.names }

-- the end that parcels go in at: its ring, all that was sent, and for how many more there is surely
-- room
pub record Sending : Type 0 where
  pub ring : Ring
  pub sent : List Parcel
  pub room : ℕ

-- the end that they come out at: its ring, all that was received, and what surely comes next
pub record Receiving : Type 0 where
  pub ring : Ring
  pub received : List Parcel
  pub next : List Parcel

-- the two ends of a ring that nothing went into
pub record IsNewRing (sending : Sending) (receiving : Receiving) : Type 0 where
  pub same_ring : receiving.ring ≡ sending.ring
  pub nothing_sent : sending.sent ≡ []
  pub nothing_received : receiving.received ≡ []
  pub all_room : sending.room ≡ RING_PARCELS

-- one more parcel was sent, and it took no more than its own room
pub record Sends (old new : Sending) (parcel : Parcel) : Type 0 where
  pub sent : new.sent ≡ old.sent ++ parcel ∷ []
  pub room : old.room ≤ new.room + 1

-- one more parcel was received: the next, where that was known
pub record Receives (old new : Receiving) (parcel : Parcel) : Type 0 where
  pub received : new.received ≡ old.received ++ parcel ∷ []
  pub next : IsPrefix old.next (parcel ∷ new.next)

-- no parcel was sent, and more room may be known
pub record SeesRoom (old new : Sending) : Type 0 where
  pub ring : new.ring ≡ old.ring
  pub sent : new.sent ≡ old.sent
  pub room : old.room ≤ new.room

-- no parcel was received, and more of the next may be known
pub record SeesParcels (old new : Receiving) : Type 0 where
  pub ring : new.ring ≡ old.ring
  pub received : new.received ≡ old.received
  pub next : IsPrefix old.next new.next
