-- What a new ring adds to the ends of all servers.
use Rattle.std.proofs.Common.{◌≡◌, ◌≢◌, ℕ, zero, suc, ◌<◌, List, [], ◌∷◌, ◌++◌, length, replicate, Some, slice_get, slice_index_or, slice_set, refl, ap, arith}
use Rattle.lynx_link.specs.Rings.{Sending, Receiving}
use Rattle.lynx_link.specs.EndLists.{EndLists, no_ends, with_sender, with_receiver}
use Rattle.lynx_link.specs.Links.{to_of, from_of}
use Rattle.lynx_link.specs.inner.Linking.{changed_at}

-- a change in place, as the program writes it
pub set_changed : {X : Type 0} (change : X → X) (items : List X) (place : ℕ) (other : X) →
    slice_set items place (change (slice_index_or items place other)) ≡ changed_at change items place
set_changed change [] place other = refl
set_changed change (item ∷ items) zero other = refl
set_changed change (item ∷ items) (suc place) other = ap (λ rest. item ∷ rest) (set_changed change items place other)

pub length-changed_at : {X : Type 0} (change : X → X) (items : List X) (place : ℕ) → length (changed_at change items place) ≡ length items
length-changed_at change [] place = refl
length-changed_at change (item ∷ items) zero = refl
length-changed_at change (item ∷ items) (suc place) = ap suc (length-changed_at change items place)

-- what stood in a list stands there with more behind it
get_append : {X : Type 0} (items more : List X) (place : ℕ) (item : X) → slice_get items place ≡ Some item →
    slice_get (items ++ more) place ≡ Some item
get_append [] more place item is = cc
get_append (first ∷ items) more zero item is = is
get_append (first ∷ items) more (suc place) item is = get_append items more place item is

-- the last
pub get_last : {X : Type 0} (items : List X) (item : X) → slice_get (items ++ item ∷ []) (length items) ≡ Some item
get_last [] item = refl
get_last (first ∷ items) item = get_last items item

pub to_of-replicate : (servers server : ℕ) → to_of (replicate servers no_ends) server ≡ []
to_of-replicate zero server = refl
to_of-replicate (suc servers) zero = refl
to_of-replicate (suc servers) (suc server) = to_of-replicate servers server

pub from_of-replicate : (servers server : ℕ) → from_of (replicate servers no_ends) server ≡ []
from_of-replicate zero server = refl
from_of-replicate (suc servers) zero = refl
from_of-replicate (suc servers) (suc server) = from_of-replicate servers server

module _ (sending : Sending) where
  pub to_of-with_sender : (ends : List EndLists) (server : ℕ) → server < length ends →
      to_of (changed_at (with_sender sending) ends server) server ≡ to_of ends server ++ sending ∷ []
  to_of-with_sender [] server within = absurd (omega (arith, within))
  to_of-with_sender (own ∷ ends) zero within = refl
  to_of-with_sender (own ∷ ends) (suc server) within = to_of-with_sender ends server (omega (arith, within))

  pub to_of-with_sender_other : (ends : List EndLists) (server other : ℕ) → other ≢ server →
      to_of (changed_at (with_sender sending) ends server) other ≡ to_of ends other
  to_of-with_sender_other [] server other apart = refl
  to_of-with_sender_other (own ∷ ends) zero zero apart = absurd (apart refl)
  to_of-with_sender_other (own ∷ ends) zero (suc other) apart = refl
  to_of-with_sender_other (own ∷ ends) (suc server) zero apart = refl
  to_of-with_sender_other (own ∷ ends) (suc server) (suc other) apart =
      to_of-with_sender_other ends server other (λ same. apart (ap suc same))

  pub from_of-with_sender : (ends : List EndLists) (server other : ℕ) →
      from_of (changed_at (with_sender sending) ends server) other ≡ from_of ends other
  from_of-with_sender [] server other = refl
  from_of-with_sender (own ∷ ends) zero zero = refl
  from_of-with_sender (own ∷ ends) zero (suc other) = refl
  from_of-with_sender (own ∷ ends) (suc server) zero = refl
  from_of-with_sender (own ∷ ends) (suc server) (suc other) = from_of-with_sender ends server other

  pub to_stays : (ends : List EndLists) (server other place : ℕ) (old : Sending) → slice_get (to_of ends other) place ≡ Some old →
      slice_get (to_of (changed_at (with_sender sending) ends server) other) place ≡ Some old
  to_stays [] server other place old is = is
  to_stays (own ∷ ends) zero zero place old is = get_append own.to (sending ∷ []) place old is
  to_stays (own ∷ ends) zero (suc other) place old is = is
  to_stays (own ∷ ends) (suc server) zero place old is = is
  to_stays (own ∷ ends) (suc server) (suc other) place old is = to_stays ends server other place old is

module _ (receiving : Receiving) where
  pub from_of-with_receiver : (ends : List EndLists) (server : ℕ) → server < length ends →
      from_of (changed_at (with_receiver receiving) ends server) server ≡ from_of ends server ++ receiving ∷ []
  from_of-with_receiver [] server within = absurd (omega (arith, within))
  from_of-with_receiver (own ∷ ends) zero within = refl
  from_of-with_receiver (own ∷ ends) (suc server) within = from_of-with_receiver ends server (omega (arith, within))

  pub from_of-with_receiver_other : (ends : List EndLists) (server other : ℕ) → other ≢ server →
      from_of (changed_at (with_receiver receiving) ends server) other ≡ from_of ends other
  from_of-with_receiver_other [] server other apart = refl
  from_of-with_receiver_other (own ∷ ends) zero zero apart = absurd (apart refl)
  from_of-with_receiver_other (own ∷ ends) zero (suc other) apart = refl
  from_of-with_receiver_other (own ∷ ends) (suc server) zero apart = refl
  from_of-with_receiver_other (own ∷ ends) (suc server) (suc other) apart =
      from_of-with_receiver_other ends server other (λ same. apart (ap suc same))

  pub to_of-with_receiver : (ends : List EndLists) (server other : ℕ) →
      to_of (changed_at (with_receiver receiving) ends server) other ≡ to_of ends other
  to_of-with_receiver [] server other = refl
  to_of-with_receiver (own ∷ ends) zero zero = refl
  to_of-with_receiver (own ∷ ends) zero (suc other) = refl
  to_of-with_receiver (own ∷ ends) (suc server) zero = refl
  to_of-with_receiver (own ∷ ends) (suc server) (suc other) = to_of-with_receiver ends server other

  pub from_stays : (ends : List EndLists) (server other place : ℕ) (old : Receiving) → slice_get (from_of ends other) place ≡ Some old →
      slice_get (from_of (changed_at (with_receiver receiving) ends server) other) place ≡ Some old
  from_stays [] server other place old is = is
  from_stays (own ∷ ends) zero zero place old is = get_append own.from (receiving ∷ []) place old is
  from_stays (own ∷ ends) zero (suc other) place old is = is
  from_stays (own ∷ ends) (suc server) zero place old is = is
  from_stays (own ∷ ends) (suc server) (suc other) place old is = from_stays ends server other place old is
