-- What a worker sends.
use Rattle.std.specs.Prelude.{◌≡◌, ◌≢◌, ◌==◌, ◌&&◌, ◌+◌, ◌-◌, ◌^◌, ℕ, List, [], ◌∷◌, ◌++◌, Option, None, Some, if◌then◌else◌, is_none, length, map, max, min, nat_lt, slice_get}
use Rattle.std.specs.List.{filter}
use Rattle.std.specs.Option.{option_map_or}
use Rattle.lynx_link.specs.EndLists.{EndLists}
use Rattle.lynx_link.specs.declared.parcel.Parcel.{Parcel}
use Rattle.lynx_link.specs.declared.parcel.Parcel.TheVariants.{Message}
use Rattle.lynx_worker.specs.declared.steps.Due.{Due}
use Rattle.lynx_worker.specs.declared.steps.Owed.{Owed}

-- all that was sent to that server by these ends
abbrev pub sent_to : EndLists → ℕ → List Parcel
sent_to ends server = option_map_or (λ end. end.sent) (slice_get ends.to server) []

-- the parcel was sent to that server, behind all before, and nothing else was sent
abbrev pub SendsTo : EndLists → ℕ → Parcel → EndLists → Type 0
SendsTo old to parcel new =
    (server : ℕ) → sent_to new server
    ≡ (if server == to then sent_to old server ++ parcel ∷ [] else sent_to old server)

-- nothing was sent
abbrev pub SendsNothing : EndLists → EndLists → Type 0
SendsNothing old new = (server : ℕ) → sent_to new server ≡ sent_to old server

-- those of the messages that are for that server
abbrev pub dues_for : ℕ → List Due → List Due
dues_for server dues = filter (λ due. server == due.to) dues

-- the parcels of messages
abbrev pub parcels_of : List Due → List Parcel
parcels_of dues = map (λ due. Message due.message) dues

-- all of these messages were sent, each to its server, in order, and nothing else
abbrev pub SendsAll : List Due → EndLists → EndLists → Type 0
SendsAll dues old new =
    (server : ℕ) → sent_to new server ≡ sent_to old server ++ parcels_of (dues_for server dues)

-- the place of the first of these, or that place where there is none
abbrev pub first_or : Option ℕ → List Due → Option ℕ
first_or end [] = end
first_or end (due ∷ dues) = Some due.place

-- A beginning of these messages was sent to their server, in order, and nothing else. Its route
-- lags from the first that wasn't sent, or from that place where all were.
pub record SendsBeginning (server : ℕ) (dues : List Due) (old : EndLists) (end : Option ℕ)
    (new : EndLists) (lag : Option ℕ) : Type 0 where
  pub sent : List Due
  pub left : List Due
  pub all : dues ≡ sent ++ left
  pub goes : sent_to new server ≡ sent_to old server ++ parcels_of sent
  pub lags : lag ≡ first_or end left

-- By a route that lags nothing is sent, and it lags from there on; by another a beginning.
abbrev pub Advances : ℕ → List Due → EndLists → Option ℕ → EndLists → Option ℕ → Type 0
Advances server dues old None new lag = SendsBeginning server dues old None new lag
Advances server dues old (Some place) new lag =
    (sent_to new server ≡ sent_to old server) × (lag ≡ Some place)

-- nothing is sent where there is no route
abbrev pub GoesOn : ℕ → List Due → EndLists → Option (Option ℕ) → EndLists → Option (Option ℕ)
    → Type 0
GoesOn server dues old None new None = sent_to new server ≡ sent_to old server
GoesOn server dues old (Some before) new (Some after) = Advances server dues old before new after
GoesOn server dues old before new after = ⊥

-- Of these messages each server was sent a beginning of those that are for it, in order, unless its
-- route lagged; and its route lags from the first that it wasn't sent. The lists tell from where
-- each server's route lags.
abbrev pub Sends : List Due → EndLists → List (Option ℕ) → EndLists → List (Option ℕ) → Type 0
Sends dues old before new after =
    (server : ℕ) → GoesOn server (dues_for server dues) old (slice_get before server) new
    (slice_get after server)

-- the place behind that one
abbrev pub behind : ℕ → ℕ
behind place = min (place + 1) (2 ^ 64 - 1)

-- a place behind those of these messages, which are in order
abbrev pub behind_all : ℕ → List Due → ℕ
behind_all place [] = place
behind_all place (due ∷ dues) = behind_all (behind due.place) dues

-- how far a worker has come that goes over what is owed
abbrev pub reached_after : ℕ → Owed → ℕ
reached_after reached owed =
    let passed : ℕ = behind_all reached owed.dues.items in
    option_map_or (λ end. max passed end) owed.end passed

-- the messages before the first that lies at that place or behind it
abbrev pub before : ℕ → List Due → List Due
before place [] = []
before place (due ∷ dues) = if nat_lt due.place place then due ∷ before place dues else []

-- From where a route lags to which all was sent that was found from that place on, where the worker
-- has come so far: behind what was found, if there may be more before that.
abbrev pub lag_behind : ℕ → Owed → ℕ → Option ℕ
lag_behind from owed reached =
    let found : List Due = before reached owed.dues.items in
    if is_none owed.end && (length found == length owed.dues.items)
    && nat_lt (behind_all from found) reached then Some (behind_all from found) else None

-- A route that lags is sent a beginning of the messages that are for it and lie before how far the
-- worker has come, in order, and no other route is sent anything; then it lags from the first that
-- wasn't sent. One that doesn't lag is sent nothing.
abbrev pub CatchesUp : ℕ → Owed → ℕ → EndLists → Option ℕ → EndLists → Option ℕ → Type 0
CatchesUp to owed reached old None new lag = SendsNothing old new × (lag ≡ None)
CatchesUp to owed reached old (Some from) new lag =
    ((server : ℕ) → server ≢ to → sent_to new server ≡ sent_to old server)
    × SendsBeginning to (dues_for to (before reached owed.dues.items)) old
    (lag_behind from owed reached) new lag
