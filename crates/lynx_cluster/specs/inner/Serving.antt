-- What a worker does at its server: which hops it tells to be done, and which messages it finds to
-- be owed.
use Rattle.std.specs.Prelude.{◌≡◌, ◌≢◌, ◌⊎◌, ◌≤◌, ◌<◌, ◌+◌, ℕ, Bool, true, false, List, [], ◌∷◌, ◌++◌, IfSome, IsSome, Option, Some, length, max, slice_get}
use Rattle.std.specs.List.{AllByRecursion}
use Rattle.lynx_entry.specs.declared.answer.Delivered.{Delivered}
use Rattle.lynx_entry.specs.declared.answer.Delivered.TheVariants as delivered
use Rattle.lynx_entry.specs.declared.message.Message.{Message}
use Rattle.lynx_entry.specs.Entry.{History}
use Rattle.lynx_keep.specs.Kept.{Terms}
use Rattle.lynx_link.specs.declared.parcel.Parcel.{Parcel}
use Rattle.lynx_link.specs.declared.parcel.Parcel.TheVariants as parcels
use Rattle.lynx_names.specs.declared.chain.ChainId.{ChainId}
use Rattle.lynx_server.specs.Acts.{act_of}
use Rattle.lynx_server.specs.Owed.{Acknowledges, IsOwed, IsSender, OwesNothingBetween, sender_of}
use Rattle.lynx_server.specs.Serving.{Delivers, Serving}
use Rattle.lynx_set.specs.Lookups.{server_at}
use Rattle.lynx_set.specs.Set.{Set}
use Rattle.lynx_worker.specs.declared.steps.Due.{Due}
use Rattle.lynx_worker.specs.declared.steps.Heard.{Heard}
use Rattle.lynx_worker.specs.declared.steps.Owed.{Owed}
use Rattle.lynx_worker.specs.declared.steps.Acknowledgement.{Acknowledgement}

-- the hop of the message was done, now or before
abbrev pub was_done : Delivered → Bool
was_done (delivered.Done stamp results next) = true
was_done (delivered.Repeat stamp results next) = true
was_done given = false

-- the hop of each of these acknowledgements has its entry in the history
abbrev pub AreDone : History → List Acknowledgement → Type 0
AreDone history acknowledgements =
    AllByRecursion (λ acknowledgement. IsSome (act_of acknowledgement.chain acknowledgement.hop
    history)) acknowledgements

-- where all acknowledgements before are of hops that were done, so are all acknowledgements after
abbrev pub TellsDone : History → List Acknowledgement → History → List Acknowledgement → Type 0
TellsDone before told after telling = AreDone before told → AreDone after telling

-- that acknowledgement was added, or none
abbrev pub IsNotedIn : Acknowledgement → List Acknowledgement → List Acknowledgement → Type 0
IsNotedIn acknowledgement old new = (new ≡ old) ⊎ (new ≡ old ++ acknowledgement ∷ [])

-- an acknowledgement of the hop for that server was added, or none; and none where it wasn't done
abbrev pub NotesDone : Option ℕ → ChainId → ℕ → Delivered → List Acknowledgement
    → List Acknowledgement → Type 0
NotesDone to chain hop given old new =
    (new ≡ old)
    ⊎ ((was_done given ≡ true) × ((server : ℕ) × (to ≡ Some server)
    × (new ≡ old ++ (record { to = server; chain = chain; hop = hop }) ∷ [])))

-- No acknowledgement was added, or one that is for the server which sends the message of its hop,
-- as the hop's entry tells.
abbrev pub NamesSender : {K : Type 0} → Serving K → List Acknowledgement → List Acknowledgement
    → Type 0
NamesSender serving old new =
    (new ≡ old)
    ⊎ ((acknowledgement : Acknowledgement) × (new ≡ old ++ acknowledgement ∷ [])
    × IsSender serving.set acknowledgement.hop (act_of acknowledgement.chain acknowledgement.hop
    serving.history)
    acknowledgement.to)

-- that the sender of the hop was acknowledged is noted with the place of its entry, or isn't
abbrev pub HearsOf : ℕ → ChainId → ℕ → History → List Heard → List Heard → Type 0
HearsOf from chain hop history old new =
    (new ≡ old)
    ⊎ ((place : ℕ) × (slice_get history place ≡ sender_of chain hop history)
    × (new ≡ old ++ (record { from = from; place = place }) ∷ []))

-- it is that message, owed by that place, for the server of its hop
pub record IsDueOf (set : Set) (place : ℕ) (message : Message) (due : Due) : Type 0 where
  pub place_is : due.place ≡ place
  pub message_is : due.message ≡ message
  pub to_is : server_at set message.program message.hop ≡ Some due.to

-- What a parcel does at a server: its message is delivered there, or its acknowledgement is noted
-- there of just that hop.
abbrev pub Serves : {K : Type 0} → Terms K → Serving K → Parcel → Serving K → Type 0
Serves terms old (parcels.Message message) new =
    (old.is_stopped ≡ true → new ≡ old)
    × (old.is_stopped ≡ false → (given : Delivered) × Delivers terms old message given new)
Serves terms old (parcels.Done chain hop) new = Acknowledges old chain hop new

-- These are all messages that the server owes from one place on and before another, in order, each
-- with the server that it is for.
abbrev pub AreOwedBetween : {K : Type 0} → Serving K → ℕ → List Due → ℕ → Type 0
AreOwedBetween serving from [] to = (from ≤ to) × OwesNothingBetween serving from to
AreOwedBetween serving from (due ∷ dues) to =
    (from ≤ due.place) × OwesNothingBetween serving from due.place
    × IsOwed serving due.place due.message
    × (server_at serving.set due.message.program due.message.hop ≡ Some due.to)
    × AreOwedBetween serving (due.place + 1) dues to

-- These are all messages that the server owes from where it was asked, in order, up to a next
-- place. Where the length of its history is told, they are all that it owes from there on.
pub record OwesFrom {K : Type 0} (serving : Serving K) (owed : Owed) : Type 0 where
  pub next : ℕ
  pub between : AreOwedBetween serving owed.from owed.dues.items next
  pub end : IfSome owed.end (λ len. (len ≡ length serving.history) × (next ≡ max owed.from len))

-- each of these is a message that the server owes, with the server that it is for
abbrev pub AreOwed : {K : Type 0} → Serving K → List Due → Type 0
AreOwed serving dues =
    AllByRecursion (λ due. IsOwed serving due.place due.message
    × (server_at serving.set due.message.program due.message.hop ≡ Some due.to)) dues

-- one of these is of that place
abbrev pub HasPlace : List Due → ℕ → Type 0
HasPlace [] place = ⊥
HasPlace (due ∷ dues) place = (due.place ≡ place) ⊎ HasPlace dues place

-- none of the places is below one before it
abbrev pub AreRising : List ℕ → Type 0
AreRising places =
    (j k one other : ℕ) → j < k → slice_get places j ≡ Some one → slice_get places k ≡ Some other
    → one ≤ other

-- each of the places that owes a message is among these
abbrev pub OwesOnlyAt : {K : Type 0} → Serving K → List ℕ → List Due → Type 0
OwesOnlyAt serving places dues =
    (k place : ℕ) (message : Message) → slice_get places k ≡ Some place
    → IsOwed serving place message → HasPlace dues place

-- the message that was found at a place was added where that place was asked for, and nowhere else
abbrev pub AddsFound : Set → ℕ → ℕ → Message → List Due → List Due → Type 0
AddsFound set place found message old new =
    ((found ≢ place) × (new ≡ old))
    ⊎ ((found ≡ place) × ((due : Due) × IsDueOf set found message due × (new ≡ old ++ due ∷ [])))
