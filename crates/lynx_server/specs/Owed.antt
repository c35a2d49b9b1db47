-- Next messages that were not acknowledged.
use Rattle.std.specs.Prelude.{◌≡◌, ◌≤◌, ◌<◌, ◌-◌, ℕ, zero, suc, Bool, true, false, List, length, slice_get, unwrap_or, if◌then◌else◌, ◌==◌, Option, Some, None}
use Rattle.lynx_names.specs.declared.chain.ChainId.{ChainId}
use Rattle.lynx_entry.specs.declared.entry.Entry.{Entry}
use Rattle.lynx_entry.specs.declared.entry.Entry.TheVariants.{Hop}
use Rattle.lynx_entry.specs.Entry.{History}
use Rattle.lynx_entry.specs.declared.message.Message.{Message}
use Rattle.lynx_rules.specs.Messages.{next_message}
use Rattle.lynx_set.specs.Lookups.{server_at}
use Rattle.lynx_set.specs.Set.{Set}
use Rattle.lynx_server.specs.Acts.{act_of}
use Rattle.lynx_server.specs.Serving.{Serving}

-- the next message of the entry at the place was acknowledged
abbrev pub is_acknowledged : List Bool → ℕ → Bool
is_acknowledged marks place = unwrap_or (slice_get marks place) false

-- the place is marked, and no other
abbrev pub HasMarked : List Bool → ℕ → List Bool → Type 0
HasMarked old place new =
    (other : ℕ) → is_acknowledged new other
    ≡ (if other == place then true else is_acknowledged old other)

-- the next message of the entry at the place, unless it was acknowledged
abbrev pub owed_by : {K : Type 0} → Serving K → ℕ → Entry → Option Message
owed_by serving place entry =
    if is_acknowledged serving.acknowledged place then None else next_message serving.set entry

-- this message is owed by the entry at the place
pub record IsOwed {K : Type 0} (serving : Serving K) (place : ℕ) (message : Message) : Type 0 where
  pub entry : Entry
  pub there : slice_get serving.history place ≡ Some entry
  pub owed : owed_by serving place entry ≡ Some message

-- from this place on nothing is owed before that place
abbrev pub OwesNothingBetween : {K : Type 0} → Serving K → ℕ → ℕ → Type 0
OwesNothingBetween serving from place =
    (other : ℕ) → from ≤ other → other < place → (message : Message) → IsOwed serving other message
    → ⊥

-- The first message that is owed from this place on, and where.
abbrev pub IsFirstOwed : {K : Type 0} → Serving K → ℕ → Option (ℕ × Message) → Type 0
IsFirstOwed serving from None = OwesNothingBetween serving from (length serving.history)
IsFirstOwed serving from (Some found) =
    (from ≤ found.0) × IsOwed serving found.0 found.1 × OwesNothingBetween serving from found.0

-- but for its marks it is the same server
pub record IsMarked {K : Type 0} (old : Serving K) (place : ℕ) (new : Serving K) : Type 0 where
  pub marked : HasMarked old.acknowledged place new.acknowledged
  pub else_same : new ≡ record old { acknowledged = new.acknowledged }

-- the entry that sends that hop, if it is here
abbrev pub sender_of : ChainId → ℕ → History → Option Entry
sender_of chain zero history = None
sender_of chain (suc before) history = act_of chain before history

-- the server of the hop before that of the entry
abbrev pub IsSender : Set → ℕ → Option Entry → ℕ → Type 0
IsSender set hop (Some (Hop ran)) server =
    server_at set ran.message.program (hop - 1) ≡ Some server
IsSender set hop other server = ⊥

-- the place of the entry is marked
pub record IsNoted {K : Type 0} (old : Serving K) (entry : Entry) (new : Serving K) : Type 0 where
  pub place : ℕ
  pub there : slice_get old.history place ≡ Some entry
  pub marked : IsMarked old place new

-- the sender's place is marked, where there is a sender
abbrev pub Notes : {K : Type 0} → Serving K → Option Entry → Serving K → Type 0
Notes old None new = new ≡ old
Notes old (Some entry) new = IsNoted old entry new

-- An acknowledgement of that hop of the chain.
abbrev pub Acknowledges : {K : Type 0} → Serving K → ChainId → ℕ → Serving K → Type 0
Acknowledges old chain hop new = Notes old (sender_of chain hop old.history) new
