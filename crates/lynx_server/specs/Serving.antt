-- What contracts see of a server over its keeper, and what a call leaves of it.
use Rattle.std.specs.Prelude.{length, ◌==◌, filter, not, unwrap_or, if◌then◌else◌, ◌≡◌, ◌≤◌, ℕ, Bool, true, false, List, Option, None, refl}
use Rattle.std.specs.Coded.{Coded, code_by, coded×, coded_ℕ, coded_bool, coded_list}
use Rattle.lynx_set.specs.Set.{Set}
use Rattle.lynx_set.specs.contracts.set.ChainSet as set
use Rattle.lynx_entry.specs.contracts.entry.Entry as entry
use Rattle.lynx_entry.specs.contracts.message.Message as message
use Rattle.lynx_entry.specs.declared.answer.Answer.{Answer}
use Rattle.lynx_entry.specs.declared.answer.Answer.TheVariants.{Stopped, Memory}
use Rattle.lynx_entry.specs.declared.answer.Delivered.{Delivered}
use Rattle.lynx_entry.specs.declared.answer.Delivered.TheVariants.{Full, Stopped as StoppedThen, Memory as WithoutMemory}
use Rattle.lynx_names.specs.declared.limits.TheConstants.{MAX_HELD}
use Rattle.lynx_rules.specs.Deliveries.{Delivers as DeliveredSo, delivery}
use Rattle.lynx_entry.specs.declared.entry.Entry.{Entry}
use Rattle.lynx_entry.specs.declared.message.Message.{Message}
use Rattle.lynx_entry.specs.declared.request.Request.{Request}
use Rattle.lynx_entry.specs.Entry.{History}
use Rattle.lynx_keep.specs.Kept.{HasRisen, RestsOn, Terms}
use Rattle.lynx_rules.specs.Answers.{Begins as AnsweredSo, answer}
use Rattle.std.specs.Prelude.{Some}
use Rattle.lynx_turn.specs.Held.{is_for, least_of}
use Rattle.lynx_rules.specs.Lawful.{number_at}
use Rattle.lynx_rules.specs.Turns.{turn_of}
use Rattle.lynx_server.specs.declared.server.Woken.{Woken}
use Rattle.lynx_server.specs.Books.{BooksState}
use Rattle.lynx_server.specs.History.{grown}
use Rattle.lynx_server.specs.Keeping.{kept_of}

-- a server over a keeper
pub record Serving (K : Type 0) : Type 0 where
  pub set : Set
  pub server : ℕ
  pub history : History
  pub held : List Message
  -- its keeper failed, and it answers nothing until it is reopened
  pub is_stopped : Bool
  -- how often its keeper had failed when it was opened
  pub opened : ℕ
  -- whether the next message of the entry at each place was acknowledged; not, past the end
  pub acknowledged : List Bool
  pub keeper : K

-- a server is stored as the tuple of its fields
abbrev pub serving_code : {K : Type 0} → Coded K → Coded (Serving K)
serving_code {K} keeper =
    code_by (Set × (ℕ × (History × (List Message × (Bool × (ℕ × (List Bool × K)))))))
    (coded× set.the_row.coded
    (coded× coded_ℕ
    (coded× (coded_list entry.the_row.coded)
    (coded× (coded_list message.the_row.coded)
    (coded× coded_bool (coded× coded_ℕ (coded× (coded_list coded_bool) keeper)))))))
    (λ s. (
      s.set,
      (s.server, (s.history, (s.held, (s.is_stopped, (s.opened, (s.acknowledged, s.keeper)))))),
    ))
    (λ p. record {
      set = p.0;
      server = p.1.0;
      history = p.1.1.0;
      held = p.1.1.1.0;
      is_stopped = p.1.1.1.1.0;
      opened = p.1.1.1.1.1.0;
      acknowledged = p.1.1.1.1.1.1.0;
      keeper = p.1.1.1.1.1.1.1;
    })
    (λ _. refl)

-- no draw is out; the keeper has history and tables, unless the server stopped, which it did where
-- the keeper failed; each entry has room for its mark
pub record IsServing {K : Type 0} (terms : Terms K) (books : BooksState) (is_stopped : Bool)
    (opened : ℕ) (marks_room : ℕ) (keeper : K) : Type 0 where
  pub free : books.out ≡ None
  pub kept : is_stopped ≡ false → terms.sound keeper
      → terms.keeps keeper (kept_of books.set books.history)
  pub opened_before : opened ≤ terms.counted keeper
  pub stopped : is_stopped ≡ true → HasRisen opened (terms.counted keeper)
  pub markable : length books.history ≤ marks_room

-- a call of a server added this entry or none, and it holds these messages now
pub record Becomes {K : Type 0} (old : Serving K) (added : Option Entry) (held : List Message)
    (new : Serving K) : Type 0 where
  pub set_is : new.set ≡ old.set
  pub server_is : new.server ≡ old.server
  pub history_is : new.history ≡ grown old.history added
  pub held_is : new.held ≡ held
  pub stopped_is : new.is_stopped ≡ old.is_stopped
  pub opened_is : new.opened ≡ old.opened
  pub acknowledged_is : new.acknowledged ≡ old.acknowledged

-- the keeper failed in this call; nothing was added
pub record HasStopped {K : Type 0} (terms : Terms K) (old new : Serving K) : Type 0 where
  pub set_is : new.set ≡ old.set
  pub server_is : new.server ≡ old.server
  pub history_is : new.history ≡ old.history
  pub held_is : new.held ≡ old.held
  pub stopped_is : new.is_stopped ≡ true
  pub opened_is : new.opened ≡ old.opened
  pub acknowledged_is : new.acknowledged ≡ old.acknowledged
  pub rose : HasRisen (terms.counted old.keeper) (terms.counted new.keeper)

-- What a call of a server that ran, and that may add this entry, leaves of its keeper: a stop
-- leaves what was kept before the call, or that with the whole entry; while the server runs on, a
-- stop leaves all that it did.
pub record Lasts {K : Type 0} (terms : Terms K) (old : Serving K) (added : Option Entry)
    (new : Serving K) : Type 0 where
  pub sound_before : terms.sound new.keeper → terms.sound old.keeper
  pub stop : terms.sound new.keeper
      → terms.leaves new.keeper (kept_of old.set old.history)
      (kept_of old.set (grown old.history added))
  pub kept : new.is_stopped ≡ false → terms.sound new.keeper
      → terms.leaves new.keeper (kept_of new.set new.history) (kept_of new.set new.history)
  pub rests : new.is_stopped ≡ false
      → RestsOn terms old.keeper new.keeper (kept_of old.set old.history)
      (kept_of new.set new.history)

-- what comes of a begin here
abbrev pub begins_here : {K : Type 0} → Serving K → Request → ℕ → AnsweredSo
begins_here old request seen = answer old.set old.server old.history request seen

-- a begin was answered by its definition
pub record IsAnswered {K : Type 0} (old : Serving K) (request : Request) (seen : ℕ) (given : Answer)
    (new : Serving K) : Type 0 where
  pub answer_is : given ≡ (begins_here old request seen).answer
  pub becomes : Becomes old (begins_here old request seen).added old.held new

-- A begin at a server that runs: want of memory changes nothing, a failed keeper stops the server
-- and adds nothing, and each other answer is the definition's.
abbrev pub Begins : {K : Type 0} → Terms K → Serving K → Request → ℕ → Answer → Serving K → Type 0
Begins terms old request seen Memory new = Becomes old None old.held new
Begins terms old request seen Stopped new = HasStopped terms old new
Begins terms old request seen given new = IsAnswered old request seen given new

-- a delivery that is the definition's
pub record IsDelivered {K : Type 0} (old : Serving K) (delivers : DeliveredSo) (given : Delivered)
    (new : Serving K) : Type 0 where
  pub delivered_is : given ≡ delivers.delivered
  pub becomes : Becomes old delivers.added delivers.held new

-- the delivery of a server
abbrev pub delivery_of : {K : Type 0} → Serving K → Message → DeliveredSo
delivery_of old message = delivery old.set old.server MAX_HELD old.history old.held message

-- A delivery at a server that runs: want of memory changes nothing, a failed keeper stops the
-- server and adds nothing, and each other answer is the definition's.
abbrev pub Delivers : {K : Type 0} → Terms K → Serving K → Message → Delivered → Serving K → Type 0
Delivers terms old message WithoutMemory new = Becomes old None old.held new
Delivers terms old message StoppedThen new = HasStopped terms old new
Delivers terms old message given new = IsDelivered old (delivery_of old message) given new

-- the message stays held
abbrev pub is_put_off : Delivered → Bool
is_put_off Full = true
is_put_off StoppedThen = true
is_put_off WithoutMemory = true
is_put_off delivered = false

-- the held message that a server delivers when it wakes
abbrev pub woken_of : {K : Type 0} → Serving K → Option Message
woken_of old =
    least_of (filter
    (λ message. unwrap_or (number_at message.numbers old.server) 0 == turn_of old.set old.server
    old.history message.chain.origin) old.held)

-- a held message was delivered by its definition, and is let go unless there was no room for its
-- entry
pub record IsWoken {K : Type 0} (old : Serving K) (message : Message) (given : Delivered)
    (new : Serving K) : Type 0 where
  pub delivered_is : given ≡ (delivery_of old message).delivered
  pub becomes : Becomes old (delivery_of old message).added
      (if is_put_off given then (delivery_of old message).held else filter
      (λ other. not (is_for message.chain message.hop other)) (delivery_of old message).held)
      new

-- what came of a held message
abbrev pub DeliversWoken : {K : Type 0} → Terms K → Serving K → Message → Delivered → Serving K
    → Type 0
DeliversWoken terms old message WithoutMemory new = Becomes old None old.held new
DeliversWoken terms old message StoppedThen new = HasStopped terms old new
DeliversWoken terms old message given new = IsWoken old message given new

-- that message was woken
pub record WakesOne {K : Type 0} (terms : Terms K) (old : Serving K) (woken : Woken)
    (new : Serving K) : Type 0 where
  pub message : Message
  pub message_is : woken_of old ≡ Some message
  pub chain_is : woken.chain ≡ message.chain
  pub hop_is : woken.hop ≡ message.hop
  pub wakes : DeliversWoken terms old message woken.delivered new

-- A waking of a server that runs: none where no held message's turn it is.
abbrev pub Wakes : {K : Type 0} → Terms K → Serving K → Option Woken → Serving K → Type 0
Wakes terms old None new = (woken_of old ≡ None) × Becomes old None old.held new
Wakes terms old (Some woken) new = WakesOne terms old woken new

-- the entry that a waking may add
abbrev pub woken_entry : {K : Type 0} → Serving K → Option Message → Option Entry
woken_entry old None = None
woken_entry old (Some message) = (delivery_of old message).added

-- what is told of the held message that would be woken
abbrev pub told_stopped : Option Message → Option Woken
told_stopped None = None
told_stopped (Some message) =
    Some (record { chain = message.chain; hop = message.hop; delivered = StoppedThen })
