-- What a call of one server of a world comes to.
use Rattle.std.specs.Prelude.{◌≡◌, ℕ, not, if◌then◌else◌, nat_lt, filter, List, [], ◌∷◌, Option, Some, None}
use Rattle.lynx_keep.specs.Kept.{KeptState}
use Rattle.lynx_entry.specs.declared.answer.Answer.{Answer}
use Rattle.lynx_entry.specs.declared.answer.Delivered.{Delivered}
use Rattle.lynx_entry.specs.declared.message.Message.{Message}
use Rattle.lynx_entry.specs.declared.request.Request.{Request}
use Rattle.lynx_turn.specs.Held.{is_for}
use Rattle.lynx_rules.specs.Answers.{answer}
use Rattle.lynx_server.specs.inner.Repeating.{HasAdded}
use Rattle.lynx_server.specs.Serving.{Serving, delivery_of, is_put_off, woken_of}
use Rattle.lynx_server.specs.declared.server.Woken.{Woken}
use Rattle.lynx_world.specs.declared.added.Added.{Added}

-- the entry at the place of a history that has come to this length, if it has it
abbrev pub noted : ℕ → ℕ → ℕ → List Added
noted server place len =
    if nat_lt place len then record { server = server; place = place } ∷ [] else []

-- a begin was answered by its definition
pub record HasBegun (old : Serving KeptState) (request : Request) (seen : ℕ) (given : Answer)
    (new : Serving KeptState) : Type 0 where
  pub answer_is : given ≡ (answer old.set old.server old.history request seen).answer
  pub goes : HasAdded old (answer old.set old.server old.history request seen).added old.held new

-- .. and a delivery
pub record HasDelivered (old : Serving KeptState) (message : Message) (given : Delivered)
    (new : Serving KeptState) : Type 0 where
  pub delivered_is : given ≡ (delivery_of old message).delivered
  pub goes : HasAdded old (delivery_of old message).added (delivery_of old message).held new

-- what is held after a waking: the message is let go unless it was put off
abbrev pub held_then : Serving KeptState → Message → Delivered → List Message
held_then old message given =
    if is_put_off given then (delivery_of old message).held
    else filter (λ other. not (is_for message.chain message.hop other))
    (delivery_of old message).held

-- .. and the waking of that message
pub record HasWokenOne (old : Serving KeptState) (woken : Woken) (new : Serving KeptState) : Type
    0 where
  pub message : Message
  pub message_is : woken_of old ≡ Some message
  pub chain_is : woken.chain ≡ message.chain
  pub hop_is : woken.hop ≡ message.hop
  pub delivered_is : woken.delivered ≡ (delivery_of old message).delivered
  pub goes : HasAdded old (delivery_of old message).added (held_then old message woken.delivered)
      new

-- .. or of none
pub record WokeNone (old new : Serving KeptState) : Type 0 where
  pub none : woken_of old ≡ None
  pub goes : HasAdded old None old.held new

abbrev pub HasWoken : Serving KeptState → Option Woken → Serving KeptState → Type 0
HasWoken old None new = WokeNone old new
HasWoken old (Some woken) new = HasWokenOne old woken new
