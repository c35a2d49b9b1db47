-- What a waking leaves is the definition's.
use Rattle.std.proofs.Common.{◌≡◌, Bool, not, if◌then◌else◌, filter, List, ap, ◌∙◌}
use Rattle.lynx_entry.specs.declared.answer.Delivered.{Delivered}
use Rattle.lynx_entry.specs.declared.answer.Delivered.TheVariants.{Done, Repeat, Held, Dropped, Malformed, Full, Stopped, Memory}
use Rattle.lynx_entry.specs.declared.message.Message.{Message}
use Rattle.lynx_keep.specs.Kept.{Terms}
use Rattle.lynx_turn.specs.Held.{is_for}
use Rattle.lynx_server.specs.Serving.{Serving, Delivers, IsDelivered, IsWoken, DeliversWoken, delivery_of, is_put_off}

-- all is held on, or what is held for the hop of a message is let go
abbrev held_on : Message → Bool → List Message → List Message
held_on message b held = if b then held else filter (λ other. not (is_for message.chain message.hop other)) held

woken-by : {K : Type 0} (old : Serving K) (message : Message) (given : Delivered) (middle : Serving K) (held : List Message) →
    IsDelivered old (delivery_of old message) given middle → held ≡ held_on message (is_put_off given) middle.held →
    IsWoken old message given (record middle { held = held })
woken-by old message given middle held is held_is = record {
  delivered_is = is.delivered_is;
  becomes = record {
    set_is = is.becomes.set_is;
    server_is = is.becomes.server_is;
    history_is = is.becomes.history_is;
    held_is = held_is ∙ ap (held_on message (is_put_off given)) is.becomes.held_is;
    stopped_is = is.becomes.stopped_is;
    opened_is = is.becomes.opened_is;
    acknowledged_is = is.becomes.acknowledged_is;
  };
}

-- what a delivery left, with what is held then
pub wakes-so : {K : Type 0} (terms : Terms K) (old : Serving K) (message : Message) (given : Delivered) (middle : Serving K) (held : List Message) →
    Delivers terms old message given middle → held ≡ held_on message (is_put_off given) middle.held →
    DeliversWoken terms old message given (record middle { held = held })
wakes-so terms old message (Done stamp results next) middle held is held_is = woken-by old message (Done stamp results next) middle held is held_is
wakes-so terms old message (Repeat stamp results next) middle held is held_is = woken-by old message (Repeat stamp results next) middle held is held_is
wakes-so terms old message Held middle held is held_is = woken-by old message Held middle held is held_is
wakes-so terms old message Dropped middle held is held_is = woken-by old message Dropped middle held is held_is
wakes-so terms old message Malformed middle held is held_is = woken-by old message Malformed middle held is held_is
wakes-so terms old message Full middle held is held_is = woken-by old message Full middle held is held_is
wakes-so terms old message Stopped middle held is held_is = record {
  set_is = is.set_is;
  server_is = is.server_is;
  history_is = is.history_is;
  held_is = held_is ∙ is.held_is;
  stopped_is = is.stopped_is;
  opened_is = is.opened_is;
  acknowledged_is = is.acknowledged_is;
  rose = is.rose;
}
wakes-so terms old message Memory middle held is held_is = record {
  set_is = is.set_is;
  server_is = is.server_is;
  history_is = is.history_is;
  held_is = held_is ∙ is.held_is;
  stopped_is = is.stopped_is;
  opened_is = is.opened_is;
  acknowledged_is = is.acknowledged_is;
}
