-- Where the messages of later hops were sent.
use Rattle.std.specs.Prelude.{◌≡◌, ℕ, zero, suc, List, slice_get, Option, Some, None, option_and_then, Result, Ok, Err}
use Rattle.lynx_set.specs.Set.{Set}
use Rattle.lynx_set.specs.Lookups.{server_at}
use Rattle.lynx_entry.specs.declared.entry.Entry.{Entry}
use Rattle.lynx_entry.specs.declared.message.Message.{Message}
use Rattle.lynx_entry.specs.Entry.{History}
use Rattle.lynx_rules.specs.Lawful.{message_of}
use Rattle.lynx_rules.specs.Messages.{next_message}
use Rattle.lynx_server.specs.Acts.{act_of}
use Rattle.lynx_weave.specs.declared.fault.WeaveFault.{WeaveFault}
use Rattle.lynx_weave.specs.declared.fault.WeaveFault.TheVariants.{Mismatch, Told, Memory}
use Rattle.lynx_weave.specs.Weaving.{IsUnsentAt}

-- the entry of that hop of the message's chain, at the server of that hop
abbrev pub sender_at : Set → List History → Message → ℕ → Option Entry
sender_at set histories message before =
    option_and_then (act_of message.chain before)
    (option_and_then (slice_get histories) (server_at set message.program before))

-- what the entry of the hop before sends
abbrev pub sent_before : Set → List History → Message → ℕ → Option Message
sent_before set histories message zero = None
sent_before set histories message (suc before) =
    option_and_then (next_message set) (sender_at set histories message before)

-- the message is sent by the entry of the hop before
abbrev pub IsSentBefore : Set → List History → Message → Type 0
IsSentBefore set histories message = sent_before set histories message message.hop ≡ Some message

-- each entry's message is sent
abbrev pub AreSent : Set → List History → History → Type 0
AreSent set histories history =
    (place : ℕ) (entry : Entry) (message : Message) → slice_get history place ≡ Some entry →
    message_of entry ≡ Some message → IsSentBefore set histories message

-- the entry's message isn't
pub record IsUnsent (set : Set) (histories : List History) (history : History) (place : ℕ) : Type
    0 where
  pub entry : Entry
  pub there : slice_get history place ≡ Some entry
  pub message : Message
  pub message_is : message_of entry ≡ Some message
  pub unsent : IsSentBefore set histories message → ⊥

-- each entry's message is sent, or the one at the place isn't
abbrev pub IsUnsentFirst : Set → List History → History → Option ℕ → Type 0
IsUnsentFirst set histories history None = AreSent set histories history
IsUnsentFirst set histories history (Some place) = IsUnsent set histories history place

-- the same of all histories
abbrev pub AreAllSent : Set → List History → Type 0
AreAllSent set histories =
    (server : ℕ) (history : History) → slice_get histories server ≡ Some history
    → AreSent set histories history

abbrev pub FindsSenders : Set → List History → Result (Unit {0}) WeaveFault → Type 0
FindsSenders set histories (Ok done) = AreAllSent set histories
FindsSenders set histories (Err (Mismatch server place)) = IsUnsentAt set histories server place
FindsSenders set histories (Err (Told session place)) = ⊥
FindsSenders set histories (Err Memory) = Unit {0}
