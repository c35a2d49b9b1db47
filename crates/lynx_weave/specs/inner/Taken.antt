-- Taking entries of histories one by one.
use Rattle.std.specs.Prelude.{◌≡◌, List, Some}
use Rattle.lynx_set.specs.Set.{Set}
use Rattle.lynx_entry.specs.declared.entry.Entry.{Entry}
use Rattle.lynx_entry.specs.declared.message.Message.{Message}
use Rattle.lynx_entry.specs.Entry.{History}
use Rattle.lynx_rules.specs.Lawful.{message_of}
use Rattle.lynx_weave.specs.Senders.{IsSentBefore}

-- the message that an entry ran on, if it ran on one, is sent by an entry of these histories
abbrev pub MayTake : Set → List History → Entry → Type 0
MayTake set histories entry =
    (message : Message) → message_of entry ≡ Some message → IsSentBefore set histories message
