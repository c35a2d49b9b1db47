-- What is read of a message's encoding is that message, unless memory is wanted.
use Rattle.std.proofs.Common.{◌≡◌, ◌⊎◌, inl, inr, Option, Some, None, Result, Ok, Err}
use Rattle.lynx_codec.specs.declared.fault.DecodeFault.{DecodeFault}
use Rattle.lynx_codec.specs.declared.fault.DecodeFault.TheVariants as faults
use Rattle.lynx_codec.specs.declared.item.Item.{Item}
use Rattle.lynx_codec.specs.declared.item.Item.TheVariants as items
use Rattle.lynx_entry.specs.declared.message.Message.{Message}

-- what a read of an item's encoding comes to
abbrev pub ReadsItem : Item → Result (Option Item) DecodeFault → Type 0
ReadsItem item result = (result ≡ Ok (Some item)) ⊎ (result ≡ Err faults.Memory)

pub given_item : (o : Option Item) (given item : Item) → o ≡ Some given → ReadsItem item (Ok o) → given ≡ item
given_item o given item is (inl read) = cc
given_item o given item is (inr read) = cc

pub never_none : (o : Option Item) (item : Item) → o ≡ None → ReadsItem item (Ok o) → ⊥
never_none o item is (inl read) = cc
never_none o item is (inr read) = cc

pub only_memory : (fault : DecodeFault) (item : Item) → ReadsItem item (Err fault) → fault ≡ faults.Memory
only_memory fault item (inl read) = cc
only_memory fault item (inr read) = cc

pub same_message : (item : Item) (one other : Message) → item ≡ items.Message one → item ≡ items.Message other → one ≡ other
same_message item one other is also = cc
