-- Which entries have an encoding, beyond what their type keeps.
use Rattle.lynx_entry.specs.declared.entry.Entry.{Entry}
use Rattle.lynx_codec.specs.declared.item.Item.TheVariants as items
use Rattle.lynx_codec.specs.Ranges.{IsInRange}

-- the entry, as an item, is in the range of its encoding
abbrev pub IsEntryInRange : Entry → Type 0
IsEntryInRange entry = IsInRange (items.Entry entry)
