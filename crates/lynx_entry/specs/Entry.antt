-- A history is a list of entries: what a server has done, in order.
use Rattle.std.specs.Prelude.{ℕ, List}
use Rattle.lynx_entry.specs.declared.entry.Entry.{Entry}
use Rattle.lynx_entry.specs.declared.entry.Entry.TheVariants.{Begun, Refused, Hop}

-- a server's history: its entries in order
abbrev pub History : Type 0
History = List Entry

abbrev pub stamp_of : Entry → ℕ
stamp_of (Begun begun) = begun.stamp
stamp_of (Refused refused) = refused.stamp
stamp_of (Hop ran) = ran.stamp
