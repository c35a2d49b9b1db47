-- What goes with entries that are cut off.
use Rattle.std.specs.Prelude.{ℕ, List, map}
use Rattle.lynx_entry.specs.declared.entry.Entry.{Entry}
use Rattle.lynx_entry.specs.declared.entry.Entry.TheVariants.{Begun, Refused, Hop}
use Rattle.lynx_entry.specs.Entry.{History}
use Rattle.lynx_restore.specs.declared.undone.Undone.{Undone}
use Rattle.lynx_restore.specs.declared.undone.Undone.TheVariants.{Began, Refused as WasRefused, Ran}

-- what the entry of a server says
abbrev pub undone_by : ℕ → Entry → Undone
undone_by server (Begun begun) = Began server begun.request.client begun.request.number begun.chain
undone_by server (Refused refused) = WasRefused server refused.request.client refused.request.number
undone_by server (Hop ran) = Ran server ran.message.chain ran.message.hop

-- what entries of a server say that are cut off
abbrev pub undone_in : ℕ → History → List Undone
undone_in server entries = map (undone_by server) entries
