-- The last hop that a chain did.
use Rattle.std.specs.Prelude.{List, Option, Some, None}
use Rattle.lynx_names.specs.declared.chain.ChainId.{ChainId}
use Rattle.lynx_entry.specs.declared.entry.Entry.{Entry}
use Rattle.lynx_entry.specs.declared.entry.Entry.TheVariants.{Begun, Refused, Hop}
use Rattle.lynx_world.specs.Placed.{Placed}
use Rattle.lynx_report.specs.Lasts.{last_of}
use Rattle.lynx_audit.specs.declared.latest.Latest.{Latest}

-- the chain of which a hop ran in an entry, its program and the entry's stamp
abbrev pub latest_in : Entry → Option (ChainId × Latest)
latest_in (Begun begun) =
    Some (begun.chain, record { program = begun.request.program; stamp = begun.stamp })
latest_in (Refused refused) = None
latest_in (Hop ran) =
    Some (ran.message.chain, record { program = ran.message.program; stamp = ran.stamp })

-- the same of the last entry of the chain
abbrev pub latest_of : List Placed → ChainId → Option Latest
latest_of list chain = last_of latest_in list chain
