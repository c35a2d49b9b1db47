-- How far chains have come, by the last of their entries.
use Rattle.std.specs.Prelude.{◌+◌, ◌-◌, List, length, map, Option, Some, None}
use Rattle.std.specs.List.{range_with_len}
use Rattle.lynx_names.specs.declared.chain.ChainId.{ChainId}
use Rattle.lynx_set.specs.Lookups.{hops_of}
use Rattle.lynx_set.specs.Set.{Set}
use Rattle.lynx_entry.specs.declared.entry.Entry.{Entry}
use Rattle.lynx_entry.specs.declared.entry.Entry.TheVariants.{Begun, Refused, Hop}
use Rattle.lynx_world.specs.Placed.{Placed}
use Rattle.lynx_report.specs.Lasts.{last_of}
use Rattle.lynx_report.specs.declared.owed.OwedHop.{OwedHop}
use Rattle.lynx_report.specs.declared.reached.Reached.{Reached}

-- the chain of which a hop ran in an entry, and how far that brings it
abbrev pub reached_in : Entry → Option (ChainId × Reached)
reached_in (Begun begun) = Some (begun.chain, record { program = begun.request.program; next = 1 })
reached_in (Refused refused) = None
reached_in (Hop ran) =
    Some (ran.message.chain, record { program = ran.message.program; next = ran.message.hop + 1 })

-- how far the last entry of the chain brings it
abbrev pub reached_of : List Placed → ChainId → Option Reached
reached_of list chain = last_of reached_in list chain

-- the hops of a chain that are left
abbrev pub left_of : Set → ChainId × Reached → List OwedHop
left_of set chain =
    map (λ hop. record { chain = chain.0; hop = hop })
    (range_with_len chain.1.next (length (hops_of set chain.1.program) - chain.1.next))
