-- The chains that began in a list, in its order.
use Rattle.std.specs.Prelude.{List, Option, Some, None}
use Rattle.std.specs.List.{filter_map}
use Rattle.lynx_names.specs.declared.chain.ChainId.{ChainId}
use Rattle.lynx_entry.specs.declared.entry.Entry.{Entry}
use Rattle.lynx_entry.specs.declared.entry.Entry.TheVariants.{Begun, Refused, Hop}
use Rattle.lynx_world.specs.Placed.{Placed}

-- the chain that began in an entry
abbrev pub chain_begun : Entry → Option ChainId
chain_begun (Begun begun) = Some begun.chain
chain_begun (Refused refused) = None
chain_begun (Hop ran) = None

abbrev pub begun_in : Placed → Option ChainId
begun_in placed = chain_begun placed.entry

abbrev pub begun_chains : List Placed → List ChainId
begun_chains list = filter_map begun_in list
