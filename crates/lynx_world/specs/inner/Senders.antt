-- Finding the entry of a hop, which sends the next message, by its chain's program.
use Rattle.std.specs.Prelude.{ℕ, ◌==◌, if◌then◌else◌, List, Option, Some, None, map, find, slice_get, option_map}
use Rattle.std.specs.Option.{option_and_then}
use Rattle.lynx_keep.specs.Kept.{KeptState}
use Rattle.lynx_names.specs.declared.chain.ChainId.{ChainId}
use Rattle.lynx_set.specs.Set.{Set}
use Rattle.lynx_set.specs.Lookups.{hop_at}
use Rattle.lynx_entry.specs.declared.entry.Entry.{Entry}
use Rattle.lynx_entry.specs.declared.entry.Entry.TheVariants.{Begun, Refused, Hop}
use Rattle.lynx_server.specs.Acts.{act_of, is_act}
use Rattle.lynx_server.specs.Serving.{Serving}
use Rattle.lynx_world.specs.Placed.{Placed}
use Rattle.lynx_world.specs.Servers.{Servers}

-- the entry of that hop of the chain in a list
abbrev pub act_in : ChainId → ℕ → List Placed → Option Entry
act_in chain hop list = find (is_act chain hop) (map (λ (placed : Placed). placed.entry) list)

-- and at a server
abbrev pub act_at : ChainId → ℕ → Servers → ℕ → Option Entry
act_at chain hop servers server =
    option_and_then (λ (here : Serving KeptState). act_of chain hop here.history)
    (slice_get servers server)

-- the server of that hop, for a chain that began with this entry
abbrev pub home_of : Set → ℕ → Entry → Option ℕ
home_of set hop (Begun begun) =
    option_map (λ found. found.server) (hop_at set begun.request.program hop)
home_of set hop (Refused refused) = None
home_of set hop (Hop ran) = None

-- the entry of that hop of a chain that began with this one
abbrev pub act_of_begun : Set → ChainId → ℕ → Servers → Entry → Option Entry
act_of_begun set chain hop servers begun =
    if hop == 0 then Some begun else option_and_then (act_at chain hop servers)
    (home_of set hop begun)

-- the entry of that hop of the chain, at the hop's server, which the begin at the origin tells
abbrev pub act_found : Set → ChainId → ℕ → Servers → Option Entry
act_found set chain hop servers =
    option_and_then (act_of_begun set chain hop servers) (act_at chain 0 servers chain.origin)
