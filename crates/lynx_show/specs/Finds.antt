-- What became of a request, by stores that were read, in lines.
use Rattle.std.specs.Prelude.{Bool, false, ◌&&◌, ◌==◌, ◌+◌, ◌-◌, ℕ, List, [], ◌∷◌, ◌++◌, codes, decimal, length, Option, None, Some, if◌then◌else◌}
use Rattle.std.specs.List.{flat_map, range_with_len}
use Rattle.std.specs.Option.{option_map_or}
use Rattle.lynx_entry.specs.declared.entry.BegunEntry.{BegunEntry}
use Rattle.lynx_entry.specs.declared.entry.Entry.{Entry}
use Rattle.lynx_entry.specs.declared.entry.Entry.TheVariants.{Begun, Refused, Hop}
use Rattle.lynx_entry.specs.declared.request.Request.{Request}
use Rattle.lynx_lex.specs.Lines.{with_feed}
use Rattle.lynx_lines.specs.Full.{full_entry_text}
use Rattle.lynx_lines.specs.Printed.{entry_text, hop_text}
use Rattle.lynx_names.specs.declared.chain.ChainId.{ChainId}
use Rattle.lynx_set.specs.Lookups.{hops_of, server_at}
use Rattle.lynx_set.specs.Set.{Set}
use Rattle.lynx_store.specs.declared.inspecting.Inspected.{Inspected}

-- the server of an entry
abbrev pub server_text : ℕ → List ℕ
server_text server = codes " server " ++ decimal server

-- that request of that client
abbrev pub is_request : ℕ → ℕ → Request → Bool
is_request client number request = (request.client == client) && (request.number == number)

-- the entry records it
abbrev pub records : ℕ → ℕ → Entry → Bool
records client number (Begun begun) = is_request client number begun.request
records client number (Refused refused) = is_request client number refused.request
records client number (Hop ran) = false

-- the entry is that of the hop of the chain
abbrev pub is_hop : ChainId → ℕ → Entry → Bool
is_hop chain hop (Hop ran) =
    (ran.message.chain.origin == chain.origin) && (ran.message.chain.index == chain.index)
    && (ran.message.hop == hop)
is_hop chain hop other = false

-- the line of that hop at a server, if the entry is its
abbrev pub hop_line : ChainId → ℕ → ℕ → Entry → List ℕ
hop_line chain hop server entry =
    if is_hop chain hop entry then with_feed (entry_text entry ++ server_text server) else []

-- the same of all entries of stores
abbrev pub done_lines : ChainId → ℕ → List Inspected → List ℕ
done_lines chain hop stores =
    flat_map (λ held. flat_map (hop_line chain hop held.server) held.loaded.entries.items) stores

-- the line of a hop that is owed, where the program has it
abbrev pub owed_line : ChainId → ℕ → Option ℕ → List ℕ
owed_line chain hop None = []
owed_line chain hop (Some server) =
    with_feed (hop_text (codes "owed") chain hop ++ server_text server)

-- what is done, or else what is owed
abbrev pub done_or : List ℕ → List ℕ → List ℕ
done_or [] owed = owed
done_or (byte ∷ done) owed = byte ∷ done

-- the line of a later hop of a chain of that program
abbrev pub later_line : Set → List Inspected → ChainId → ℕ → ℕ → List ℕ
later_line chains stores chain program hop =
    done_or (done_lines chain hop stores)
    (owed_line chain hop (server_at chains program hop))

-- the line of the hop behind one of the chain that began so
abbrev pub line_behind : Set → List Inspected → BegunEntry → ℕ → List ℕ
line_behind chains stores begun before =
    later_line chains stores begun.chain begun.request.program (before + 1)

-- the lines of the later hops of the chain that an entry began
abbrev pub later_lines : Set → List Inspected → Entry → List ℕ
later_lines chains stores (Begun begun) =
    flat_map (line_behind chains stores begun)
    (range_with_len 0 (length (hops_of chains begun.request.program) - 1))
later_lines chains stores other = []

-- the lines of an entry that records a request
abbrev pub record_lines : Set → List Inspected → ℕ → Entry → List ℕ
record_lines chains stores server entry =
    with_feed (full_entry_text chains entry ++ server_text server)
    ++ later_lines chains stores entry

-- the same, if the entry records it
abbrev pub found_lines : Set → List Inspected → ℕ → ℕ → ℕ → Entry → List ℕ
found_lines chains stores client number server entry =
    if records client number entry then record_lines chains stores server entry else []

-- the same of all entries of a store
abbrev pub store_finds : Set → List Inspected → ℕ → ℕ → Inspected → List ℕ
store_finds chains stores client number held =
    flat_map (found_lines chains stores client number held.server) held.loaded.entries.items

-- what became of a request: nothing where no store has a record of it
abbrev pub request_lines : Set → List Inspected → ℕ → ℕ → List ℕ
request_lines chains stores client number =
    flat_map (store_finds chains stores client number) stores
