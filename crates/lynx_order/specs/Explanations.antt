-- Which orders of the begun chains explain a list.
use Rattle.std.specs.Prelude.{◌≡◌, ◌↔◌, ℕ, List, [], ◌∷◌, map, length, if◌then◌else◌, Option, Some, None, IsSome, option_map}
use Rattle.std.specs.List.{filter_map}
use Rattle.std.specs.Option.{option_or}
use Rattle.lynx_names.specs.declared.chain.ChainId.{ChainId}
use Rattle.lynx_cells.specs.Database.{Database, empty_database, value_at}
use Rattle.lynx_shards.specs.Shards.{server_of}
use Rattle.lynx_set.specs.Set.{Set}
use Rattle.lynx_entry.specs.declared.entry.Entry.{Entry}
use Rattle.lynx_entry.specs.declared.entry.Entry.TheVariants.{Begun, Refused, Hop}
use Rattle.lynx_entry.specs.declared.request.Request.{Request}
use Rattle.lynx_rules.specs.Deliveries.{same_chain}
use Rattle.lynx_rules.specs.Tables.{tables_of}
use Rattle.lynx_world.specs.Placed.{Placed}
use Rattle.lynx_world.specs.Worlds.{history_of}
use Rattle.lynx_world.specs.Order.{done_hops}
use Rattle.lynx_order.specs.Lists.{IsIn, AreDifferent}
use Rattle.lynx_order.specs.Runs.{Call, serial_run}

-- the request with which the chain began, if it began in this entry
abbrev pub request_in : ChainId → Entry → Option Request
request_in chain (Begun begun) = if same_chain begun.chain chain then Some begun.request else None
request_in chain (Refused refused) = None
request_in chain (Hop ran) = None

-- the request with which the chain began, if it has begun
abbrev pub request_of : List Placed → ChainId → Option Request
request_of [] chain = None
request_of (placed ∷ list) chain = option_or (request_in chain placed.entry) (request_of list chain)

-- exactly the chains that have begun, each once
pub record AreTheBegun (list : List Placed) (chains : List ChainId) : Type 0 where
  pub each : (chain : ChainId) → IsIn chain chains ↔ IsSome (request_of list chain)
  pub once : AreDifferent chains

-- the results that an entry keeps, if it is one of the chain's hops
abbrev pub results_in : ChainId → Entry → Option (List ℕ)
results_in chain (Begun begun) = if same_chain begun.chain chain then Some begun.results else None
results_in chain (Refused refused) = None
results_in chain (Hop ran) = if same_chain ran.message.chain chain then Some ran.results else None

-- the results that are kept of the chain's hops, in the order of the list
abbrev pub results_of : List Placed → ChainId → List (List ℕ)
results_of list chain = filter_map (λ placed. results_in chain placed.entry) list

-- the call of a chain that began with this request: it runs the hops that the chain has done
abbrev pub call_of : List Placed → ChainId → Request → Call
call_of list chain request =
    record { program = request.program; args = request.args; count = length (done_hops chain list) }

-- the calls of the chains
abbrev pub calls_of : List Placed → List ChainId → List Call
calls_of list chains =
    filter_map (λ chain. option_map (call_of list chain) (request_of list chain)) chains

-- Exactly the begun chains, each once. Their serial run, from the empty database, each with the
-- hops that it has done, gives the results that are kept of each hop, and holds in each cell what
-- the tables of that cell's server hold.
pub record IsExplanation (set : Set) (list : List Placed) (chains : List ChainId) : Type 0 where
  pub the_begun : AreTheBegun list chains
  pub last : Database
  pub runs : serial_run set (calls_of list chains) empty_database
      ≡ Some (record { results = map (results_of list) chains; database = last })
  pub tables : (table key : ℕ) →
      value_at last table key
      ≡ value_at (tables_of set (history_of (server_of set.shards table key) list)) table key
