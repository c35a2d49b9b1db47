-- What became of a request, and what a chain did, in JSON.
use Rattle.std.specs.Prelude.{ℕ, Bool, List, [], ◌∷◌, ◌++◌, codes, decimal, filter, is_none, map}
use Rattle.std.specs.List.{flat_map}
use Rattle.lynx_names.specs.Chain.{chain_text}
use Rattle.lynx_names.specs.declared.chain.ChainId.{ChainId}
use Rattle.lynx_status.specs.Chains.{hops_json, values_json}
use Rattle.lynx_status.specs.declared.chain.HopFigures.{HopFigures}
use Rattle.lynx_status.specs.declared.records.ChainRecord.{ChainRecord}
use Rattle.lynx_status.specs.declared.records.RecordFigures.{RecordFigures}
use Rattle.lynx_status.specs.declared.records.RecordOutcome.{RecordOutcome}
use Rattle.lynx_status.specs.declared.records.RecordOutcome.TheVariants.{Begun, Refused}

-- where the record stands, and when it was made
unfoldable pub record_head : ℕ → ℕ → List ℕ
record_head server stamp =
    codes "{\"server\":\"" ++ decimal server ++ codes "\",\"stamp\":\"" ++ decimal stamp ++ codes "\""

-- what was asked for
unfoldable pub asked_json : List ℕ → List ℕ → List ℕ
asked_json program args =
    codes ",\"program\":\"" ++ program ++ codes "\",\"args\":[" ++ values_json args ++ codes "]"

-- the chain that began, or the number of the need that refused
unfoldable pub outcome_json : RecordOutcome → List ℕ
outcome_json (Begun chain results) =
    codes ",\"chain\":\"" ++ chain_text chain ++ codes "\",\"results\":["
    ++ values_json results ++ codes "]"
outcome_json (Refused need) = codes ",\"refused\":\"" ++ decimal need ++ codes "\""

abbrev pub record_json : RecordFigures → List ℕ
record_json one =
    record_head one.server one.stamp ++ asked_json one.program one.args
    ++ outcome_json one.outcome ++ codes "}"

-- records with a comma between two
abbrev pub records_json : List RecordFigures → List ℕ
records_json [] = []
records_json (first ∷ rest) =
    record_json first ++ flat_map (λ one. codes "," ++ record_json one) rest

-- a client, and the number of its request
unfoldable pub client_json : ℕ → ℕ → List ℕ
client_json client number =
    codes "\"client\":\"" ++ decimal client ++ codes "\",\"number\":\"" ++ decimal number ++ codes "\""

abbrev pub request_json : ℕ → ℕ → List RecordFigures → List ℕ
request_json client number records =
    codes "{" ++ client_json client number ++ codes ",\"records\":[" ++ records_json records
    ++ codes "]}\n"

-- the hops that have no entry
abbrev pub is_owed : HopFigures → Bool
is_owed hop = is_none hop.ran

abbrev pub owed_hops : List HopFigures → List ℕ
owed_hops hops = map (λ hop. hop.hop) (filter is_owed hops)

unfoldable pub name_json : ChainId → List ℕ
name_json chain = codes "{\"chain\":\"" ++ chain_text chain ++ codes "\","

abbrev pub chain_record_json : ChainRecord → List ℕ
chain_record_json one =
    name_json one.chain ++ client_json one.client one.number
    ++ asked_json one.program one.args ++ codes ",\"hops\":["
    ++ hops_json one.hops.items ++ codes "],\"owed\":["
    ++ values_json (owed_hops one.hops.items) ++ codes "]}\n"
