-- What became of a request, and what a chain did, in lines.
use Rattle.std.specs.Prelude.{ℕ, List, ◌++◌, ◌∷◌, Option, None, Some, codes, decimal}
use Rattle.std.specs.List.{flat_map}
use Rattle.lynx_lex.specs.Lines.{with_feed}
use Rattle.lynx_lines.specs.Full.{asked_text, client_text}
use Rattle.lynx_lines.specs.Printed.{begun_text, hop_done_text, hop_text, refused_text}
use Rattle.lynx_names.specs.Chain.{chain_text}
use Rattle.lynx_names.specs.declared.chain.ChainId.{ChainId}
use Rattle.lynx_status.specs.declared.chain.HopFigures.{HopFigures}
use Rattle.lynx_status.specs.declared.chain.RanHop.{RanHop}
use Rattle.lynx_status.specs.declared.records.ChainRecord.{ChainRecord}
use Rattle.lynx_status.specs.declared.records.RecordFigures.{RecordFigures}
use Rattle.lynx_status.specs.declared.records.RecordOutcome.{RecordOutcome}
use Rattle.lynx_status.specs.declared.records.RecordOutcome.TheVariants.{Begun, Refused}
use Rattle.lynx_status.specs.declared.shapes.Shape.{Shape}
use Rattle.lynx_status.specs.declared.shapes.Shape.TheVariants.{Json, Lines}
use Rattle.lynx_status.specs.Records.{chain_record_json, request_json}

-- what came of a request, at that stamp
abbrev pub outcome_text : ℕ → RecordOutcome → List ℕ
outcome_text stamp (Begun chain results) = begun_text chain stamp results
outcome_text stamp (Refused need) = refused_text need stamp

-- the server of an entry
abbrev pub server_text : ℕ → List ℕ
server_text server = codes " server " ++ decimal server

-- the line of a record
abbrev pub record_line : ℕ → ℕ → RecordFigures → List ℕ
record_line client number one =
    with_feed (outcome_text one.stamp one.outcome ++ client_text client number
    ++ asked_text one.program one.args ++ server_text one.server)

-- a line for each record of a request
abbrev pub request_lines : ℕ → ℕ → List RecordFigures → List ℕ
request_lines client number records = flat_map (record_line client number) records

-- a hop that ran, or is owed
abbrev pub ran_text : ChainId → ℕ → Option RanHop → List ℕ
ran_text chain hop None = hop_text (codes "owed") chain hop
ran_text chain hop (Some ran) = hop_done_text (codes "hop") chain hop ran.stamp ran.results

-- the line of a hop
abbrev pub hop_line : ChainId → HopFigures → List ℕ
hop_line chain hop = with_feed (ran_text chain hop.hop hop.ran ++ server_text hop.server)

-- the line of a chain: who asked for it, and for what
abbrev pub head_line : ChainRecord → List ℕ
head_line one =
    with_feed (codes "chain " ++ chain_text one.chain ++ client_text one.client one.number
    ++ asked_text one.program one.args)

-- that line, and one for each of its hops
abbrev pub chain_lines : ChainRecord → List ℕ
chain_lines one = head_line one ++ flat_map (hop_line one.chain) one.hops.items

-- the same in either shape
abbrev pub request_body : Shape → ℕ → ℕ → List RecordFigures → List ℕ
request_body Json client number records = request_json client number records
request_body Lines client number records = request_lines client number records

abbrev pub chain_body : Shape → ChainRecord → List ℕ
chain_body Json one = chain_record_json one
chain_body Lines one = chain_lines one
