-- How far a chain has come, in JSON.
use Rattle.std.specs.Prelude.{ℕ, List, [], ◌∷◌, ◌++◌, Option, Some, None, codes, decimal}
use Rattle.std.specs.List.{flat_map}
use Rattle.lynx_names.specs.Chain.{chain_text}
use Rattle.lynx_names.specs.declared.chain.ChainId.{ChainId}
use Rattle.lynx_status.specs.declared.chain.ChainFigures.{ChainFigures}
use Rattle.lynx_status.specs.declared.chain.HopFigures.{HopFigures}
use Rattle.lynx_status.specs.declared.chain.RanHop.{RanHop}

-- a number is a string
abbrev pub quoted : ℕ → List ℕ
quoted number = codes "\"" ++ decimal number ++ codes "\""

-- values with a comma between two
abbrev pub values_json : List ℕ → List ℕ
values_json [] = []
values_json (first ∷ rest) = quoted first ++ flat_map (λ value. codes "," ++ quoted value) rest

-- what the entry of a hop says; a hop that is owed has none
unfoldable pub ran_json : Option RanHop → List ℕ
ran_json None = []
ran_json (Some ran) =
    codes ",\"stamp\":\"" ++ decimal ran.stamp ++ codes "\",\"results\":["
    ++ values_json ran.results ++ codes "]"

unfoldable pub hop_head : ℕ → ℕ → List ℕ
hop_head hop server =
    codes "{\"hop\":\"" ++ decimal hop ++ codes "\",\"server\":\"" ++ decimal server ++ codes "\""

abbrev pub hop_json : HopFigures → List ℕ
hop_json hop = hop_head hop.hop hop.server ++ ran_json hop.ran ++ codes "}"

-- hops with a comma between two
abbrev pub hops_json : List HopFigures → List ℕ
hops_json [] = []
hops_json (first ∷ rest) = hop_json first ++ flat_map (λ hop. codes "," ++ hop_json hop) rest

unfoldable pub head_json : ChainId → List ℕ → List ℕ
head_json chain program =
    codes "{\"chain\":\"" ++ chain_text chain ++ codes "\",\"program\":\"" ++ program
    ++ codes "\",\"hops\":["

abbrev pub chain_json : ChainFigures → List ℕ
chain_json chain =
    head_json chain.chain chain.program ++ hops_json chain.hops.items ++ codes "]}\n"
