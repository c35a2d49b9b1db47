-- What the fields of a body are written as.
use Rattle.std.specs.Prelude.{ℕ, ◌<◌, slice_index, Bool, true, false, List, [], ◌∷◌, length}
use Rattle.std.specs.List.{flat_map}
use Rattle.std.specs.Int.{w64, to_be_bytes}
use Rattle.lynx_names.specs.declared.chain.ChainId.{ChainId}
use Rattle.lynx_names.specs.declared.numbers.NumberAt.{NumberAt}

-- each of these numbers is a byte
abbrev pub AreBytes : List ℕ → Type 0
AreBytes bytes = (i : ℕ) → slice_index bytes i < 256

-- a number in eight bytes, the highest first
unfoldable pub word : ℕ → List ℕ
word n = to_be_bytes w64 n

abbrev pub flag : Bool → List ℕ
flag true = 1 ∷ []
flag false = 0 ∷ []

-- how many there are, and each of them
abbrev pub values : List ℕ → List ℕ
values vs = length vs ∷ flat_map word vs

abbrev pub chain : ChainId → List ℕ
chain id = id.origin ∷ word id.index

abbrev pub number_at : NumberAt → List ℕ
number_at n = n.server ∷ word n.number

abbrev pub numbers : List NumberAt → List ℕ
numbers ns = length ns ∷ flat_map number_at ns

abbrev pub result_lists : List (List ℕ) → List ℕ
result_lists rs = length rs ∷ flat_map values rs
