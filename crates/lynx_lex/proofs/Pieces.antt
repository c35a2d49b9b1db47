-- A slice to the end of a text.
use Rattle.std.proofs.Common.{◌≡◌, ℕ, ◌-◌, List, length, take, drop, arith}
use Rattle.std.proofs.lemmas.List.{take_all, length-drop}

-- a slice to its end is what is left
pub slice_to_end : (i : ℕ) (text : List ℕ) → take (length text - i) (drop i text) ≡ drop i text
slice_to_end i text = take_all (length text - i) (drop i text) (omega (arith, length-drop i text))
