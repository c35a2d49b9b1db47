-- The hash of a text: FNV-1a at 64 bits.
use Rattle.std.specs.Prelude.{ℕ, ◌*◌, ◌%◌, ◌^◌, List, fold}
use Rattle.std.specs.Int.Bits.{bit_xor}

-- the hash so far, and one byte more
abbrev pub mixed : ℕ → ℕ → ℕ
mixed hash byte = bit_xor hash byte * 1099511628211 % 2 ^ 64

abbrev pub set_hash : List ℕ → ℕ
set_hash text = fold mixed 14695981039346656037 text
