-- Bytes that are added to a list of bytes with room for them.
use Rattle.std.specs.Prelude.{◌≡◌, ℕ, ◌+◌, ◌≤◌, List, ◌++◌, vec_len, vec_capacity}
use Rattle.std.specs.Global.{Vec}

-- so many bytes can be added without taking memory
abbrev pub HasRoom : Vec ℕ → ℕ → Type 0
HasRoom out count = vec_len out + count ≤ vec_capacity out

-- New is old with these bytes at its end, at most so many of them, and has no less room in all.
pub record Adds (old new : Vec ℕ) (bytes : List ℕ) (most : ℕ) : Type 0 where
  pub items : new.items ≡ old.items ++ bytes
  pub len : vec_len new ≤ vec_len old + most
  pub capacity : vec_capacity old ≤ vec_capacity new
