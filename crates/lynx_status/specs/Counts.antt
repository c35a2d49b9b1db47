-- Counts that go up.
use Rattle.std.specs.Prelude.{ℕ, ◌+◌, ◌-◌, ◌^◌, min}

-- so much more, up to the greatest number of 64 bits
abbrev pub raised : ℕ → ℕ → ℕ
raised count by = min (count + by) (2 ^ 64 - 1)

abbrev pub more : ℕ → ℕ
more count = raised count 1
