-- Each key has one shard.
use Rattle.std.proofs.Common.{◌≡◌, ℕ, ◌+◌, ◌≤◌, ◌<◌, List, [], ◌∷◌, Bool, true, false, cond, leb, refl, inl, inr, arith}
use Rattle.std.specs.List.{AllByRecursion}
use Rattle.std.proofs.lemmas.Bool.{leb-true}
use Rattle.std.proofs.lemmas.Bool.Decides.{nat_tests}
use Rattle.lynx_shards.specs.declared.shard.Shard.{Shard}
use Rattle.lynx_shards.specs.Ranges.{Cuts}
use Rattle.lynx_shards.specs.Shards.{Has, OneHas, server_in}

-- shards from a greater key on don't have this one
none_later : (low : ℕ) (shards : List Shard) (end key : ℕ) → Cuts low shards end → key < low → AllByRecursion (λ other. ¬ Has other key) shards
none_later low [] end key cuts below = tt
none_later low (shard ∷ shards) end key cuts below =
    (λ has. omega (arith, has.0, cuts.0), none_later (shard.high + 1) shards end key cuts.2 (omega (arith, cuts.1)))

above_if_false : (key high : ℕ) → leb key high ≡ false → high < key
above_if_false key high e = grind (arith, nat_tests)

pub one_has : (low : ℕ) (shards : List Shard) (end key : ℕ) → Cuts low shards end → low ≤ key → key < end → OneHas shards key (server_in shards key)
one_has low [] end key cuts from_low below = omega arith
one_has low (shard ∷ shards) end key cuts from_low below =
    by (leb key shard.high) refl (λ above. one_has (shard.high + 1) shards end key cuts.2 (omega arith) below)
  where
    by : (test : Bool) → leb key shard.high ≡ test → (shard.high < key → OneHas shards key (server_in shards key)) → OneHas (shard ∷ shards) key (cond test shard.server (server_in shards key))
    by true is later = inl ((omega (arith, cuts.0), leb-true _ _ is), refl, none_later (shard.high + 1) shards end key cuts.2 (omega (arith, leb-true _ _ is)))
    by false is later = inr (λ has. omega (arith, has.1, above_if_false key shard.high is), later (above_if_false key shard.high is))
