-- Where the shard of a key begins: from there up to the key one server keeps all keys.
use Rattle.std.proofs.Common.{◌≡◌, ℕ, zero, suc, ◌+◌, ◌≤◌, ◌<◌, ◌^◌, ◌⊎◌, inl, inr, ⊎_elim, Bool, true, false, cond, leb, List, [], ◌∷◌, refl, sym, ap, ◌∙◌, arith}
use Rattle.std.specs.List.{list_any}
use Rattle.std.proofs.lemmas.Bool.{false≢true, le-leb, leb-false, leb-true, or_cases, or_left, or_right}
use Rattle.std.proofs.lemmas.Bool.Decides.{nat_tests}
use Rattle.lynx_shards.specs.declared.shard.Shard.{Shard}
use Rattle.lynx_shards.specs.Ranges.{Cuts, EachCovers}
use Rattle.lynx_shards.specs.Shards.{server_in, server_of}

-- a shard of these, one of which begins where the key's does
pub record Start (shards : List Shard) (low key : ℕ) : Type 0 where
  pub shard : Shard
  pub one_of : (test : Shard → Bool) → test shard ≡ true → list_any test shards ≡ true
  pub from_low : low ≤ shard.low
  pub begins : shard.low ≤ key
  pub same : (other : ℕ) → shard.low ≤ other → other ≤ key → server_in shards other ≡ server_in shards key

not_within : (key high : ℕ) → high < key → leb key high ≡ false
not_within key high above = grind (arith, nat_tests)

-- the server of a key in the first shard, and of one behind it
server_in-first : (shard : Shard) (shards : List Shard) (key : ℕ) → key ≤ shard.high → server_in (shard ∷ shards) key ≡ shard.server
server_in-first shard shards key within = ap (λ b. cond b shard.server (server_in shards key)) (le-leb key shard.high within)

server_in-later : (shard : Shard) (shards : List Shard) (key : ℕ) → shard.high < key → server_in (shard ∷ shards) key ≡ server_in shards key
server_in-later shard shards key above = ap (λ b. cond b shard.server (server_in shards key)) (not_within key shard.high above)

start_in : (shards : List Shard) (low end key : ℕ) → Cuts low shards end → low ≤ key → key < end → Start shards low key
start_in [] low end key cuts from_low below = absurd (omega (arith, cuts, from_low, below))
start_in (shard ∷ shards) low end key cuts from_low below =
    by (leb key shard.high) refl (λ above. start_in shards (shard.high + 1) end key cuts.2 (omega (arith, above)) below)
  where
    by : (test : Bool) → leb key shard.high ≡ test → (shard.high < key → Start shards (shard.high + 1) key) → Start (shard ∷ shards) low key
    by true is later =
        let within = leb-true key shard.high is in
        record {
          shard = shard;
          one_of = λ test passes. or_left (test shard) (list_any test shards) passes;
          from_low = omega (arith, cuts.0);
          begins = omega (arith, cuts.0, from_low);
          same = λ other after before.
              server_in-first shard shards other (omega (arith, before, within)) ∙ sym (server_in-first shard shards key within);
        }
    by false is later =
        let above = leb-false key shard.high is in
        let next = later above in
        record {
          shard = next.shard;
          one_of = λ test passes. or_right (test shard) (list_any test shards) (next.one_of test passes);
          from_low = omega (arith, cuts.1, next.from_low);
          begins = next.begins;
          same = λ other after before.
              server_in-later shard shards other (omega (arith, after, next.from_low))
              ∙ next.same other after before ∙ sym (server_in-later shard shards key above);
        }

-- the same of a table of these
pub record StartOf (tables : List (List Shard)) (table key : ℕ) : Type 0 where
  pub shard : Shard
  pub one_of : (test : Shard → Bool) → test shard ≡ true → list_any (list_any test) tables ≡ true
  pub begins : shard.low ≤ key
  pub same : (other : ℕ) → shard.low ≤ other → other ≤ key → server_of tables table other ≡ server_of tables table key

-- of a table that isn't there all keys are at one server
pub start_of : (tables : List (List Shard)) (table key : ℕ) → EachCovers tables → key < 2 ^ 64
    → ((other : ℕ) → server_of tables table other ≡ server_of tables table key) ⊎ StartOf tables table key
start_of [] table key covers below = inl (λ other. refl)
start_of (shards ∷ tables) zero key covers below =
    let own = start_in shards 0 (2 ^ 64) key covers.0 (omega arith) below in
    inr (record {
      shard = own.shard;
      one_of = λ test passes. or_left (list_any test shards) (list_any (list_any test) tables) (own.one_of test passes);
      begins = own.begins;
      same = own.same;
    })
start_of (shards ∷ tables) (suc table) key covers below =
    ⊎_elim inl
    (λ next. inr (record {
      shard = next.shard;
      one_of = λ test passes. or_right (list_any test shards) (list_any (list_any test) tables) (next.one_of test passes);
      begins = next.begins;
      same = next.same;
    }))
    (start_of tables table key covers.1 below)

-- ---- the least keys of shards are keys

Cuts-le : (low : ℕ) (shards : List Shard) (end : ℕ) → Cuts low shards end → low ≤ end
Cuts-le low [] end cuts = omega (arith, cuts)
Cuts-le low (shard ∷ shards) end cuts = let later = Cuts-le (shard.high + 1) shards end cuts.2 in omega (arith, later, cuts.1)

low_in : (low : ℕ) (shards : List Shard) (end : ℕ) (test : ℕ → Bool) → Cuts low shards end → list_any (λ shard. test shard.low) shards ≡ true
    → (key : ℕ) × (key < end) × (test key ≡ true)
low_in low [] end test cuts some = absurd (false≢true some)
low_in low (shard ∷ shards) end test cuts some =
    ⊎_elim (λ here. let later = Cuts-le (shard.high + 1) shards end cuts.2 in (shard.low, omega (arith, later, cuts.0, cuts.1), here))
    (λ there. low_in (shard.high + 1) shards end test cuts.2 there)
    (or_cases (test shard.low) (list_any (λ other. test other.low) shards) some)

pub low_of : (tables : List (List Shard)) (test : ℕ → Bool) → EachCovers tables → list_any (list_any (λ shard. test shard.low)) tables ≡ true
    → (key : ℕ) × (key < 2 ^ 64) × (test key ≡ true)
low_of [] test covers some = absurd (false≢true some)
low_of (shards ∷ tables) test covers some =
    ⊎_elim (λ here. low_in 0 shards (2 ^ 64) test covers.0 here) (λ there. low_of tables test covers.1 there)
    (or_cases (list_any (λ shard. test shard.low) shards) (list_any (list_any (λ shard. test shard.low)) tables) some)
