-- The binary search for the shard of a key.
use Rattle.std.proofs.Common.{◌≡◌, ℕ, zero, suc, ◌+◌, ◌≤◌, ◌<◌, List, [], ◌∷◌, length, get_or, true, false, cond, ltb, leb, refl, ap, ◌∙◌, arith}
use Rattle.std.specs.List.Sorted.{IsNonDecreasingBy, IsPartitionPoint}
use Rattle.std.proofs.lemmas.Bool.Decides.{nat_tests}
use Rattle.lynx_shards.specs.declared.shard.Shard.{Shard}
use Rattle.lynx_shards.specs.Ranges.{Cuts, Covers, EachCovers}
use Rattle.lynx_shards.specs.Shards.{server_in}

-- no shard ends below the key that the shards begin with
ends_above : (low : ℕ) (shards : List Shard) (end : ℕ) → Cuts low shards end → (j : ℕ) (d : Shard) → j < length shards → low ≤ (get_or shards j d).high
ends_above low [] end cuts j d lt = absurd (omega arith)
ends_above low (shard ∷ shards) end cuts zero d lt = cuts.1
ends_above low (shard ∷ shards) end cuts (suc j) d lt =
    let later : shard.high + 1 ≤ (get_or shards j d).high = ends_above (shard.high + 1) shards end cuts.2 j d (omega arith) in
    omega (arith, cuts.1)

-- the ends of shards that follow one another rise
pub ends_rise : (low : ℕ) (shards : List Shard) (end : ℕ) → Cuts low shards end → IsNonDecreasingBy (λ shard. shard.high) shards
ends_rise low [] end cuts i j d le lt = absurd (omega arith)
ends_rise low (shard ∷ shards) end cuts zero zero d le lt = omega arith
ends_rise low (shard ∷ shards) end cuts zero (suc j) d le lt =
    let later : shard.high + 1 ≤ (get_or shards j d).high = ends_above (shard.high + 1) shards end cuts.2 j d (omega arith) in
    omega arith
ends_rise low (shard ∷ shards) end cuts (suc i) zero d le lt = absurd (omega arith)
ends_rise low (shard ∷ shards) end cuts (suc i) (suc j) d le lt = ends_rise (shard.high + 1) shards end cuts.2 i j d (omega arith) (omega arith)

-- what stands before the place ends below the key, and what stands from it on doesn't
abbrev pub Parts : List Shard → ℕ → ℕ → Type 0
Parts shards key place = IsPartitionPoint (λ shard. ltb shard.high key ≡ true) (λ shard. ltb shard.high key ≡ false) shards place

Parts-tail : (shard : Shard) (shards : List Shard) (key place : ℕ) → Parts (shard ∷ shards) key (suc place) → Parts shards key place
Parts-tail shard shards key place parts =
    (λ k d low high. parts.0 (suc k) d (omega arith) (omega arith), λ k d low high. parts.1 (suc k) d (omega arith) (omega arith))

server_in-later : (shard : Shard) (shards : List Shard) (key place : ℕ) → Parts (shard ∷ shards) key (suc place) → server_in (shard ∷ shards) key ≡ server_in shards key
server_in-later shard shards key place parts =
    let below : ltb shard.high key ≡ true = parts.0 0 shard (omega arith) (omega arith) in
    let no : leb key shard.high ≡ false = grind (arith, nat_tests) in
    ap (λ b. cond b shard.server (server_in shards key)) no

-- the first shard that doesn't end below the key stands where the search stops
pub server_in-found : (shards : List Shard) (key place : ℕ) (d : Shard) → place < length shards → Parts shards key place → server_in shards key ≡ (get_or shards place d).server
server_in-found [] key place d lt parts = absurd (omega arith)
server_in-found (shard ∷ shards) key zero d lt parts =
    let no : ltb shard.high key ≡ false = parts.1 0 shard (omega arith) (omega arith) in
    let yes : leb key shard.high ≡ true = grind (arith, nat_tests) in
    ap (λ b. cond b shard.server (server_in shards key)) yes
server_in-found (shard ∷ shards) key (suc place) d lt parts =
    server_in-later shard shards key place parts ∙ server_in-found shards key place d (omega arith) (Parts-tail shard shards key place parts)

-- where it stops at the end there is none
pub server_in-none : (shards : List Shard) (key place : ℕ) → length shards ≤ place → Parts shards key place → server_in shards key ≡ 0
server_in-none [] key place le parts = refl
server_in-none (shard ∷ shards) key zero le parts = absurd (omega arith)
server_in-none (shard ∷ shards) key (suc place) le parts =
    server_in-later shard shards key place parts ∙ server_in-none shards key place (omega arith) (Parts-tail shard shards key place parts)

-- each table of a map that covers does
pub EachCovers-at : (tables : List (List Shard)) (i : ℕ) (d : List Shard) → EachCovers tables → i < length tables → Covers (get_or tables i d)
EachCovers-at [] i d each lt = absurd (omega arith)
EachCovers-at (first ∷ tables) zero d each lt = each.0
EachCovers-at (first ∷ tables) (suc i) d each lt = EachCovers-at tables i d each.1 (omega arith)
