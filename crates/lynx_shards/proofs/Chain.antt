-- Shards that follow one another.
use Rattle.std.proofs.Common.{◌≡◌, ℕ, ◌+◌, ◌≤◌, ◌<◌, List, [], ◌∷◌, ◌++◌, ◌^◌, Option, Some, None, Bool, true, false, cond, eqb, length, get_or, drop, refl, sym, ap, subst, ◌∙◌, arith}
use Rattle.std.specs.Prelude.{IsTrue}
use Rattle.std.specs.Option.{option_eq}
use Rattle.std.proofs.lemmas.Bool.{false≢true, eqb-true, eq-eqb}
use Rattle.std.proofs.lemmas.List.{at_drop_more}
use Rattle.lynx_shards.specs.declared.range.Range.{Range}
use Rattle.lynx_shards.specs.declared.fault.ShardFault.TheVariants.{Gap}
use Rattle.std.proofs.lemmas.Bool.Decides.{nat_tests, same_from_decides, Decides-eqb}
use Rattle.lynx_shards.specs.declared.shard.Shard.{Shard}
use Rattle.lynx_shards.specs.Ranges.{last_key, next_key, range_fault, first_fault, table_fault, Cuts, Covers, EachCovers}

not_true-false : (b : Bool) → (b ≡ true → ⊥) → b ≡ false
not_true-false true h = absurd (h refl)
not_true-false false h = refl

-- one more shard ends where it says
pub last_key-push : (before : Option ℕ) (shards : List Shard) (shard : Shard) → last_key before (shards ++ shard ∷ []) ≡ Some shard.high
last_key-push before [] shard = refl
last_key-push before (first ∷ shards) shard = last_key-push (Some first.high) shards shard

-- a shard that begins where the others end carries on
pub Cuts-push : (low : ℕ) (shards : List Shard) (end : ℕ) (shard : Shard) → Cuts low shards end → shard.low ≡ end → end ≤ shard.high → Cuts low (shards ++ shard ∷ []) (shard.high + 1)
Cuts-push low [] end shard cuts begins within = (begins ∙ sym cuts, omega arith, refl)
Cuts-push low (first ∷ shards) end shard cuts begins within = (cuts.0, cuts.1, Cuts-push (first.high + 1) shards end shard cuts.2 begins within)

-- a range without a fault begins where it is to, and ends no lower
pub record IsNext (before : Option ℕ) (low high : ℕ) : Type 0 where
  pub begins : low ≡ next_key before
  pub within : low ≤ high

pub next_if_no_fault : (servers : ℕ) (before : Option ℕ) (low high server : ℕ) → range_fault servers before low high server ≡ None → IsNext before low high
next_if_no_fault servers before low high server ok = record { begins = grind (arith, nat_tests); within = grind (arith, nat_tests) }

-- where shards end is one key
pub Cuts-end : (low : ℕ) (shards : List Shard) (one other : ℕ) → Cuts low shards one → Cuts low shards other → one ≡ other
Cuts-end low [] one other a b = sym a ∙ b
Cuts-end low (shard ∷ shards) one other a b = Cuts-end (shard.high + 1) shards one other a.2 b.2

-- one more table that covers
pub EachCovers-push : (tables : List (List Shard)) (shards : List Shard) → EachCovers tables → Covers shards → EachCovers (tables ++ shards ∷ [])
EachCovers-push [] shards each covers = (covers, tt)
EachCovers-push (first ∷ tables) shards each covers = (each.0, EachCovers-push tables shards each.1 covers)

-- the test for the greatest key says whether the shards cover
pub whole_is : (last : Option ℕ) (shards : List Shard) (r : Bool) → Cuts 0 shards (next_key last) → r ≡ option_eq eqb last (Some 18446744073709551615) → (IsTrue r → Covers shards) × (Covers shards → IsTrue r)
whole_is None shards r cuts is = (
  λ yes. absurd (false≢true (sym is ∙ yes)),
  λ covers. let e : 0 ≡ 2 ^ 64 = Cuts-end 0 shards 0 (2 ^ 64) cuts covers in absurd (omega arith),
)
whole_is (Some last) shards r cuts is = (
  λ yes. let e : last ≡ 18446744073709551615 = eqb-true _ _ (sym is ∙ yes) in
      let k : last + 1 ≡ 2 ^ 64 = omega arith in
      subst (λ (end : ℕ). Cuts 0 shards end) k cuts,
  λ covers. let e : last + 1 ≡ 2 ^ 64 = Cuts-end 0 shards (last + 1) (2 ^ 64) cuts covers in
      is ∙ eq-eqb last 18446744073709551615 (omega arith),
)

-- shards that don't cover leave a gap at the end
pub gap_if_short : (servers : ℕ) (last : Option ℕ) (shards : List Shard) → last ≡ last_key None shards → Cuts 0 shards (next_key last) → (Covers shards → ⊥) → table_fault servers (last_key None shards) [] ≡ Some Gap
gap_if_short servers last shards is cuts short =
    let no : eqb (next_key last) (2 ^ 64) ≡ false = not_true-false _ (λ yes. short (subst (λ (end : ℕ). Cuts 0 shards end) (eqb-true _ _ yes) cuts)) in
    ap (λ (b : Option ℕ). table_fault servers b []) (sym is) ∙ ap (λ (b : Bool). cond b None (Some Gap)) no

-- and shards that cover leave none
pub no_gap_if_whole : (servers : ℕ) (last : Option ℕ) (shards : List Shard) → last ≡ last_key None shards → Cuts 0 shards (next_key last) → Covers shards → table_fault servers (last_key None shards) [] ≡ None
no_gap_if_whole servers last shards is cuts covers =
    ap (λ (b : Option ℕ). table_fault servers b []) (sym is)
    ∙ ap (λ (b : Bool). cond b None (Some Gap)) (eq-eqb (next_key last) (2 ^ 64) (Cuts-end 0 shards (next_key last) (2 ^ 64) cuts covers))

-- a range without a fault leaves the fault to the ranges after it
pub fault_after : (servers : ℕ) (before : Option ℕ) (ranges : List Range) (i : ℕ) (d : Range) → i < length ranges
    → range_fault servers before (get_or ranges i d).low (get_or ranges i d).high (get_or ranges i d).server ≡ None
    → table_fault servers before (drop i ranges) ≡ table_fault servers (Some (get_or ranges i d).high) (drop (i + 1) ranges)
fault_after servers before ranges i d lt none =
    at_drop_more (table_fault servers before) ranges i d lt
    ∙ ap (λ f. first_fault f (table_fault servers (Some (get_or ranges i d).high) (drop (i + 1) ranges))) none

next_greatest : (last : ℕ) → eqb last 18446744073709551615 ≡ eqb (last + 1) (2 ^ 64)
next_greatest last = same_from_decides _ _ (Decides-eqb last 18446744073709551615) (λ e. let k : last + 1 ≡ 2 ^ 64 = eqb-true _ _ e in omega arith, λ e. eq-eqb (last + 1) (2 ^ 64) (omega arith))

-- the test for the greatest key is one for the key after it
pub whole_test : (last : Option ℕ) (shards : List Shard) (r : Bool) → last ≡ last_key None shards → r ≡ option_eq eqb last (Some 18446744073709551615) → r ≡ eqb (next_key (last_key None shards)) (2 ^ 64)
whole_test last shards r is asked = asked ∙ by last ∙ ap (λ (l : Option ℕ). eqb (next_key l) (2 ^ 64)) is
  where
    by : (l : Option ℕ) → option_eq eqb l (Some 18446744073709551615) ≡ eqb (next_key l) (2 ^ 64)
    by None = refl
    by (Some k) = next_greatest k
