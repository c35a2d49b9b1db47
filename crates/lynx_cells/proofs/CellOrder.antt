-- The order of cells is total and tells any two apart, and what a look-up finds among entries in that order.
use Rattle.std.specs.Prelude.{◌≡◌, ℕ, Bool, true, false, cond, T, ◌&&◌, List, [], ◌∷◌, Some, None, refl}
use Rattle.std.proofs.Common.{ap, ◌∙◌, Less, Equal, Greater}
use Rattle.std.specs.Ordering.{nat_cmp, eq_by_cmp, is_eq, is_lt}
use Rattle.std.specs.declared.cmp.Ordering.{Ordering}
use Rattle.std.specs.Cmp.{IsTotalOrder}
use Rattle.std.proofs.lemmas.Cmp.{nat_cmp_total, on_total, then_total, tied_itself}
use Rattle.std.proofs.lemmas.Map.Lookups.{exact_pairs, exact_unsigned}
use Rattle.std.specs.FinMap as map
use Rattle.std.specs.FinMap.Entries.{below_all}
use Rattle.lynx_cells.specs.Database.{cell_cmp}

-- the order of cells is total
pub cell_cmp_total : IsTotalOrder cell_cmp
cell_cmp_total = then_total (on_total (λ (c : ℕ × ℕ). c.0) nat_cmp_total) (on_total (λ (c : ℕ × ℕ). c.1) nat_cmp_total)

-- cells that tie are one cell
pub cell_cmp_exact : map.IsAntisymmetric cell_cmp
cell_cmp_exact = exact_pairs nat_cmp nat_cmp exact_unsigned exact_unsigned

-- cells that the order's test finds alike are one cell
pub same_cell : (a b : ℕ × ℕ) → eq_by_cmp cell_cmp a b ≡ true → a ≡ b
same_cell a b e =
    elim (cell_cmp a b) as (λ r. cell_cmp a b ≡ r → is_eq r ≡ true → a ≡ b) [
      | Less ↦ λ p h. cc
      | Equal ↦ λ p h. cell_cmp_exact a b p
      | Greater ↦ λ p h. cc
    ] refl e

-- both parts of a test that passes, and the way back
pub first_part : (a b : Bool) → T (a && b) → T a
first_part true b h = tt
first_part false b h = h

pub second_part : (a b : Bool) → T (a && b) → T b
second_part true b h = h
second_part false b h = absurd h

pub both_parts : (a b : Bool) → T a → T b → T (a && b)
both_parts true b p q = q
both_parts false b p q = p

-- an answer that is below is `Less`
pub is_lt_less : (r : Ordering) → T (is_lt r) → r ≡ Less
is_lt_less Less h = refl
is_lt_less Equal h = absurd h
is_lt_less Greater h = absurd h

-- a cell below each of some entries is not among them
pub find_below : (cell : ℕ × ℕ) (es : List ((ℕ × ℕ) × ℕ)) → T (below_all cell_cmp cell es) → map.find cell_cmp cell es ≡ None
find_below cell [] h = refl
find_below cell (e ∷ es) h =
    let less = is_lt_less (cell_cmp cell e.0) (first_part _ _ h) in
    ap (λ r. cond (is_eq r) (Some e.1) (map.find cell_cmp cell es)) less ∙ find_below cell es (second_part _ _ h)

-- the first entry is found
pub find_first : (e : (ℕ × ℕ) × ℕ) (es : List ((ℕ × ℕ) × ℕ)) → map.find cell_cmp e.0 (e ∷ es) ≡ Some e.1
find_first e es = ap (λ r. cond (is_eq r) (Some e.1) (map.find cell_cmp e.0 es)) (tied_itself cell_cmp_total e.0)
