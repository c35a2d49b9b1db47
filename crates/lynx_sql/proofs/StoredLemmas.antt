-- Edits of the list of stored cells, and of their rows.
use Rattle.std.proofs.Common.{◌≡◌, ◌≢◌, ◌⊎◌, inl, inr, ℕ, ℤ, pos, ◌+ℤ◌, ◌≤ℤ◌, ◌<ℤ◌, List, [], ◌∷◌, ◌++◌, map, Bool, true, false, not, cond, Option, Some, None, filter, refl, sym, ap, subst, ◌∙◌, arith, Less, Equal, Greater}
use Rattle.std.proofs.lemmas.Int.{ints}
use Rattle.std.proofs.lemmas.Bool.Decides.{nat_tests}
use Rattle.std.proofs.lemmas.Cmp.{tied_itself}
use Rattle.std.specs.Ordering.{eq_by_cmp, is_eq, int_cmp}
use Rattle.std.specs.List.{AllByRecursion, flat_map, fold}
use Rattle.sqlite_value.specs.Order.{value_cmp}
use Rattle.sqlite_value.proofs.OrderLemmas.{value_cmp-Int}
use Rattle.sqlite.specs.declared.types.Value.TheVariants.{Int}
use Rattle.sqlite.specs.Order.{Row}
use Rattle.sqlite_trees.specs.Tree.{IsAscending, put_row, without_rowid, has_rowid, rowid}
use Rattle.sqlite_rules.specs.Edit.{next_rowid, id_in}
use Rattle.sqlite_trees.proofs.ListLemmas.{all_weaker}
use Rattle.lynx_cells.specs.Database.{cell_cmp}
use Rattle.lynx_cells.proofs.CellOrder.{same_cell, cell_cmp_total}
use Rattle.lynx_sql.specs.Cells.{Stored, cell_row, cell_of, find_stored, Fits, ComesBefore}

-- it is not this cell that is stored
abbrev pub Misses : ℕ × ℕ → Stored → Type 0
Misses cell x = eq_by_cmp cell_cmp cell (cell_of x) ≡ false

pub is_itself : (cell : ℕ × ℕ) → eq_by_cmp cell_cmp cell cell ≡ true
is_itself cell = ap is_eq (tied_itself cell_cmp_total cell)

misses_from : (cell other : ℕ × ℕ) (b : Bool) → eq_by_cmp cell_cmp cell other ≡ b → cell ≢ other → b ≡ false
misses_from cell other true is apart = absurd (apart (same_cell cell other is))
misses_from cell other false is apart = refl

-- the one place of a cell
pub record Place (xs : List Stored) (cell : ℕ × ℕ) : Type 0 where
  pub front : List Stored
  pub at : Stored
  pub back : List Stored
  pub is : xs ≡ front ++ at ∷ back
  pub same : cell_of at ≡ cell
  pub before : AllByRecursion (Misses cell) front
  pub after : AllByRecursion (Misses cell) back

pub place_of : (xs : List Stored) (cell : ℕ × ℕ) → IsAscending ComesBefore xs → AllByRecursion (Misses cell) xs ⊎ Place xs cell
place_of [] cell up = inl tt
place_of (x ∷ xs) cell up =
    elim (eq_by_cmp cell_cmp cell (cell_of x)) as (λ b. eq_by_cmp cell_cmp cell (cell_of x) ≡ b → AllByRecursion (Misses cell) (x ∷ xs) ⊎ Place (x ∷ xs) cell) [
      | true ↦ λ here. let is = same_cell cell (cell_of x) here in inr (record {
        front = [];
        at = x;
        back = xs;
        is = refl;
        same = sym is;
        before = tt;
        after = all_weaker (ComesBefore x) (Misses cell) (λ y h. misses_from cell (cell_of y) _ refl (λ e. h.apart (sym is ∙ e))) xs up.0;
      })
      | false ↦ λ other. elim (place_of xs cell up.1) [
        | inl none ↦ inl (other, none)
        | inr p ↦ inr (record { front = x ∷ p.front; at = p.at; back = p.back; is = ap (λ ys. x ∷ ys) p.is; same = p.same; before = (other, p.before); after = p.after })
      ]
    ] refl

-- ---- look-ups

swapped : (a b : Bool) (x y old : Option ℕ) → (a ≡ true → b ≡ true → ⊥) → cond a x (cond b y old) ≡ cond b y (cond a x old)
swapped true true x y old apart = absurd (apart refl refl)
swapped true false x y old apart = refl
swapped false b x y old apart = refl

twice : (b : Bool) (x y old : Option ℕ) → cond b x old ≡ cond b x (cond b y old)
twice true x y old = refl
twice false x y old = refl

apart_from : (cell other q : ℕ × ℕ) → eq_by_cmp cell_cmp cell other ≡ false → eq_by_cmp cell_cmp q other ≡ true → eq_by_cmp cell_cmp q cell ≡ true → ⊥
apart_from cell other q misses there here =
    let a = same_cell q other there in let b = same_cell q cell here in let e : eq_by_cmp cell_cmp cell other ≡ true = ap (λ c. eq_by_cmp cell_cmp c other) (sym b ∙ a) ∙ is_itself other in cc

pub find_missing : (xs : List Stored) (cell : ℕ × ℕ) → AllByRecursion (Misses cell) xs → find_stored xs cell ≡ None
find_missing [] cell none = refl
find_missing (x ∷ xs) cell none = ap (λ b. cond b (Some x.value) (find_stored xs cell)) none.0 ∙ find_missing xs cell none.1

-- where the cell is missing, nothing is there to take out
pub find_missing_less : (xs : List Stored) (cell q : ℕ × ℕ) → AllByRecursion (Misses cell) xs → find_stored xs q ≡ cond (eq_by_cmp cell_cmp q cell) None (find_stored xs q)
find_missing_less xs cell q none =
    elim (eq_by_cmp cell_cmp q cell) as (λ b. eq_by_cmp cell_cmp q cell ≡ b → find_stored xs q ≡ cond b None (find_stored xs q)) [
      | true ↦ λ is. ap (find_stored xs) (same_cell q cell is) ∙ find_missing xs cell none
      | false ↦ λ _. refl
    ] refl

pub find_added : (xs : List Stored) (new : Stored) (cell q : ℕ × ℕ) → cell_of new ≡ cell → AllByRecursion (Misses cell) xs
    → find_stored (xs ++ new ∷ []) q ≡ cond (eq_by_cmp cell_cmp q cell) (Some new.value) (find_stored xs q)
find_added [] new cell q same none = ap (λ c. cond (eq_by_cmp cell_cmp q c) (Some new.value) None) same
find_added (x ∷ xs) new cell q same none =
    ap (cond (eq_by_cmp cell_cmp q (cell_of x)) (Some x.value)) (find_added xs new cell q same none.1)
    ∙ swapped (eq_by_cmp cell_cmp q (cell_of x)) (eq_by_cmp cell_cmp q cell) _ _ _ (apart_from cell (cell_of x) q none.0)

pub find_replaced : (front back : List Stored) (at new : Stored) (cell q : ℕ × ℕ) → cell_of at ≡ cell → cell_of new ≡ cell → AllByRecursion (Misses cell) front
    → find_stored (front ++ new ∷ back) q ≡ cond (eq_by_cmp cell_cmp q cell) (Some new.value) (find_stored (front ++ at ∷ back) q)
find_replaced [] back at new cell q same renewed none =
    ap (λ c. cond (eq_by_cmp cell_cmp q c) (Some new.value) (find_stored back q)) renewed
    ∙ twice (eq_by_cmp cell_cmp q cell) (Some new.value) (Some at.value) (find_stored back q)
    ∙ ap (λ c. cond (eq_by_cmp cell_cmp q cell) (Some new.value) (cond (eq_by_cmp cell_cmp q c) (Some at.value) (find_stored back q))) (sym same)
find_replaced (x ∷ xs) back at new cell q same renewed none =
    ap (cond (eq_by_cmp cell_cmp q (cell_of x)) (Some x.value)) (find_replaced xs back at new cell q same renewed none.1)
    ∙ swapped (eq_by_cmp cell_cmp q (cell_of x)) (eq_by_cmp cell_cmp q cell) _ _ _ (apart_from cell (cell_of x) q none.0)

pub find_removed : (front back : List Stored) (at : Stored) (cell q : ℕ × ℕ) → cell_of at ≡ cell → AllByRecursion (Misses cell) front → AllByRecursion (Misses cell) back
    → find_stored (front ++ back) q ≡ cond (eq_by_cmp cell_cmp q cell) None (find_stored (front ++ at ∷ back) q)
find_removed [] back at cell q same none later =
    find_missing_less back cell q later
    ∙ twice (eq_by_cmp cell_cmp q cell) None (Some at.value) (find_stored back q)
    ∙ ap (λ c. cond (eq_by_cmp cell_cmp q cell) None (cond (eq_by_cmp cell_cmp q c) (Some at.value) (find_stored back q))) (sym same)
find_removed (x ∷ xs) back at cell q same none later =
    ap (cond (eq_by_cmp cell_cmp q (cell_of x)) (Some x.value)) (find_removed xs back at cell q same none.1 later)
    ∙ swapped (eq_by_cmp cell_cmp q (cell_of x)) (eq_by_cmp cell_cmp q cell) _ _ _ (apart_from cell (cell_of x) q none.0)

-- ---- order

module _ (R : Stored → Type 0) where
  all_front : (front : List Stored) (rest : List Stored) → AllByRecursion R (front ++ rest) → AllByRecursion R front
  all_front [] rest h = tt
  all_front (x ∷ xs) rest h = (h.0, all_front xs rest h.1)

  all_rest : (front : List Stored) (rest : List Stored) → AllByRecursion R (front ++ rest) → AllByRecursion R rest
  all_rest [] rest h = h
  all_rest (x ∷ xs) rest h = all_rest xs rest h.1

  all_joined : (front : List Stored) (rest : List Stored) → AllByRecursion R front → AllByRecursion R rest → AllByRecursion R (front ++ rest)
  all_joined [] rest h k = k
  all_joined (x ∷ xs) rest h k = (h.0, all_joined xs rest h.1 k)

pub fit_removed : (front back : List Stored) (at : Stored) → AllByRecursion Fits (front ++ at ∷ back) → AllByRecursion Fits (front ++ back)
fit_removed front back at h = all_joined Fits front back (all_front Fits front _ h) (all_rest Fits front _ h).1

pub fit_replaced : (front back : List Stored) (at new : Stored) → Fits new → AllByRecursion Fits (front ++ at ∷ back) → AllByRecursion Fits (front ++ new ∷ back)
fit_replaced front back at new fits h = all_joined Fits front _ (all_front Fits front _ h) (fits, (all_rest Fits front _ h).1)

pub fit_at : (front back : List Stored) (at : Stored) → AllByRecursion Fits (front ++ at ∷ back) → Fits at
fit_at front back at h = (all_rest Fits front _ h).0

pub fit_front : (front back : List Stored) (at : Stored) → AllByRecursion Fits (front ++ at ∷ back) → AllByRecursion Fits front
fit_front front back at h = all_front Fits front _ h

pub fit_back : (front back : List Stored) (at : Stored) → AllByRecursion Fits (front ++ at ∷ back) → AllByRecursion Fits back
fit_back front back at h = (all_rest Fits front _ h).1

pub fit_added : (xs : List Stored) (new : Stored) → AllByRecursion Fits xs → Fits new → AllByRecursion Fits (xs ++ new ∷ [])
fit_added xs new h fits = all_joined Fits xs _ h (fits, tt)

pub up_removed : (front back : List Stored) (at : Stored) → IsAscending ComesBefore (front ++ at ∷ back) → IsAscending ComesBefore (front ++ back)
up_removed [] back at up = up.1
up_removed (x ∷ xs) back at up =
    (all_joined (ComesBefore x) xs back (all_front (ComesBefore x) xs _ up.0) (all_rest (ComesBefore x) xs _ up.0).1, up_removed xs back at up.1)

pub up_replaced : (front back : List Stored) (at : Stored) (value : ℕ) → IsAscending ComesBefore (front ++ at ∷ back) → IsAscending ComesBefore (front ++ record at { value = value } ∷ back)
up_replaced [] back at value up = (all_weaker (ComesBefore at) (ComesBefore (record at { value = value })) (λ y h. record { rises = h.rises; apart = h.apart }) back up.0, up.1)
up_replaced (x ∷ xs) back at value up =
    let later = all_rest (ComesBefore x) xs _ up.0 in
    (all_joined (ComesBefore x) xs _ (all_front (ComesBefore x) xs _ up.0) (record { rises = later.0.rises; apart = later.0.apart }, later.1), up_replaced xs back at value up.1)

pub up_added : (xs : List Stored) (new : Stored) → AllByRecursion (λ x. x.id <ℤ new.id) xs → AllByRecursion (Misses (cell_of new)) xs → IsAscending ComesBefore xs → IsAscending ComesBefore (xs ++ new ∷ [])
up_added [] new low none up = (tt, tt)
up_added (x ∷ xs) new low none up = (
  all_joined (ComesBefore x) xs _ up.0 (record { rises = low.0; apart = λ e. let there : eq_by_cmp cell_cmp (cell_of new) (cell_of x) ≡ true = ap (λ c. eq_by_cmp cell_cmp c (cell_of x)) (sym e) ∙ is_itself (cell_of x) in cc (there, none.0) }, tt),
  up_added xs new low.1 none.1 up.1,
)

pub ids_before : (front back : List Stored) (at : Stored) → IsAscending ComesBefore (front ++ at ∷ back) → AllByRecursion (λ x. x.id <ℤ at.id) front
ids_before [] back at up = tt
ids_before (x ∷ xs) back at up = ((all_rest (ComesBefore x) xs _ up.0).0.rises, ids_before xs back at up.1)

pub ids_after : (front back : List Stored) (at : Stored) → IsAscending ComesBefore (front ++ at ∷ back) → AllByRecursion (λ x. at.id <ℤ x.id) back
ids_after [] back at up = all_weaker (ComesBefore at) (λ x. at.id <ℤ x.id) (λ x h. h.rises) back up.0
ids_after (x ∷ xs) back at up = ids_after xs back at up.1

-- ---- rows

pub id_less : (a b : ℤ) → a <ℤ b → value_cmp (Int a) (Int b) ≡ Less
id_less a b h = value_cmp-Int a b ∙ grind (arith, ints, nat_tests)

pub id_same : (a : ℤ) → value_cmp (Int a) (Int a) ≡ Equal
id_same a = value_cmp-Int a a ∙ grind (arith, ints, nat_tests)

pub id_more : (a b : ℤ) → b <ℤ a → value_cmp (Int a) (Int b) ≡ Greater
id_more a b h = value_cmp-Int a b ∙ grind (arith, ints, nat_tests)

without_later : (back : List Stored) (id : ℤ) → AllByRecursion (λ x. id <ℤ x.id) back → without_rowid id (map cell_row back) ≡ map cell_row back
without_later [] id up = refl
without_later (x ∷ xs) id up = rw (id_more x.id id up.0) (ap (λ rows. cell_row x ∷ rows) (without_later xs id up.1))

pub rows_without : (front back : List Stored) (at : Stored) → AllByRecursion (λ x. x.id <ℤ at.id) front → AllByRecursion (λ x. at.id <ℤ x.id) back
    → without_rowid at.id (map cell_row (front ++ at ∷ back)) ≡ map cell_row (front ++ back)
rows_without [] back at low up = rw (id_same at.id) (without_later back at.id up)
rows_without (x ∷ xs) back at low up = rw (id_less x.id at.id low.0) (ap (λ rows. cell_row x ∷ rows) (rows_without xs back at low.1 up))

pub rows_with : (front back : List Stored) (new : Stored) → AllByRecursion (λ x. x.id <ℤ new.id) front → AllByRecursion (λ x. new.id <ℤ x.id) back
    → put_row (cell_row new) (map cell_row (front ++ back)) ≡ map cell_row (front ++ new ∷ back)
rows_with [] [] new low up = refl
rows_with [] (y ∷ ys) new low up = rw (id_more y.id new.id up.0) refl
rows_with (x ∷ xs) back new low up = rw (id_less x.id new.id low.0) (ap (λ rows. cell_row x ∷ rows) (rows_with xs back new low.1 up))

abbrev past : ℤ → Row → ℤ
past n r = id_in (rowid r) +ℤ pos 1

above_from : (n : ℤ) (xs : List Stored) → IsAscending ComesBefore xs → AllByRecursion (λ x. n ≤ℤ x.id) xs
    → (n ≤ℤ fold past n (map cell_row xs)) × AllByRecursion (λ x. x.id <ℤ fold past n (map cell_row xs)) xs
above_from n [] up low = (omega (arith, ints), tt)
above_from n (x ∷ xs) up low =
    let rest = above_from (x.id +ℤ pos 1) xs up.1 (all_weaker (ComesBefore x) (λ y. (x.id +ℤ pos 1) ≤ℤ y.id) (λ y h. let r = h.rises in omega (arith, ints)) xs up.0) in
    let first = rest.0 in
    let here = low.0 in
    (omega (arith, ints), (omega (arith, ints), rest.1))

pub below_next : (xs : List Stored) → IsAscending ComesBefore xs → AllByRecursion (λ x. x.id <ℤ next_rowid (map cell_row xs)) xs
below_next [] up = tt
below_next (x ∷ xs) up =
    let rest = above_from (x.id +ℤ pos 1) xs up.1 (all_weaker (ComesBefore x) (λ y. (x.id +ℤ pos 1) ≤ℤ y.id) (λ y h. let r = h.rises in omega (arith, ints)) xs up.0) in
    let first = rest.0 in
    (omega (arith, ints), rest.1)
