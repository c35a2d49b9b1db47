-- When a statement's tests find a stored cell, and what its queries answer.
use Rattle.std.proofs.Common.{◌≡◌, ◌≢◌, ◌<◌, ◌^◌, ℕ, ℤ, pos, List, [], ◌∷◌, ◌++◌, map, Bool, true, false, cond, ◌&&◌, Some, None, refl, sym, ap, subst, ◌∙◌, Less, Equal, Greater}
use Rattle.std.specs.Int.{w64, to_be_bytes, from_be_bytes}
use Rattle.std.proofs.lemmas.Nat.{from_be_bytes-to_be_bytes_8}
use Rattle.std.proofs.lemmas.Cmp.{tied_itself}
use Rattle.std.proofs.lemmas.Map.Lookups.{exact_signed, exact_bytes}
use Rattle.std.specs.declared.cmp.Ordering.{Ordering}
use Rattle.std.specs.Ordering.{eq_by_cmp, is_eq, int_cmp, nat_cmp}
use Rattle.std.specs.Cmp.Lexicographic.{slice_cmp}
use Rattle.std.specs.List.{AllByRecursion, flat_map, list_all}
use Rattle.std.specs.List.Sorted.{IsPermutation}
use Rattle.sqlite_value.specs.Order.{value_cmp}
use Rattle.sqlite_value.proofs.OrderLemmas.{value_cmp-Int, value_cmp-Blob, value_cmp_total}
use Rattle.sqlite.specs.declared.types.Value.{Value}
use Rattle.sqlite.specs.declared.types.Value.TheVariants.{Null, Int, Blob}
use Rattle.sqlite.specs.Order.{Row}
use Rattle.sqlite.specs.Tree.{Trees}
use Rattle.sqlite.specs.Ops.{binary, is_true, from_truth}
use Rattle.sqlite_sql.specs.declared.ops.BinaryOp.TheVariants.{Compare}
use Rattle.sqlite_sql.specs.declared.ops.CompareOp.TheVariants.{Eq}
use Rattle.sqlite.specs.Collation.TheVariants.{Binary}
use Rattle.sqlite.specs.Term.{Term, Env, eval_all, holds}
use Rattle.sqlite.specs.Query.{Query, IsAnswer, output, page, Output}
use Rattle.sqlite.proofs.Callers.{one_permutation}
use Rattle.std.proofs.lemmas.List.Sorted.{length_permutation}
use Rattle.lynx_cells.specs.Database.{cell_cmp}
use Rattle.lynx_sql.specs.Cells.{Stored, cell_row, cell_of, Fits}
use Rattle.lynx_sql.proofs.Understood.{query_over}
use Rattle.lynx_sql.proofs.StoredLemmas.{Misses, is_itself}

pub truth_of : (b : Bool) → is_true (from_truth (Some b)) ≡ b
truth_of true = refl
truth_of false = refl

abbrev pub equals : Value → Value → Bool
equals a b = is_true (binary (Compare Eq Binary) a b)

equal_ints : (m n : ℤ) → equals (Int m) (Int n) ≡ is_eq (value_cmp (Int m) (Int n))
unfolding binary
equal_ints m n = truth_of _

equal_blobs : (a b : List ℕ) → equals (Blob a) (Blob b) ≡ is_eq (value_cmp (Blob a) (Blob b))
unfolding binary
equal_blobs a b = truth_of _

equal_from : (r : Ordering) → is_eq r ≡ true → r ≡ Equal
equal_from Less h = cc
equal_from Equal h = refl
equal_from Greater h = cc

pub ints_alike : (m n : ℤ) → m ≡ n → equals (Int m) (Int n) ≡ true
ints_alike m n same = equal_ints m n ∙ ap (λ k. is_eq (value_cmp (Int m) (Int k))) (sym same) ∙ ap is_eq (tied_itself value_cmp_total (Int m))

blobs_alike : (a b : List ℕ) → a ≡ b → equals (Blob a) (Blob b) ≡ true
blobs_alike a b same = equal_blobs a b ∙ ap (λ k. is_eq (value_cmp (Blob a) (Blob k))) (sym same) ∙ ap is_eq (tied_itself value_cmp_total (Blob a))

pub ints_are : (m n : ℤ) → equals (Int m) (Int n) ≡ true → m ≡ n
ints_are m n h = exact_signed m n (sym (value_cmp-Int m n) ∙ equal_from (value_cmp (Int m) (Int n)) (sym (equal_ints m n) ∙ h))

blobs_are : (a b : List ℕ) → equals (Blob a) (Blob b) ≡ true → a ≡ b
blobs_are a b h = exact_bytes a b (sym (value_cmp-Blob a b) ∙ equal_from (value_cmp (Blob a) (Blob b)) (sym (equal_blobs a b) ∙ h))

same_key : (k n : ℕ) → k < 2 ^ 64 → n < 2 ^ 64 → to_be_bytes w64 k ≡ to_be_bytes w64 n → k ≡ n
same_key k n low fits same = sym (from_be_bytes-to_be_bytes_8 k low) ∙ ap (from_be_bytes w64) same ∙ from_be_bytes-to_be_bytes_8 n fits

-- both tests of a cell, and what follows them
abbrev pub finds_cell : ℕ → ℕ → Stored → Bool
finds_cell t k s = equals (Int (pos s.table)) (Int (pos t)) && (equals (Blob (to_be_bytes w64 s.key)) (Blob (to_be_bytes w64 k)) && true)

pub finds_it : (t k : ℕ) (s : Stored) → cell_of s ≡ (t, k) → finds_cell t k s ≡ true
finds_it t k s same =
    let at : s.table ≡ t = ap (λ (c : ℕ × ℕ). c.0) same in
    let key : s.key ≡ k = ap (λ (c : ℕ × ℕ). c.1) same in
    ap (λ b. b && (equals (Blob (to_be_bytes w64 s.key)) (Blob (to_be_bytes w64 k)) && true)) (ints_alike (pos s.table) (pos t) (ap pos at))
    ∙ ap (λ b. b && true) (blobs_alike (to_be_bytes w64 s.key) (to_be_bytes w64 k) (ap (to_be_bytes w64) key))

both_false : (a b : Bool) → (a ≡ true → b ≡ true → ⊥) → (a && (b && true)) ≡ false
both_false true true h = absurd (h refl refl)
both_false true false h = refl
both_false false b h = refl

pub finds_not : (t k : ℕ) (s : Stored) → k < 2 ^ 64 → Fits s → Misses (t, k) s → finds_cell t k s ≡ false
finds_not t k s low fits misses = both_false _ _ (λ one two.
    let tables = ints_are (pos s.table) (pos t) one in
    let at : s.table ≡ t = cc in
    let key : s.key ≡ k = same_key s.key k fits.key low (blobs_are _ _ two) in
    let cell : cell_of s ≡ (t, k) = ap (λ n. let c : ℕ × ℕ = (n, s.key) in c) at ∙ ap (λ n. let c : ℕ × ℕ = (t, n) in c) key in
    let here : eq_by_cmp cell_cmp (t, k) (cell_of s) ≡ true = ap (eq_by_cmp cell_cmp (t, k)) cell ∙ is_itself (t, k) in
    cc (here, misses))

pub all_not : (t k : ℕ) (xs : List Stored) → k < 2 ^ 64 → AllByRecursion Fits xs → AllByRecursion (Misses (t, k)) xs → AllByRecursion (λ s. finds_cell t k s ≡ false) xs
all_not t k [] low fits misses = tt
all_not t k (x ∷ xs) low fits misses = (finds_not t k x low fits.0 misses.0, all_not t k xs low fits.1 misses.1)

-- ---- what a query over the cells answers

flat_none : {X : Type 0} (f : Row → List X) (xs : List Stored) → AllByRecursion (λ s. f (cell_row s) ≡ []) xs → flat_map f (map cell_row xs) ≡ []
flat_none f [] h = refl
flat_none f (x ∷ xs) h = ap (λ ys. ys ++ flat_map f (map cell_row xs)) h.0 ∙ flat_none f xs h.1

flat_one : {X : Type 0} (f : Row → List X) (v : X) (front back : List Stored) (at : Stored) → AllByRecursion (λ s. f (cell_row s) ≡ []) front → f (cell_row at) ≡ v ∷ [] → AllByRecursion (λ s. f (cell_row s) ≡ []) back
    → flat_map f (map cell_row (front ++ at ∷ back)) ≡ v ∷ []
flat_one f v [] back at none one later = ap (λ ys. ys ++ flat_map f (map cell_row back)) one ∙ ap (λ ys. v ∷ ys) (flat_none f back later)
flat_one f v (x ∷ xs) back at none one later = ap (λ ys. ys ++ flat_map f (map cell_row (xs ++ at ∷ back))) none.0 ∙ flat_one f v xs back at none.1 one later

abbrev pub Tests : List Term → Row → Stored → Bool
Tests filter params s = list_all (holds (params ∷ cell_row s ∷ [])) filter

abbrev picks : List Term → Row → Row → List Env
picks filter params r = cond (list_all (holds (params ∷ r ∷ [])) filter) ((params ∷ r ∷ []) ∷ []) []

none_picked : (filter : List Term) (params : Row) (xs : List Stored) → AllByRecursion (λ s. Tests filter params s ≡ false) xs → AllByRecursion (λ s. picks filter params (cell_row s) ≡ []) xs
none_picked filter params [] h = tt
none_picked filter params (x ∷ xs) h = (ap (λ b. cond b ((params ∷ cell_row x ∷ []) ∷ []) []) h.0, none_picked filter params xs h.1)

pub no_rows : {X : Type 0} (ys : List X) → IsPermutation [] ys → ys ≡ []
no_rows [] h = refl
no_rows (y ∷ ys) h = absurd (let e = length_permutation [] (y ∷ ys) h in cc)

pub answers_none : (db : Trees) (params : Row) (filter project : List Term) (rows : List Row) (xs : List Stored) → IsAnswer (query_over 2 filter project []) db params rows → db 2 ≡ map cell_row xs
    → AllByRecursion (λ s. Tests filter params s ≡ false) xs → rows ≡ []
answers_none db params filter project rows xs a has none =
    let q = query_over 2 filter project [] in
    let staged : a.staged ≡ [] = a.grouped ∙ ap (flat_map (picks filter params)) has ∙ flat_none (picks filter params) xs (none_picked filter params xs none) in
    let kept : a.kept ≡ [] = a.distinct ∙ ap (map (output q)) staged in
    let ordered = no_rows a.ordered (subst (λ k. IsPermutation k a.ordered) kept a.same) in
    a.shown ∙ ap (λ xs. page q params (map (λ (p : Output). p.1) xs)) ordered

pub answers_one : (db : Trees) (params : Row) (filter project : List Term) (rows : List Row) (front back : List Stored) (at : Stored) → IsAnswer (query_over 2 filter project []) db params rows
    → db 2 ≡ map cell_row (front ++ at ∷ back) → AllByRecursion (λ s. Tests filter params s ≡ false) front → Tests filter params at ≡ true → AllByRecursion (λ s. Tests filter params s ≡ false) back
    → rows ≡ eval_all project (params ∷ cell_row at ∷ []) ∷ []
answers_one db params filter project rows front back at a has none one later =
    let q = query_over 2 filter project [] in
    let env : Env = params ∷ cell_row at ∷ [] in
    let staged : a.staged ≡ env ∷ [] =
    a.grouped ∙ ap (flat_map (picks filter params)) has
    ∙ flat_one (picks filter params) env front back at (none_picked filter params front none) (ap (λ b. cond b (env ∷ []) []) one) (none_picked filter params back later) in
    let o : Output = output q env in
    let kept : a.kept ≡ o ∷ [] = a.distinct ∙ ap (map (output q)) staged in
    let ordered = one_permutation o a.ordered (subst (λ k. IsPermutation k a.ordered) kept a.same) in
    a.shown ∙ ap (λ xs. page q params (map (λ (p : Output). p.1) xs)) ordered
