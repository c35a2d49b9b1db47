-- The rows of cells give the cells back.
use Rattle.std.proofs.Common.{◌≡◌, ◌≢◌, ◌⊎◌, inl, inr, ℕ, suc, ◌+◌, ◌<◌, ◌^◌, pos, List, [], ◌∷◌, ◌++◌, length, map, take, get_or, Bool, true, false, cond, Option, Some, None, refl, sym, ap, subst, ◌∙◌, arith}
use Rattle.std.proofs.lemmas.Bool.Decides.{nat_tests}
use Rattle.std.specs.Int.{w64, from_be_bytes, to_be_bytes}
use Rattle.std.proofs.lemmas.Nat.{from_be_bytes-to_be_bytes_8}
use Rattle.std.proofs.lemmas.List.{take_more}
use Rattle.std.specs.Ordering.{eq_by_cmp}
use Rattle.std.specs.List.{AllByRecursion}
use Rattle.std.specs.List.Sorted.{IsPermutation}
use Rattle.std.proofs.lemmas.List.Sorted.{IsPermutation-map, IsPermutation-sym}
use Rattle.std.specs.FinMap as finite
use Rattle.sqlite_trees.proofs.ListLemmas.{all-permutation}
use Rattle.sqlite_trees.specs.Tree.{IsAscending}
use Rattle.sqlite.specs.Order.{Row}
use Rattle.lynx_cells.specs.Database.{cell_cmp, Database, ChangeSet, applied, empty_database}
use Rattle.lynx_cells.proofs.CellOrder.{same_cell, cell_cmp_total}
use Rattle.lynx_cells.proofs.Writes.{kept, updated, get-applied, same_database}
use Rattle.lynx_sql.specs.Cells.{Stored, cell_of, shown_cell, find_stored, Fits, ComesBefore, ShowsCells}
use Rattle.lynx_sql.proofs.StoredLemmas.{Misses, Place, place_of, find_missing, is_itself}
use Rattle.lynx_sql.specs.Shown.{entry_in, with_rows, cells_in}

Entry : Type 0
Entry = (ℕ × ℕ) × ℕ

abbrev is_of : ℕ × ℕ → (ℕ × ℕ) × ℕ → Bool
is_of q e = eq_by_cmp cell_cmp q e.0

-- what a look-up finds after entries were written in order
abbrev pick : List ((ℕ × ℕ) × ℕ) → ℕ × ℕ → Option ℕ → Option ℕ
pick [] q o = o
pick (e ∷ es) q o = pick es q (cond (is_of q e) (Some e.1) o)

get-with_rows : (rows : List Row) (changes : ChangeSet) (q : ℕ × ℕ) → finite.get (with_rows rows changes) q ≡ pick (map entry_in rows) q (finite.get changes q)
get-with_rows [] changes q = refl
get-with_rows (row ∷ rows) changes q =
    get-with_rows rows (finite.insert changes (entry_in row).0 (entry_in row).1) q ∙ ap (pick (map entry_in rows) q) (finite.get-insert cell_cmp_total changes (entry_in row).0 (entry_in row).1 q)

abbrev MissesAll : ℕ × ℕ → List ((ℕ × ℕ) × ℕ) → Type 0
MissesAll q = AllByRecursion (λ e. is_of q e ≡ false)

abbrev Agrees : ℕ × ℕ → ℕ → (ℕ × ℕ) × ℕ → Type 0
Agrees q v e = is_of q e ≡ true → e.1 ≡ v

pick_none : (es : List ((ℕ × ℕ) × ℕ)) (q : ℕ × ℕ) (o : Option ℕ) → MissesAll q es → pick es q o ≡ o
pick_none [] q o h = refl
pick_none (e ∷ es) q o h = ap (λ b. pick es q (cond b (Some e.1) o)) h.0 ∙ pick_none es q o h.1

pick_kept : (es : List ((ℕ × ℕ) × ℕ)) (q : ℕ × ℕ) (v : ℕ) → AllByRecursion (Agrees q v) es → pick es q (Some v) ≡ Some v
pick_kept [] q v h = refl
pick_kept (e ∷ es) q v h =
    elim (is_of q e) as (λ b. (b ≡ true → e.1 ≡ v) → pick es q (cond b (Some e.1) (Some v)) ≡ Some v) [
      | true ↦ λ same. ap (λ n. pick es q (Some n)) (same refl) ∙ pick_kept es q v h.1
      | false ↦ λ _. pick_kept es q v h.1
    ] h.0

pick_some : (es : List ((ℕ × ℕ) × ℕ)) (q : ℕ × ℕ) (v : ℕ) (o : Option ℕ) → AllByRecursion (Agrees q v) es → (MissesAll q es → ⊥) → pick es q o ≡ Some v
pick_some [] q v o h some = absurd (some tt)
pick_some (e ∷ es) q v o h some =
    elim (is_of q e) as (λ b. is_of q e ≡ b → (b ≡ true → e.1 ≡ v) → pick es q (cond b (Some e.1) o) ≡ Some v) [
      | true ↦ λ is same. ap (λ n. pick es q (Some n)) (same refl) ∙ pick_kept es q v h.1
      | false ↦ λ is _. pick_some es q v o h.1 (λ none. some (is, none))
    ] refl h.0

abbrev entry_for : Stored → (ℕ × ℕ) × ℕ
entry_for s = (cell_of s, s.value)

entry_back : (s : Stored) → Fits s → entry_in (shown_cell s) ≡ entry_for s
entry_back s fits =
    ap (λ k. let e : (ℕ × ℕ) × ℕ = ((s.table, k), from_be_bytes w64 (to_be_bytes w64 s.value)) in e) (from_be_bytes-to_be_bytes_8 s.key fits.key)
    ∙ ap (λ v. let e : (ℕ × ℕ) × ℕ = ((s.table, s.key), v) in e) (from_be_bytes-to_be_bytes_8 s.value fits.value)

entries_back : (stored : List Stored) → AllByRecursion Fits stored → map entry_in (map shown_cell stored) ≡ map entry_for stored
entries_back [] fits = refl
entries_back (s ∷ more) fits = ap (λ e. e ∷ map entry_in (map shown_cell more)) (entry_back s fits.0) ∙ ap (λ es. entry_for s ∷ es) (entries_back more fits.1)

misses_all : (q : ℕ × ℕ) (stored : List Stored) → AllByRecursion (Misses q) stored → MissesAll q (map entry_for stored)
misses_all q [] h = tt
misses_all q (s ∷ more) h = (h.0, misses_all q more h.1)

agrees_none : (q : ℕ × ℕ) (v : ℕ) (stored : List Stored) → AllByRecursion (Misses q) stored → AllByRecursion (Agrees q v) (map entry_for stored)
agrees_none q v [] h = tt
agrees_none q v (s ∷ more) h = ((λ is. absurd (let miss = h.0 in cc)), agrees_none q v more h.1)

agrees_at : (q : ℕ × ℕ) (front back : List Stored) (at : Stored) → AllByRecursion (Misses q) front → AllByRecursion (Misses q) back → AllByRecursion (Agrees q at.value) (map entry_for (front ++ at ∷ back))
agrees_at q [] back at none later = ((λ _. refl), agrees_none q at.value back later)
agrees_at q (x ∷ xs) back at none later = ((λ is. absurd (let miss = none.0 in cc)), agrees_at q xs back at none.1 later)

not_missed : (q : ℕ × ℕ) (front back : List Stored) (at : Stored) → cell_of at ≡ q → MissesAll q (map entry_for (front ++ at ∷ back)) → ⊥
not_missed q [] back at same h = let here : eq_by_cmp cell_cmp q (cell_of at) ≡ true = ap (eq_by_cmp cell_cmp q) same ∙ is_itself q in let miss = h.0 in cc
not_missed q (x ∷ xs) back at same h = not_missed q xs back at same h.1

find_at : (q : ℕ × ℕ) (front back : List Stored) (at : Stored) → cell_of at ≡ q → AllByRecursion (Misses q) front → find_stored (front ++ at ∷ back) q ≡ Some at.value
find_at q [] back at same none = ap (λ b. cond b (Some at.value) (find_stored back q)) (ap (eq_by_cmp cell_cmp q) same ∙ is_itself q)
find_at q (x ∷ xs) back at same none = ap (λ b. cond b (Some x.value) (find_stored (xs ++ at ∷ back) q)) none.0 ∙ find_at q xs back at same none.1

pick_stored : (stored : List Stored) (es : List ((ℕ × ℕ) × ℕ)) (q : ℕ × ℕ) → IsAscending ComesBefore stored → IsPermutation (map entry_for stored) es → pick es q None ≡ find_stored stored q
pick_stored stored es q up same = elim (place_of stored q up) [
  | inl none ↦ pick_none es q None (all-permutation (λ e. is_of q e ≡ false) (map entry_for stored) es same (misses_all q stored none)) ∙ sym (find_missing stored q none)
  | inr p ↦
      let ours = subst (λ xs. IsPermutation (map entry_for xs) es) p.is same in
      pick_some es q p.at.value None (all-permutation (Agrees q p.at.value) _ es ours (agrees_at q p.front p.back p.at p.before p.after))
      (λ none. not_missed q p.front p.back p.at p.same (all-permutation (λ e. is_of q e ≡ false) es _ (IsPermutation-sym _ _ ours) none))
      ∙ sym (ap (λ xs. find_stored xs q) p.is ∙ find_at q p.front p.back p.at p.same p.before)
]

kept_value : (v : ℕ) → v ≢ 0 → kept v ≡ Some v
kept_value v apart = grind (arith, nat_tests)

-- a value that is kept isn't 0
kept_found : (stored : List Stored) (q : ℕ × ℕ) → AllByRecursion Fits stored → updated (find_stored stored q) None ≡ find_stored stored q
kept_found [] q fits = refl
kept_found (s ∷ more) q fits =
    elim (eq_by_cmp cell_cmp q (cell_of s)) as (λ b. updated (cond b (Some s.value) (find_stored more q)) None ≡ cond b (Some s.value) (find_stored more q)) [ true ↦ kept_value s.value fits.0.nonzero | false ↦ kept_found more q fits.1 ]

-- what the cells of the rows hold is what is stored
pub found_in : (rows : List Row) (stored : List Stored) → IsPermutation (map shown_cell stored) rows → AllByRecursion Fits stored
    → IsAscending ComesBefore stored → (q : ℕ × ℕ) → finite.get (cells_in rows) q ≡ find_stored stored q
found_in rows stored same fit apart q =
    let es : IsPermutation (map entry_for stored) (map entry_in rows) =
    subst (λ xs. IsPermutation xs (map entry_in rows)) (entries_back stored fit) (IsPermutation-map entry_in (map shown_cell stored) rows same) in
    get-applied (with_rows rows finite.empty) empty_database q
    ∙ ap (updated (finite.get (with_rows rows finite.empty) q)) (finite.get-empty cell_cmp q)
    ∙ ap (λ o. updated o None) (get-with_rows rows finite.empty q ∙ ap (pick (map entry_in rows) q) (finite.get-empty cell_cmp q)
    ∙ pick_stored stored (map entry_in rows) q apart es)
    ∙ kept_found stored q fit

pub cells_back : (rows : List Row) (db : Database) → ShowsCells rows db → cells_in rows ≡ db
cells_back rows db h = same_database _ _ (λ q. found_in rows h.stored h.same h.fit h.apart q ∙ sym (h.found q))

with_rows-append : (rows more : List Row) (changes : ChangeSet) → with_rows (rows ++ more) changes ≡ with_rows more (with_rows rows changes)
with_rows-append [] more changes = refl
with_rows-append (row ∷ rows) more changes = with_rows-append rows more (finite.insert changes (entry_in row).0 (entry_in row).1)

pub with_rows_next : (rows : List Row) (i : ℕ) (row : Row) (cell : ℕ × ℕ) (value : ℕ) → i < length rows → row ≡ get_or rows i row → (cell, value) ≡ entry_in row
    → finite.insert (with_rows (take i rows) finite.empty) cell value ≡ with_rows (take (i + 1) rows) finite.empty
with_rows_next rows i row cell value low is same =
    ap (λ (e : (ℕ × ℕ) × ℕ). finite.insert (with_rows (take i rows) finite.empty) e.0 e.1) same
    ∙ ap (λ r. finite.insert (with_rows (take i rows) finite.empty) (entry_in r).0 (entry_in r).1) is
    ∙ sym (ap (λ xs. with_rows xs finite.empty) (take_more rows i row low) ∙ with_rows-append (take i rows) _ finite.empty)
