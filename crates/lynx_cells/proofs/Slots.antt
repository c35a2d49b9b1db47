-- What the slots of cells hold, by what a look-up finds in them.
use Rattle.std.specs.Prelude.{◌≡◌, ℕ, Bool, true, false, cond, not, T, ◌==◌, ◌||◌, List, [], ◌∷◌, Option, Some, None, is_some, unwrap_or, filter, refl}
use Rattle.std.proofs.Common.{sym, ap, ◌∙◌, subst, Less}
use Rattle.std.specs.Ordering.{eq_by_cmp, is_lt}
use Rattle.std.specs.Cmp.{eq_by_cmp_equiv}
use Rattle.std.specs.List.{AllByRecursion}
use Rattle.std.specs.List.Sorted.{IsStrictlySortedBy}
use Rattle.std.proofs.lemmas.Map.Keys.{sorted_head, sorted_tail, IsDistinct-from_sorted}
use Rattle.std.proofs.lemmas.Map.Entries.{option_filter, lookup-filter-values}
use Rattle.std.specs.BTreeMap.{BTreeMap, IsOrdered, is_at, get, UpdatesBy}
use Rattle.std.specs.Map.{keys_of, lookup}
use Rattle.std.specs.FinMap as map
use Rattle.std.specs.FinSet as set
use Rattle.std.specs.FinMap.Entries.{below_all, is_some-find}
use Rattle.lynx_cells.specs.Database.{cell_cmp, IsZeroFree, empty_database, value_at, with_value}
use Rattle.lynx_cells.proofs.CellOrder.{same_cell, cell_cmp_total, cell_cmp_exact, first_part, second_part, both_parts}
use Rattle.lynx_cells.proofs.Writes.{kept, updated, get-with_value, get-applied, value_updated, same_database, IsZeroFree-empty, IsZeroFree-applied}
use Rattle.lynx_cells.specs.Contents.{contents_of}

-- the two ways to look a cell up agree
pub find-lookup : (slots : List ((ℕ × ℕ) × ℕ)) (cell : ℕ × ℕ) → map.find cell_cmp cell slots ≡ lookup (is_at (cell_cmp cell)) slots
find-lookup [] cell = refl
find-lookup (e ∷ es) cell = ap (cond (eq_by_cmp cell_cmp cell e.0) (Some e.1)) (find-lookup es cell)

-- the database has what the look-up finds, but for a 0
pub get-database : (slots : List ((ℕ × ℕ) × ℕ)) (cell : ℕ × ℕ) → map.get (contents_of slots).database cell ≡ updated (lookup (is_at (cell_cmp cell)) slots) None
get-database slots cell =
    get-applied (map.from_entries slots) empty_database cell
    ∙ ap (updated (map.get (map.from_entries slots) cell)) (map.get-empty cell_cmp cell)
    ∙ ap (λ o. updated o None) (map.get-from_entries cell_cmp_total slots cell ∙ find-lookup slots cell)

-- a cell holds what the look-up finds, or 0
pub value_at-database : (slots : List ((ℕ × ℕ) × ℕ)) (table key : ℕ) → value_at (contents_of slots).database table key ≡ unwrap_or (lookup (is_at (cell_cmp (table, key))) slots) 0
value_at-database slots table key =
    ap (λ o. unwrap_or o 0) (get-database slots (table, key)) ∙ value_updated (lookup (is_at (cell_cmp (table, key))) slots) None

-- the cells with a slot are those that the look-up finds
pub contains-staged : (slots : List ((ℕ × ℕ) × ℕ)) (cell : ℕ × ℕ) → set.contains (contents_of slots).staged cell ≡ is_some (lookup (is_at (cell_cmp cell)) slots)
contains-staged slots cell =
    set.contains-from_list cell_cmp_total (keys_of slots) cell
    ∙ sym (is_some-find cell_cmp cell slots)
    ∙ ap is_some (find-lookup slots cell)

flipped : (a b : ℕ × ℕ) → eq_by_cmp cell_cmp a b ≡ eq_by_cmp cell_cmp b a
flipped = (eq_by_cmp_equiv cell_cmp_total).symm

-- ---- a slot is written over

written_slot : (b : Bool) (value : ℕ) (old : Option ℕ) → updated (cond b (Some value) old) None ≡ cond b (kept value) (updated old None)
written_slot true value old = refl
written_slot false value old = refl

pub database-overwrite : (old new : BTreeMap (ℕ × ℕ) ℕ) (table key value : ℕ) → UpdatesBy cell_cmp (cell_cmp (table, key)) old new (Some value)
    → (contents_of new.entries).database ≡ with_value (contents_of old.entries).database table key value
database-overwrite old new table key value updates = same_database _ _ (λ cell.
    get-database new.entries cell
    ∙ ap (λ o. updated o None) (updates.0 cell)
    ∙ written_slot (eq_by_cmp cell_cmp (table, key) cell) value (get cell_cmp old cell)
    ∙ ap (λ b. cond b (kept value) (updated (get cell_cmp old cell) None)) (flipped (table, key) cell)
    ∙ sym (get-with_value (contents_of old.entries).database table key value cell
    ∙ ap (cond (eq_by_cmp cell_cmp cell (table, key)) (kept value)) (get-database old.entries cell)))

-- ---- a slot that holds 0 is added

no_slot : (b : Bool) (old : Option ℕ) → (b ≡ true → old ≡ None) → updated (cond b (Some 0) old) None ≡ updated old None
no_slot true old absent = ap (λ o. updated o None) (sym (absent refl))
no_slot false old absent = refl

tied_absent : (m : BTreeMap (ℕ × ℕ) ℕ) (cell other : ℕ × ℕ) → get cell_cmp m cell ≡ None → eq_by_cmp cell_cmp cell other ≡ true → get cell_cmp m other ≡ None
tied_absent m cell other absent same = subst (λ c. get cell_cmp m c ≡ None) (same_cell cell other same) absent

pub database-add_slot : (old new : BTreeMap (ℕ × ℕ) ℕ) (cell : ℕ × ℕ) → get cell_cmp old cell ≡ None → UpdatesBy cell_cmp (cell_cmp cell) old new (Some 0)
    → (contents_of new.entries).database ≡ (contents_of old.entries).database
database-add_slot old new cell absent updates = same_database _ _ (λ other.
    get-database new.entries other
    ∙ ap (λ o. updated o None) (updates.0 other)
    ∙ no_slot (eq_by_cmp cell_cmp cell other) (get cell_cmp old other) (tied_absent old cell other absent)
    ∙ sym (get-database old.entries other))

one_more_slot : (b : Bool) (value : ℕ) (old : Option ℕ) → is_some (cond b (Some value) old) ≡ (b || is_some old)
one_more_slot true value old = refl
one_more_slot false value old = refl

pub staged-update : (old new : BTreeMap (ℕ × ℕ) ℕ) (cell : ℕ × ℕ) (value : ℕ) → UpdatesBy cell_cmp (cell_cmp cell) old new (Some value)
    → (contents_of new.entries).staged ≡ set.insert (contents_of old.entries).staged cell
staged-update old new cell value updates = set.same_set cell_cmp_total cell_cmp_exact _ _ (λ other.
    contains-staged new.entries other
    ∙ ap is_some (updates.0 other)
    ∙ one_more_slot (eq_by_cmp cell_cmp cell other) value (get cell_cmp old other)
    ∙ ap (λ b. b || is_some (get cell_cmp old other)) (flipped cell other)
    ∙ sym (set.contains-insert cell_cmp_total (contents_of old.entries).staged cell other ∙ ap (λ b. eq_by_cmp cell_cmp other cell || b) (contains-staged old.entries other)))

-- a cell that has a slot is staged already
already : (b t : Bool) → (b ≡ true → t ≡ true) → t ≡ (b || t)
already true t h = h refl
already false t h = refl

pub insert-staged : (staged : set.FinSet cell_cmp) (cell : ℕ × ℕ) → set.contains staged cell ≡ true → staged ≡ set.insert staged cell
insert-staged staged cell has = set.same_set cell_cmp_total cell_cmp_exact _ _ (λ other.
    already (eq_by_cmp cell_cmp other cell) (set.contains staged other) (λ same. subst (λ c. set.contains staged c ≡ true) (sym (same_cell other cell same)) has)
    ∙ sym (set.contains-insert cell_cmp_total staged cell other))

-- ---- the slots that do not hold 0, in order

-- without those that hold 0
abbrev pub shown : List ((ℕ × ℕ) × ℕ) → List ((ℕ × ℕ) × ℕ)
shown slots = filter (λ e. not (e.1 == 0)) slots

below_from_sorted : (cell : ℕ × ℕ) (es : List ((ℕ × ℕ) × ℕ)) → AllByRecursion (λ other. cell_cmp cell other ≡ Less) (keys_of es) → T (below_all cell_cmp cell es)
below_from_sorted cell [] h = tt
below_from_sorted cell (e ∷ es) h = both_parts _ _ (subst (λ r. T (is_lt r)) (sym h.0) tt) (below_from_sorted cell es h.1)

sorted_from_ordered : (es : List ((ℕ × ℕ) × ℕ)) → IsStrictlySortedBy cell_cmp (keys_of es) → T (map.is_sorted cell_cmp es)
sorted_from_ordered [] h = tt
sorted_from_ordered (e ∷ es) h = both_parts _ _ (below_from_sorted e.0 es (sorted_head cell_cmp e.0 _ h)) (sorted_from_ordered es (sorted_tail cell_cmp e.0 _ h))

below-shown : (cell : ℕ × ℕ) (es : List ((ℕ × ℕ) × ℕ)) → T (below_all cell_cmp cell es) → T (below_all cell_cmp cell (shown es))
below-shown cell [] h = tt
below-shown cell (e ∷ es) h =
    elim (not (e.1 == 0)) as (λ b. T (below_all cell_cmp cell (cond b (e ∷ shown es) (shown es)))) [
      | true ↦ both_parts _ _ (first_part _ _ h) (below-shown cell es (second_part _ _ h))
      | false ↦ below-shown cell es (second_part _ _ h)
    ]

sorted-shown : (es : List ((ℕ × ℕ) × ℕ)) → T (map.is_sorted cell_cmp es) → T (map.is_sorted cell_cmp (shown es))
sorted-shown [] h = tt
sorted-shown (e ∷ es) h =
    elim (not (e.1 == 0)) as (λ b. T (map.is_sorted cell_cmp (cond b (e ∷ shown es) (shown es)))) [
      | true ↦ both_parts _ _ (below-shown e.0 es (first_part _ _ h)) (sorted-shown es (second_part _ _ h))
      | false ↦ sorted-shown es (second_part _ _ h)
    ]

filtered_slot : (o : Option ℕ) → option_filter (λ value. not (value == 0)) o ≡ updated o None
filtered_slot None = refl
filtered_slot (Some value) = elim (value == 0) as (λ b. cond (not b) (Some value) None ≡ cond b None (Some value)) [ true ↦ refl | false ↦ refl ]

-- the entries of the database are the slots that do not hold 0
pub entries-database : (m : BTreeMap (ℕ × ℕ) ℕ) → IsOrdered cell_cmp m → map.entries (contents_of m.entries).database ≡ shown m.entries
entries-database m ordered =
    let sorted = sorted-shown m.entries (sorted_from_ordered m.entries ordered) in
    ap map.entries (same_database (contents_of m.entries).database (map.from_sorted (shown m.entries)) (λ cell.
    get-database m.entries cell
    ∙ sym (filtered_slot (lookup (is_at (cell_cmp cell)) m.entries))
    ∙ sym (lookup-filter-values (eq_by_cmp_equiv cell_cmp_total) (λ value. not (value == 0)) cell m.entries (IsDistinct-from_sorted cell_cmp (keys_of m.entries) ordered))
    ∙ sym (find-lookup (shown m.entries) cell)
    ∙ sym (map.get-from_sorted cell_cmp (shown m.entries) cell sorted)))
    ∙ map.entries-from_sorted cell_cmp (shown m.entries) sorted

-- slots give a zero-free database
pub IsZeroFree-database : (slots : List ((ℕ × ℕ) × ℕ)) → IsZeroFree (contents_of slots).database
IsZeroFree-database slots = IsZeroFree-applied (map.from_entries slots) empty_database IsZeroFree-empty
