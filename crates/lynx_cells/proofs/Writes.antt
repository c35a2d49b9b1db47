-- What a cell holds after writes, and when two databases are equal.
use Rattle.std.specs.Prelude.{map as map_list, ◌≡◌, ℕ, Bool, true, false, cond, T, ◌≢◌, ◌==◌, List, [], ◌∷◌, Option, Some, None, All, if◌then◌else◌, unwrap_or, refl}
use Rattle.std.proofs.Common.{sym, ap, ◌∙◌, arith}
use Rattle.std.specs.Ordering.{eq_by_cmp, is_eq}
use Rattle.std.proofs.lemmas.Bool.{eqb-true}
use Rattle.std.proofs.lemmas.Cmp.{tied_itself}
use Rattle.std.proofs.lemmas.Bool.Decides.{nat_tests}
use Rattle.std.proofs.lemmas.List.Elements.{All-nil, All-cons, All-head, All-tail}
use Rattle.std.specs.FinMap as map
use Rattle.std.specs.FinMap.Entries.{is_sorted}
use Rattle.lynx_cells.specs.Database.{cell_cmp, Database, ChangeSet, IsZeroFree, empty_database, value_at, with_value, written, applied}
use Rattle.lynx_cells.proofs.CellOrder.{cell_cmp_total, cell_cmp_exact, same_cell, find_below, find_first, first_part, second_part}

-- what a database keeps of a value
abbrev pub kept : ℕ → Option ℕ
kept value = if value == 0 then None else Some value

-- what a database has at a cell that may have been changed
abbrev pub updated : Option ℕ → Option ℕ → Option ℕ
updated None old = old
updated (Some value) old = kept value

-- ---- look-ups after writes

-- a look-up after one write
pub get-with_value : (db : Database) (table key value : ℕ) (cell : ℕ × ℕ) → map.get (with_value db table key value) cell ≡ cond (eq_by_cmp cell_cmp cell (table, key)) (kept value) (map.get db cell)
get-with_value db table key value cell =
    elim (value == 0) as (λ b. map.get (cond b (map.remove db (table, key)) (map.insert db (table, key) value)) cell ≡ cond (eq_by_cmp cell_cmp cell (table, key)) (cond b None (Some value)) (map.get db cell)) [
      | true ↦ map.get-remove cell_cmp_total db (table, key) cell
      | false ↦ map.get-insert cell_cmp_total db (table, key) value cell
    ]

get-written_step : (e : (ℕ × ℕ) × ℕ) (es : List ((ℕ × ℕ) × ℕ)) (old : Option ℕ) (cell : ℕ × ℕ) (b : Bool) → eq_by_cmp cell_cmp cell e.0 ≡ b → T (is_sorted cell_cmp (e ∷ es))
    → updated (map.find cell_cmp cell es) (cond b (kept e.1) old) ≡ updated (cond b (Some e.1) (map.find cell_cmp cell es)) old
get-written_step e es old cell true same sorted =
    ap (λ o. updated o (kept e.1)) (ap (λ c. map.find cell_cmp c es) (same_cell cell e.0 same) ∙ find_below e.0 es (first_part _ _ sorted))
get-written_step e es old cell false other sorted = refl

-- a look-up after the writes of entries in order
pub get-written : (es : List ((ℕ × ℕ) × ℕ)) (db : Database) (cell : ℕ × ℕ) → T (is_sorted cell_cmp es) → map.get (written es db) cell ≡ updated (map.find cell_cmp cell es) (map.get db cell)
get-written [] db cell sorted = refl
get-written (e ∷ es) db cell sorted =
    get-written es (with_value db e.0.0 e.0.1 e.1) cell (second_part _ _ sorted)
    ∙ ap (updated (map.find cell_cmp cell es)) (get-with_value db e.0.0 e.0.1 e.1 cell)
    ∙ get-written_step e es (map.get db cell) cell _ refl sorted

-- a look-up after a set of changes
pub get-applied : (changes : ChangeSet) (db : Database) (cell : ℕ × ℕ) → map.get (applied changes db) cell ≡ updated (map.get changes cell) (map.get db cell)
get-applied changes db cell =
    get-written (map.entries changes) db cell (map.entries_sorted changes)
    ∙ ap (λ o. updated o (map.get db cell)) (sym (map.get-entries changes cell))

-- databases that answer alike are equal
pub same_database : (a b : Database) → ((cell : ℕ × ℕ) → map.get a cell ≡ map.get b cell) → a ≡ b
same_database = map.same_map cell_cmp_total cell_cmp_exact

-- ---- what a cell holds after a write

unwrap_or-kept : (value : ℕ) → unwrap_or (kept value) 0 ≡ value
unwrap_or-kept value = grind (arith, nat_tests)

eq_itself : (cell : ℕ × ℕ) → eq_by_cmp cell_cmp cell cell ≡ true
eq_itself cell = ap is_eq (tied_itself cell_cmp_total cell)

other_cell : (a b : ℕ × ℕ) → a ≢ b → eq_by_cmp cell_cmp a b ≡ false
other_cell a b differ =
    elim (eq_by_cmp cell_cmp a b) as (λ t. eq_by_cmp cell_cmp a b ≡ t → t ≡ false) [
      | true ↦ λ same. absurd (differ (same_cell a b same))
      | false ↦ λ _. refl
    ] refl

-- a cell that was written holds what was written
pub value_at-with_value_same : (db : Database) (table key value : ℕ) → value_at (with_value db table key value) table key ≡ value
value_at-with_value_same db table key value =
    ap (λ o. unwrap_or o 0) (get-with_value db table key value (table, key) ∙ ap (λ b. cond b (kept value) (map.get db (table, key))) (eq_itself (table, key)))
    ∙ unwrap_or-kept value

-- each other cell keeps what it holds
pub value_at-with_value_other : (db : Database) (written other : ℕ × ℕ) (value : ℕ) → other ≢ written → value_at (with_value db written.0 written.1 value) other.0 other.1 ≡ value_at db other.0 other.1
value_at-with_value_other db written other value differ =
    ap (λ o. unwrap_or o 0) (get-with_value db written.0 written.1 value other ∙ ap (λ b. cond b (kept value) (map.get db other)) (other_cell other written differ))

-- ---- two writes

twice : (b : Bool) (x y : Option ℕ) (old : Option ℕ) → cond b y (cond b x old) ≡ cond b y old
twice true x y old = refl
twice false x y old = refl

-- a later write of a cell wins
pub with_value-with_value_same : (db : Database) (table key first second : ℕ) → with_value (with_value db table key first) table key second ≡ with_value db table key second
with_value-with_value_same db table key first second = same_database _ _ (λ cell.
    get-with_value (with_value db table key first) table key second cell
    ∙ ap (cond (eq_by_cmp cell_cmp cell (table, key)) (kept second)) (get-with_value db table key first cell)
    ∙ twice (eq_by_cmp cell_cmp cell (table, key)) (kept first) (kept second) (map.get db cell)
    ∙ sym (get-with_value db table key second cell))

swapped : (a b : Bool) (x y old : Option ℕ) → (a ≡ true → b ≡ true → ⊥) → cond b y (cond a x old) ≡ cond a x (cond b y old)
swapped true true x y old apart = absurd (apart refl refl)
swapped true false x y old apart = refl
swapped false b x y old apart = refl

-- writes of two cells change places
pub with_value-with_value_other : (db : Database) (a b : ℕ × ℕ) (x y : ℕ) → a ≢ b → with_value (with_value db a.0 a.1 x) b.0 b.1 y ≡ with_value (with_value db b.0 b.1 y) a.0 a.1 x
with_value-with_value_other db a b x y differ = same_database _ _ (λ cell.
    get-with_value (with_value db a.0 a.1 x) b.0 b.1 y cell
    ∙ ap (cond (eq_by_cmp cell_cmp cell b) (kept y)) (get-with_value db a.0 a.1 x cell)
    ∙ swapped (eq_by_cmp cell_cmp cell a) (eq_by_cmp cell_cmp cell b) (kept x) (kept y) (map.get db cell) (λ p q. differ (sym (same_cell cell a p) ∙ same_cell cell b q))
    ∙ sym (get-with_value (with_value db b.0 b.1 y) a.0 a.1 x cell ∙ ap (cond (eq_by_cmp cell_cmp cell a) (kept x)) (get-with_value db b.0 b.1 y cell)))

-- ---- sets of changes

applied_insert_step : (b : Bool) (value : ℕ) (new old : Option ℕ) → updated (cond b (Some value) new) old ≡ cond b (kept value) (updated new old)
applied_insert_step true value new old = refl
applied_insert_step false value new old = refl

-- one more change is one more write
pub applied-insert : (changes : ChangeSet) (db : Database) (table key value : ℕ) → applied (map.insert changes (table, key) value) db ≡ with_value (applied changes db) table key value
applied-insert changes db table key value = same_database _ _ (λ cell.
    get-applied (map.insert changes (table, key) value) db cell
    ∙ ap (λ o. updated o (map.get db cell)) (map.get-insert cell_cmp_total changes (table, key) value cell)
    ∙ applied_insert_step (eq_by_cmp cell_cmp cell (table, key)) value (map.get changes cell) (map.get db cell)
    ∙ sym (get-with_value (applied changes db) table key value cell ∙ ap (cond (eq_by_cmp cell_cmp cell (table, key)) (kept value)) (get-applied changes db cell)))

-- no changes, no write
pub applied-empty : (db : Database) → applied map.empty db ≡ db
applied-empty db = same_database _ _ (λ cell. get-applied map.empty db cell ∙ ap (λ o. updated o (map.get db cell)) (map.get-empty cell_cmp cell))

-- what an updated cell holds
pub value_updated : (new old : Option ℕ) → unwrap_or (updated new old) 0 ≡ unwrap_or new (unwrap_or old 0)
value_updated None old = refl
value_updated (Some value) old = unwrap_or-kept value

-- a changed cell holds its new value, and each other cell what it held
pub value_at-applied : (changes : ChangeSet) (db : Database) (table key : ℕ) → value_at (applied changes db) table key ≡ unwrap_or (map.get changes (table, key)) (value_at db table key)
value_at-applied changes db table key =
    ap (λ o. unwrap_or o 0) (get-applied changes db (table, key)) ∙ value_updated (map.get changes (table, key)) (map.get db (table, key))

-- ---- databases with no cell kept at 0

kept-nonzero : (value : ℕ) → kept value ≢ Some 0
kept-nonzero value same = grind (arith, nat_tests)

found_nonzero : (es : List ((ℕ × ℕ) × ℕ)) → All (λ value. value ≢ 0) (map_list (λ e. e.1) es) → (cell : ℕ × ℕ) → map.find cell_cmp cell es ≢ Some 0
found_nonzero [] all cell found = cc
found_nonzero (e ∷ es) all cell found =
    elim (eq_by_cmp cell_cmp cell e.0) as (λ b. cond b (Some e.1) (map.find cell_cmp cell es) ≡ Some 0 → ⊥) [
      | true ↦ λ same. All-head (λ value. value ≢ 0) e.1 _ all (cc)
      | false ↦ λ later. found_nonzero es (All-tail (λ value. value ≢ 0) e.1 _ all) cell later
    ] found

nonzero_from_found : (es : List ((ℕ × ℕ) × ℕ)) → T (is_sorted cell_cmp es) → ((cell : ℕ × ℕ) → map.find cell_cmp cell es ≢ Some 0) → All (λ value. value ≢ 0) (map_list (λ e. e.1) es)
nonzero_from_found [] sorted none = All-nil (λ value. value ≢ 0)
nonzero_from_found (e ∷ es) sorted none =
    All-cons (λ value. value ≢ 0) e.1 _ (λ zero. none e.0 (find_first e es ∙ ap Some zero)) (nonzero_from_found es (second_part _ _ sorted) (λ cell later.
    elim (eq_by_cmp cell_cmp cell e.0) as (λ b. eq_by_cmp cell_cmp cell e.0 ≡ b → (cond b (Some e.1) (map.find cell_cmp cell es) ≡ Some 0 → ⊥) → ⊥) [
      | true ↦ λ same _. let absent = ap (λ c. map.find cell_cmp c es) (same_cell cell e.0 same) ∙ find_below e.0 es (first_part _ _ sorted) in cc (absent, later)
      | false ↦ λ _ not_here. not_here later
    ] refl (none cell)))

-- no look-up finds a 0
pub get-nonzero : (db : Database) → IsZeroFree db → (cell : ℕ × ℕ) → map.get db cell ≢ Some 0
get-nonzero db free cell found = found_nonzero (map.entries db) free cell (sym (map.get-entries db cell) ∙ found)

-- a database in which no look-up finds a 0
pub IsZeroFree-from_get : (db : Database) → ((cell : ℕ × ℕ) → map.get db cell ≢ Some 0) → IsZeroFree db
IsZeroFree-from_get db none = nonzero_from_found (map.entries db) (map.entries_sorted db) (λ cell found. none cell (map.get-entries db cell ∙ found))

nonzero_cond : (b : Bool) (x y : Option ℕ) → x ≢ Some 0 → y ≢ Some 0 → cond b x y ≢ Some 0
nonzero_cond true x y p q = p
nonzero_cond false x y p q = q

nonzero_updated : (new old : Option ℕ) → old ≢ Some 0 → updated new old ≢ Some 0
nonzero_updated None old p = p
nonzero_updated (Some value) old p = kept-nonzero value

-- the empty database keeps no cell
pub IsZeroFree-empty : IsZeroFree empty_database
IsZeroFree-empty = IsZeroFree-from_get empty_database (λ cell found. let absent = map.get-empty {X = ℕ} cell_cmp cell in cc (absent, found))

-- a write keeps a database zero-free
pub IsZeroFree-with_value : (db : Database) (table key value : ℕ) → IsZeroFree db → IsZeroFree (with_value db table key value)
IsZeroFree-with_value db table key value free = IsZeroFree-from_get (with_value db table key value) (λ cell found.
    nonzero_cond (eq_by_cmp cell_cmp cell (table, key)) (kept value) (map.get db cell) (kept-nonzero value) (get-nonzero db free cell) (sym (get-with_value db table key value cell) ∙ found))

-- so does a set of changes
pub IsZeroFree-applied : (changes : ChangeSet) (db : Database) → IsZeroFree db → IsZeroFree (applied changes db)
IsZeroFree-applied changes db free = IsZeroFree-from_get (applied changes db) (λ cell found.
    nonzero_updated (map.get changes cell) (map.get db cell) (get-nonzero db free cell) (sym (get-applied changes db cell) ∙ found))

kept-value : (o : Option ℕ) → o ≢ Some 0 → kept (unwrap_or o 0) ≡ o
kept-value None p = refl
kept-value (Some value) p =
    elim (value == 0) as (λ b. (value == 0) ≡ b → cond b None (Some value) ≡ Some value) [
      | true ↦ λ zero. absurd (p (ap Some (eqb-true value 0 zero)))
      | false ↦ λ _. refl
    ] refl

-- a zero-free database keeps what a cell holds
pub get-value_at : (db : Database) → IsZeroFree db → (cell : ℕ × ℕ) → map.get db cell ≡ kept (value_at db cell.0 cell.1)
get-value_at db free cell = sym (kept-value (map.get db cell) (get-nonzero db free cell))

-- zero-free databases whose cells hold the same are equal
pub same_database_from_value_at : (a b : Database) → IsZeroFree a → IsZeroFree b → ((table key : ℕ) → value_at a table key ≡ value_at b table key) → a ≡ b
same_database_from_value_at a b free_a free_b same = same_database a b (λ cell.
    get-value_at a free_a cell ∙ ap kept (same cell.0 cell.1) ∙ sym (get-value_at b free_b cell))
