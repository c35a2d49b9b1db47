-- Which cells have a slot, by the triples of a set of changes.
use Rattle.std.specs.Prelude.{◌≡◌, ℕ, Bool, true, false, ◌||◌, IsTrue, List, [], ◌∷◌, All, Contains, map as map_list, refl}
use Rattle.std.proofs.Common.{sym, ap, ◌∙◌, subst}
use Rattle.std.specs.Ordering.{eq_by_cmp}
use Rattle.std.specs.Cmp.{eq_by_cmp_equiv}
use Rattle.std.proofs.lemmas.Map.Views.{list_any-from_Contains}
use Rattle.std.proofs.lemmas.List.Elements.{All-nil, All-cons, All-head, All-tail, All-weaker, All-contains_itself}
use Rattle.std.specs.FinMap as map
use Rattle.std.specs.FinSet as set
use Rattle.lynx_cells.specs.Database.{cell_cmp, ChangeSet}
use Rattle.lynx_cells.proofs.CellOrder.{cell_cmp_total, cell_cmp_exact}
use Rattle.lynx_cells.specs.Contents.{Contents, IsStaged, changed}
use Rattle.lynx_cells.specs.Triples.{triples_of}

-- the cells of triples
abbrev pub cells_of : List (ℕ × ℕ × ℕ) → List (ℕ × ℕ)
cells_of triples = map_list (λ triple. (triple.0, triple.1)) triples

pub cells_of-triples_of : (es : List ((ℕ × ℕ) × ℕ)) → cells_of (triples_of es) ≡ map_list (λ e. e.0) es
cells_of-triples_of [] = refl
cells_of-triples_of (e ∷ es) = ap (λ rest. e.0 ∷ rest) (cells_of-triples_of es)

cells_from_keys : (P : ℕ × ℕ → Type 0) (es : List ((ℕ × ℕ) × ℕ)) → All P (map_list (λ e. e.0) es) → All (λ triple. P (triple.0, triple.1)) (triples_of es)
cells_from_keys P [] all = All-nil (λ triple. P (triple.0, triple.1))
cells_from_keys P (e ∷ es) all = All-cons (λ triple. P (triple.0, triple.1)) _ (triples_of es) (All-head P e.0 _ all) (cells_from_keys P es (All-tail P e.0 _ all))

keys_from_cells : (P : ℕ × ℕ → Type 0) (es : List ((ℕ × ℕ) × ℕ)) → All (λ triple. P (triple.0, triple.1)) (triples_of es) → All P (map_list (λ e. e.0) es)
keys_from_cells P [] all = All-nil P
keys_from_cells P (e ∷ es) all =
    All-cons P e.0 _ (All-head (λ triple. P (triple.0, triple.1)) (e.0.0, e.0.1, e.1) (triples_of es) all) (keys_from_cells P es (All-tail (λ triple. P (triple.0, triple.1)) (e.0.0, e.0.1, e.1) (triples_of es) all))

-- each triple's cell has a slot
abbrev pub HaveSlots : set.FinSet cell_cmp → List (ℕ × ℕ × ℕ) → Type 0
HaveSlots staged triples = All (λ triple. IsTrue (set.contains staged (triple.0, triple.1))) triples

pub HaveSlots-from_staged : (contents : Contents) (changes : ChangeSet) (triples : List (ℕ × ℕ × ℕ)) → triples ≡ triples_of (map.entries changes) → IsStaged contents changes → HaveSlots contents.staged triples
HaveSlots-from_staged contents changes triples same staged =
    subst (HaveSlots contents.staged) (sym same) (cells_from_keys (λ cell. IsTrue (set.contains contents.staged cell)) (map.entries changes) staged)

pub IsStaged-from_slots : (contents : Contents) (changes : ChangeSet) (triples : List (ℕ × ℕ × ℕ)) → triples ≡ triples_of (map.entries changes) → HaveSlots contents.staged triples → IsStaged contents changes
IsStaged-from_slots contents changes triples same slots =
    keys_from_cells (λ cell. IsTrue (set.contains contents.staged cell)) (map.entries changes) (subst (HaveSlots contents.staged) same slots)

-- ---- more slots

moved : (a b c : Bool) → ((a || b) || c) ≡ (b || (a || c))
moved true true c = refl
moved true false c = refl
moved false b c = refl

-- a slot that is added is one of those that are left
pub union-insert : (staged : set.FinSet cell_cmp) (cell : ℕ × ℕ) (cells : List (ℕ × ℕ)) → set.union (set.insert staged cell) (set.from_list cells) ≡ set.union staged (set.from_list (cell ∷ cells))
union-insert staged cell cells =
    let left : set.FinSet cell_cmp = set.from_list cells in
    set.same_set cell_cmp_total cell_cmp_exact _ _ (λ q.
    set.contains-union cell_cmp_total (set.insert staged cell) left q
    ∙ ap (λ b. b || set.contains left q) (set.contains-insert cell_cmp_total staged cell q)
    ∙ moved (eq_by_cmp cell_cmp q cell) (set.contains staged q) (set.contains left q)
    ∙ sym (set.contains-union cell_cmp_total staged (set.insert left cell) q
    ∙ ap (λ b. set.contains staged q || b) (set.contains-insert cell_cmp_total left cell q)))

or-false : (b : Bool) → (b || false) ≡ b
or-false true = refl
or-false false = refl

-- no slot is left
pub union-none : (staged : set.FinSet cell_cmp) → set.union staged (set.from_list []) ≡ staged
union-none staged = set.same_set cell_cmp_total cell_cmp_exact _ _ (λ q.
    set.contains-union cell_cmp_total staged set.empty q
    ∙ ap (λ b. set.contains staged q || b) (set.contains-empty cell_cmp q)
    ∙ or-false (set.contains staged q))

or_right : (a b : Bool) → b ≡ true → (a || b) ≡ true
or_right true b h = refl
or_right false b h = h

-- the changed cells are staged once their slots are added
pub IsStaged-union : (contents : Contents) (old : set.FinSet cell_cmp) (changes : ChangeSet) → contents.staged ≡ set.union old (changed changes) → IsStaged contents changes
IsStaged-union contents old changes same =
    subst (λ staged. All (λ cell. IsTrue (set.contains staged cell)) (map.keys changes)) (sym same)
    (All-weaker (Contains (map.keys changes)) (λ cell. IsTrue (set.contains (set.union old (changed changes)) cell)) (λ cell has.
    set.contains-union cell_cmp_total old (changed changes) cell
    ∙ or_right (set.contains old cell) _ (set.contains-from_list cell_cmp_total (map.keys changes) cell ∙ list_any-from_Contains (eq_by_cmp_equiv cell_cmp_total) cell (map.keys changes) has))
    (map.keys changes) (All-contains_itself (map.keys changes)))

-- a slot that was there is there
pub contains-insert_kept : (staged : set.FinSet cell_cmp) (added cell : ℕ × ℕ) → IsTrue (set.contains staged cell) → IsTrue (set.contains (set.insert staged added) cell)
contains-insert_kept staged added cell has =
    set.contains-insert cell_cmp_total staged added cell ∙ or_right (eq_by_cmp cell_cmp cell added) (set.contains staged cell) has
