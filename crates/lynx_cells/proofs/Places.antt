-- What a search finds among triples that rise by cell, and what an edit at that place does.
use Rattle.std.specs.Prelude.{◌≡◌, ℕ, zero, suc, ◌<◌, T, cond, List, [], ◌∷◌, length, slice_index_or, slice_set, insert, Some, None, Result, Ok, Err, IfOk, IfErr, refl}
use Rattle.std.proofs.Common.{add-one, ap, ◌∙◌, subst, arith, Less, Equal, Greater}
use Rattle.std.specs.Ordering.{ordering_index, ordering_reverse, is_lt, is_eq}
use Rattle.std.specs.List.Sorted.{IsSearchInRange, IsBinarySearchResult, IsNonDecreasingBy}
use Rattle.std.specs.FinMap as map
use Rattle.std.specs.FinMap.Entries.{below_all, by_order}
use Rattle.std.proofs.lemmas.Cmp.{tied_itself}
use Rattle.std.proofs.lemmas.List.{get_or_default}
use Rattle.std.proofs.lemmas.List.Sorted.{searchable_from_sorted}
use Rattle.lynx_cells.specs.Database.{cell_cmp}
use Rattle.lynx_cells.proofs.CellOrder.{cell_cmp_total, cell_cmp_exact, first_part, second_part, is_lt_less}
use Rattle.lynx_cells.specs.Triples.{entry_of, entries_of, RisesByCell}
use Rattle.lynx_cells.specs.inner.Place.{IsPlaceOf, IsGapFor}

-- the cell of a triple
abbrev cell_of : ℕ × ℕ × ℕ → ℕ × ℕ
cell_of triple = (triple.0, triple.1)

turned_less : (a b : ℕ × ℕ) → cell_cmp a b ≡ Less → cell_cmp b a ≡ Greater
turned_less a b less = cell_cmp_total.antisymm b a ∙ ap ordering_reverse less

turned_greater : (a b : ℕ × ℕ) → cell_cmp a b ≡ Greater → cell_cmp b a ≡ Less
turned_greater a b greater = cell_cmp_total.antisymm b a ∙ ap ordering_reverse greater

below_at : (cell : ℕ × ℕ) (ts : List (ℕ × ℕ × ℕ)) → T (below_all cell_cmp cell (entries_of ts)) → (k : ℕ) (d : ℕ × ℕ × ℕ) → k < length ts → cell_cmp cell (cell_of (slice_index_or ts k d)) ≡ Less
below_at cell [] h k d lt = absurd (omega arith)
below_at cell (t ∷ ts) h zero d lt = is_lt_less _ (first_part _ _ h)
below_at cell (t ∷ ts) h (suc k) d lt = below_at cell ts (second_part _ _ h) k d (omega arith)

rises_at : (ts : List (ℕ × ℕ × ℕ)) → RisesByCell ts → (k : ℕ) (d : ℕ × ℕ × ℕ) → suc k < length ts → cell_cmp (cell_of (slice_index_or ts k d)) (cell_of (slice_index_or ts (suc k) d)) ≡ Less
rises_at [] h k d lt = absurd (omega arith)
rises_at (t ∷ ts) h zero d lt = below_at (cell_of t) ts (first_part _ _ h) zero d (omega arith)
rises_at (t ∷ ts) h (suc k) d lt = rises_at ts (second_part _ _ h) k d (omega arith)

-- the comparisons with a cell rise along the list, as a binary search asks
comparisons_rise : (ts : List (ℕ × ℕ × ℕ)) → RisesByCell ts → (cell : ℕ × ℕ) → IsNonDecreasingBy (λ t. ordering_index (cell_cmp (cell_of t) cell)) ts
comparisons_rise ts rises cell = searchable_from_sorted cell_cmp_total cell_of ts cell (λ k d low high.
    rw add-one (ap is_lt (turned_less (cell_of (slice_index_or ts k d)) (cell_of (slice_index_or ts (suc k) d)) (rises_at ts rises k d (omega arith)))))

-- a binary search by cell ends at the cell, or at the gap for it
pub searched : (ts : List (ℕ × ℕ × ℕ)) → RisesByCell ts → (cell : ℕ × ℕ) (r : Result ℕ ℕ) → IsSearchInRange r (length ts) → IsBinarySearchResult (λ t. cell_cmp (cell_of t) cell) ts r
    → IfOk r (IsPlaceOf ts cell) × IfErr r (IsGapFor ts cell)
searched ts rises cell (Ok place) in_range equal = (record { in_range = in_range; has_cell = cell_cmp_exact _ _ (equal (0, 0, 0)) }, tt)
searched ts rises cell (Err place) in_range parted =
    let parts = parted (comparisons_rise ts rises cell) in (
      tt,
      record {
        in_range = in_range;
        less_before = λ k lt. parts.0 k (0, 0, 0) (omega arith) lt;
        greater_from = λ k le lt. parts.1 k (0, 0, 0) le lt;
      },
    )

-- ---- at the place of a cell

later_place : (t : ℕ × ℕ × ℕ) (ts : List (ℕ × ℕ × ℕ)) (cell : ℕ × ℕ) (place : ℕ) → IsPlaceOf (t ∷ ts) cell (suc place) → IsPlaceOf ts cell place
later_place t ts cell place is = record { in_range = omega (arith, is.in_range); has_cell = is.has_cell }

first_is_greater : (t : ℕ × ℕ × ℕ) (ts : List (ℕ × ℕ × ℕ)) (cell : ℕ × ℕ) (place : ℕ) → RisesByCell (t ∷ ts) → IsPlaceOf (t ∷ ts) cell (suc place) → cell_cmp cell (cell_of t) ≡ Greater
first_is_greater t ts cell place rises is =
    turned_less (cell_of t) cell (subst (λ c. cell_cmp (cell_of t) c ≡ Less) is.has_cell (below_at (cell_of t) ts (first_part _ _ rises) place (0, 0, 0) (omega (arith, is.in_range))))

first_is_equal : (t : ℕ × ℕ × ℕ) (cell : ℕ × ℕ) → cell_of t ≡ cell → cell_cmp cell (cell_of t) ≡ Equal
first_is_equal t cell same = ap (λ c. cell_cmp cell c) same ∙ tied_itself cell_cmp_total cell

-- to put a value at a cell that is there is to write over its triple
pub put_at_place : (ts : List (ℕ × ℕ × ℕ)) (cell : ℕ × ℕ) (value place : ℕ) → RisesByCell ts → IsPlaceOf ts cell place
    → map.put cell_cmp cell value (entries_of ts) ≡ entries_of (slice_set ts place (cell.0, cell.1, value))
put_at_place [] cell value place rises is = absurd (omega (arith, is.in_range))
put_at_place (t ∷ ts) cell value zero rises is =
    ap (λ r. by_order r ((cell, value) ∷ entries_of (t ∷ ts)) ((cell_of t, value) ∷ entries_of ts) (entry_of t ∷ map.put cell_cmp cell value (entries_of ts))) (first_is_equal t cell is.has_cell)
    ∙ ap (λ (c : ℕ × ℕ). (c, value) ∷ entries_of ts) is.has_cell
put_at_place (t ∷ ts) cell value (suc place) rises is =
    ap (λ r. by_order r ((cell, value) ∷ entries_of (t ∷ ts)) ((cell_of t, value) ∷ entries_of ts) (entry_of t ∷ map.put cell_cmp cell value (entries_of ts))) (first_is_greater t ts cell place rises is)
    ∙ ap (λ rest. entry_of t ∷ rest) (put_at_place ts cell value place (second_part _ _ rises) (later_place t ts cell place is))

-- the value found is that of the triple at the place
pub find_at_place : (ts : List (ℕ × ℕ × ℕ)) (cell : ℕ × ℕ) (place : ℕ) (d : ℕ × ℕ × ℕ) → RisesByCell ts → IsPlaceOf ts cell place
    → map.find cell_cmp cell (entries_of ts) ≡ Some (slice_index_or ts place d).2
find_at_place [] cell place d rises is = absurd (omega (arith, is.in_range))
find_at_place (t ∷ ts) cell zero d rises is =
    ap (λ r. cond (is_eq r) (Some t.2) (map.find cell_cmp cell (entries_of ts))) (first_is_equal t cell is.has_cell)
find_at_place (t ∷ ts) cell (suc place) d rises is =
    ap (λ r. cond (is_eq r) (Some t.2) (map.find cell_cmp cell (entries_of ts))) (first_is_greater t ts cell place rises is)
    ∙ find_at_place ts cell place d (second_part _ _ rises) (later_place t ts cell place is)

-- ---- in the gap for a cell

later_gap : (t : ℕ × ℕ × ℕ) (ts : List (ℕ × ℕ × ℕ)) (cell : ℕ × ℕ) (place : ℕ) → IsGapFor (t ∷ ts) cell (suc place) → IsGapFor ts cell place
later_gap t ts cell place gap = record {
  in_range = omega (arith, gap.in_range);
  less_before = λ k lt. gap.less_before (suc k) (omega arith);
  greater_from = λ k le lt. gap.greater_from (suc k) (omega arith) (omega arith);
}

rest_of_gap : (t : ℕ × ℕ × ℕ) (ts : List (ℕ × ℕ × ℕ)) (cell : ℕ × ℕ) → IsGapFor (t ∷ ts) cell zero → IsGapFor ts cell zero
rest_of_gap t ts cell gap = record {
  in_range = omega arith;
  less_before = λ k lt. absurd (omega arith);
  greater_from = λ k le lt. gap.greater_from (suc k) (omega arith) (omega arith);
}

-- to put a value at a cell that is not there is to insert its triple in the gap
pub put_in_gap : (ts : List (ℕ × ℕ × ℕ)) (cell : ℕ × ℕ) (value place : ℕ) → IsGapFor ts cell place
    → map.put cell_cmp cell value (entries_of ts) ≡ entries_of (insert ts place (cell.0, cell.1, value))
put_in_gap [] cell value zero gap = refl
put_in_gap [] cell value (suc place) gap = absurd (omega (arith, gap.in_range))
put_in_gap (t ∷ ts) cell value zero gap =
    ap (λ r. by_order r ((cell, value) ∷ entries_of (t ∷ ts)) ((cell_of t, value) ∷ entries_of ts) (entry_of t ∷ map.put cell_cmp cell value (entries_of ts)))
    (turned_greater (cell_of t) cell (gap.greater_from zero (omega arith) (omega arith)))
put_in_gap (t ∷ ts) cell value (suc place) gap =
    ap (λ r. by_order r ((cell, value) ∷ entries_of (t ∷ ts)) ((cell_of t, value) ∷ entries_of ts) (entry_of t ∷ map.put cell_cmp cell value (entries_of ts)))
    (turned_less (cell_of t) cell (gap.less_before zero (omega arith)))
    ∙ ap (λ rest. entry_of t ∷ rest) (put_in_gap ts cell value place (later_gap t ts cell place gap))

-- nothing is found there
pub find_in_gap : (ts : List (ℕ × ℕ × ℕ)) (cell : ℕ × ℕ) (place : ℕ) → IsGapFor ts cell place → map.find cell_cmp cell (entries_of ts) ≡ None
find_in_gap [] cell place gap = refl
find_in_gap (t ∷ ts) cell zero gap =
    ap (λ r. cond (is_eq r) (Some t.2) (map.find cell_cmp cell (entries_of ts))) (turned_greater (cell_of t) cell (gap.greater_from zero (omega arith) (omega arith)))
    ∙ find_in_gap ts cell zero (rest_of_gap t ts cell gap)
find_in_gap (t ∷ ts) cell (suc place) gap =
    ap (λ r. cond (is_eq r) (Some t.2) (map.find cell_cmp cell (entries_of ts))) (turned_less (cell_of t) cell (gap.less_before zero (omega arith)))
    ∙ find_in_gap ts cell place (later_gap t ts cell place gap)

-- a triple that was read at the place has the cell
pub read_has_cell : (ts : List (ℕ × ℕ × ℕ)) (cell : ℕ × ℕ) (place : ℕ) (read : ℕ × ℕ × ℕ) → IsPlaceOf ts cell place → read ≡ slice_index_or ts place read → cell_of read ≡ cell
read_has_cell ts cell place read is from = ap cell_of (from ∙ get_or_default ts place read (0, 0, 0) is.in_range) ∙ is.has_cell
