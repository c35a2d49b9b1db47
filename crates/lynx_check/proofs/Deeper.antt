-- The tables of a start, level by level, until one marks it or stays as it is.
use Rattle.std.proofs.Common.{◌≡◌, ℕ, ◌+◌, ◌-◌, ◌<◌, ◌≤◌, true, false, List, [], ◌∷◌, ◌++◌, map, length, refl, sym, ap, ◌∙◌, inl, inr, length-append, below_more, arith}
use Rattle.std.specs.List.{range_with_len}
use Rattle.std.proofs.lemmas.Bool.{cases_lt}
use Rattle.std.proofs.lemmas.List.FromFn.{map-range_with_len_more}
use Rattle.lynx_graph.specs.declared.nodes.Node.{Node}
use Rattle.lynx_check.specs.declared.marks.Marks.{Marks}
use Rattle.lynx_check.specs.inner.Marks.{leaves, next_table, table_within}
use Rattle.lynx_check.specs.inner.Tracing.{AreLevels}
use Rattle.lynx_check.specs.inner.Searches.{ClosesNone}
use Rattle.lynx_check.proofs.Tables.{length-table_within, next_table-grows, table_within-same, table_within-suc, unset_in}

-- the levels so far close no walk, and this is the table after them
pub record Deeper (nodes : List Node) (start : Node) (levels : List (List Marks)) (table : List Marks) : Type 0 where
  pub tables : levels ≡ map (table_within nodes start) (range_with_len 0 (length levels))
  pub now : table ≡ table_within nodes start (length levels)
  pub none : (k : ℕ) → k < length levels → leaves (table_within nodes start k) start false false ≡ false

-- before the first level
pub Deeper-first : (nodes : List Node) (start : Node) (table : List Marks) → table ≡ table_within nodes start 0 → Deeper nodes start [] table
Deeper-first nodes start table is = record { tables = refl; now = is; none = λ k below. absurd (omega arith) }

pushed : (nodes : List Node) (start : Node) (levels : List (List Marks)) (table : List Marks) → Deeper nodes start levels table →
    levels ++ table ∷ [] ≡ map (table_within nodes start) (range_with_len 0 (length (levels ++ table ∷ [])))
pushed nodes start levels table deeper =
    let long : length (levels ++ table ∷ []) ≡ length levels + 1 = length-append levels (table ∷ []) ∙ omega arith in
    ap (λ (so_far : List (List Marks)). so_far ++ table ∷ []) deeper.tables
    ∙ ap (λ (last : List Marks). map (table_within nodes start) (range_with_len 0 (length levels)) ++ last ∷ []) deeper.now
    ∙ sym (map-range_with_len_more (table_within nodes start) 0 (length levels) (length levels) (omega arith))
    ∙ ap (λ (n : ℕ). map (table_within nodes start) (range_with_len 0 n)) (sym long)

-- one level more
pub Deeper-more : (nodes : List Node) (start : Node) (levels : List (List Marks)) (table next : List Marks) → Deeper nodes start levels table → leaves table start false false ≡ false →
    next ≡ next_table nodes start table → Deeper nodes start (levels ++ table ∷ []) next
Deeper-more nodes start levels table next deeper unmarked is =
    let long : length (levels ++ table ∷ []) ≡ length levels + 1 = length-append levels (table ∷ []) ∙ omega arith in
    let here : leaves (table_within nodes start (length levels)) start false false ≡ false = ap (λ (t : List Marks). leaves t start false false) (sym deeper.now) ∙ unmarked in
    let more = below_more (λ k. leaves (table_within nodes start k) start false false ≡ false) (length levels) deeper.none here in
    record {
      tables = pushed nodes start levels table deeper;
      now = is ∙ ap (next_table nodes start) deeper.now ∙ sym (table_within-suc nodes start (length levels)) ∙ ap (table_within nodes start) (sym long);
      none = λ k below. more k (omega (arith, below, long));
    }

-- a table that marks the start is the last level
pub AreLevels-from_Deeper : (nodes : List Node) (start : Node) (levels : List (List Marks)) (table : List Marks) → Deeper nodes start levels table → leaves table start false false ≡ true →
    AreLevels nodes start (levels ++ table ∷ [])
AreLevels-from_Deeper nodes start levels table deeper marked =
    let long : length (levels ++ table ∷ []) ≡ length levels + 1 = length-append levels (table ∷ []) ∙ omega arith in
    let before : length (levels ++ table ∷ []) - 1 ≡ length levels = omega (arith, long) in
    record {
      some = omega (arith, long);
      tables = pushed nodes start levels table deeper;
      closes = ap (λ (n : ℕ). leaves (table_within nodes start n) start false false) before ∙ ap (λ (t : List Marks). leaves t start false false) (sym deeper.now) ∙ marked;
    }

-- a table that stays as it is closes no walk, of whatever length
pub ClosesNone-from_same : (nodes : List Node) (start : Node) (levels : List (List Marks)) (table next : List Marks) → Deeper nodes start levels table → leaves table start false false ≡ false →
    next ≡ next_table nodes start table → next ≡ table → ClosesNone nodes start
ClosesNone-from_same nodes start levels table next deeper unmarked is same further =
    elim (cases_lt further (length levels)) [
      | inl below ↦ deeper.none further below
      | inr above ↦ at_or_above above
    ]
  where
    stays : next_table nodes start (table_within nodes start (length levels)) ≡ table_within nodes start (length levels)
    stays = ap (next_table nodes start) (sym deeper.now) ∙ sym is ∙ same ∙ deeper.now

    at_or_above : length levels ≤ further → leaves (table_within nodes start further) start false false ≡ false
    at_or_above above =
        let sum : further ≡ length levels + (further - length levels) = omega (arith, above) in
        ap (λ (n : ℕ). leaves (table_within nodes start n) start false false) sum
        ∙ ap (λ (t : List Marks). leaves t start false false) (table_within-same nodes start (length levels) (further - length levels) stays ∙ sym deeper.now)
        ∙ unmarked

-- another table wants fewer marks
pub fewer_unset : (nodes : List Node) (start : Node) (levels : List (List Marks)) (table next : List Marks) → Deeper nodes start levels table → next ≡ next_table nodes start table → (next ≡ table → ⊥) →
    unset_in next < unset_in table
fewer_unset nodes start levels table next deeper is other =
    elim (next_table-grows nodes start table (ap length deeper.now ∙ length-table_within nodes start (length levels))) [
      | inl same ↦ absurd (other (is ∙ same))
      | inr fewer ↦ omega (arith, fewer, ap unset_in is)
    ]
