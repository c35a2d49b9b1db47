-- The tables of marks: what one more visit adds, their lengths, and where they stay as they are.
use Rattle.std.proofs.Common.{◌≡◌, ℕ, ◌+◌, ◌<◌, ◌≤◌, Bool, true, false, ◌||◌, ◌&&◌, List, [], ◌∷◌, map, length, Option, Some, None, zero, suc, refl, sym, ap, ◌∙◌, ◌⊎◌, inl, inr, arith}
use Rattle.std.specs.Prelude.{option_map, slice_get}
use Rattle.std.specs.List.{zip}
use Rattle.std.specs.Option.{option_map_or}
use Rattle.std.specs.Bool.{Decides}
use mathlib.Core.Bool.{beq}
use Rattle.std.proofs.lemmas.Bool.{and_from, and_right, false≢true}
use Rattle.std.proofs.lemmas.List.Folds.{Any-from_list_any}
use Rattle.std.proofs.lemmas.Map.Keys.{any_passes_from_place}
use Rattle.std.proofs.lemmas.Bool.Decides.{Decides-and, Decides-like}
use Rattle.std.proofs.lemmas.Option.{slice_get-map}
use Rattle.std.proofs.lemmas.List.{length-map}
use Rattle.std.proofs.lemmas.Slice.Zip.{length-zip}
use Rattle.lynx_graph.specs.declared.nodes.Node.{Node}
use Rattle.lynx_check.specs.declared.marks.Marks.{Marks}
use Rattle.lynx_check.specs.inner.Marks.{first_marks, first_table, goes_on, is_goal, is_marked, leaves, leaving_marks, leaving_table, mark, mark_at, marks_by, next_marks, next_table, some_marks, table_within}
use Rattle.lynx_graph.proofs.Lists.{slice_get-within, slice_get-zip}

-- ---- marks

-- the mark that a test gave
pub mark-marks_by : (test : Bool → Bool → Bool) (crossed abroad : Bool) → mark (marks_by test) crossed abroad ≡ test crossed abroad
mark-marks_by test false false = refl
mark-marks_by test true false = refl
mark-marks_by test false true = refl
mark-marks_by test true true = refl

-- the mark at a place of the table
pub mark_at-there : (table : List Marks) (n : ℕ) (marks : Marks) (crossed abroad : Bool) → slice_get table n ≡ Some marks → mark_at table n crossed abroad ≡ mark marks crossed abroad
mark_at-there table n marks crossed abroad there = ap (λ found. option_map_or (λ (known : Marks). mark known crossed abroad) found false) there

-- the mark at a place of a mapped table
mark_at-map : (give : Node → Bool → Bool → Bool) (nodes : List Node) (n : ℕ) (node : Node) (crossed abroad : Bool) → slice_get nodes n ≡ Some node →
    mark_at (map (λ at. marks_by (give at)) nodes) n crossed abroad ≡ give node crossed abroad
mark_at-map give nodes n node crossed abroad there =
    mark_at-there (map (λ at. marks_by (give at)) nodes) n (marks_by (give node)) crossed abroad (slice_get-map (λ at. marks_by (give at)) nodes n ∙ ap (option_map (λ (at : Node). marks_by (give at))) there)
    ∙ mark-marks_by (give node) crossed abroad

pub mark_at-first_table : (nodes : List Node) (start : Node) (n : ℕ) (node : Node) (crossed abroad : Bool) → slice_get nodes n ≡ Some node →
    mark_at (first_table nodes start) n crossed abroad ≡ is_goal start node crossed abroad
mark_at-first_table nodes start n node crossed abroad there = mark_at-map (is_goal start) nodes n node crossed abroad there

-- a mark at a place is a mark
marked_somewhere : (table : List Marks) (n : ℕ) (crossed abroad : Bool) → mark_at table n crossed abroad ≡ true → is_marked table crossed abroad ≡ true
marked_somewhere table n crossed abroad marked = by_place (slice_get table n) refl marked
  where
    by_place : (there : Option Marks) → slice_get table n ≡ there → option_map_or (λ (marks : Marks). mark marks crossed abroad) there false ≡ true → is_marked table crossed abroad ≡ true
    by_place None is e = absurd (false≢true e)
    by_place (Some marks) is e = any_passes_from_place (λ (known : Marks). mark known crossed abroad) table n marks is e

-- what is left to a marked hop is seen where some hop is marked
leaves-some : (table : List Marks) (node : Node) (crossed abroad : Bool) → (mark (some_marks table) crossed abroad && leaves table node crossed abroad) ≡ leaves table node crossed abroad
leaves-some table node crossed abroad = by_test (leaves table node crossed abroad) refl
  where
    by_test : (b : Bool) → leaves table node crossed abroad ≡ b → (mark (some_marks table) crossed abroad && b) ≡ b
    by_test false is = and_right (mark (some_marks table) crossed abroad) false refl
    by_test true is =
        let found = Any-from_list_any (λ next. mark_at table next crossed abroad) node.neighbours is in
        and_from _ _ (mark-marks_by (is_marked table) crossed abroad ∙ marked_somewhere table found.1 crossed abroad found.4) refl

pub mark_at-leaving_table : (nodes : List Node) (table : List Marks) (n : ℕ) (node : Node) (crossed abroad : Bool) → slice_get nodes n ≡ Some node →
    mark_at (leaving_table nodes table) n crossed abroad ≡ leaves table node crossed abroad
mark_at-leaving_table nodes table n node crossed abroad there =
    mark_at-map (λ at left away. mark (some_marks table) left away && leaves table at left away) nodes n node crossed abroad there ∙ leaves-some table node crossed abroad

pub mark_at-leaving_table_none : (nodes : List Node) (table : List Marks) (n : ℕ) (crossed abroad : Bool) → slice_get nodes n ≡ None → mark_at (leaving_table nodes table) n crossed abroad ≡ false
mark_at-leaving_table_none nodes table n crossed abroad none =
    ap (λ found. option_map_or (λ (known : Marks). mark known crossed abroad) found false)
    (slice_get-map (leaving_marks table (some_marks table)) nodes n ∙ ap (option_map (leaving_marks table (some_marks table))) none)

-- ---- lengths

length-next_table : (nodes : List Node) (start : Node) (table : List Marks) → length table ≡ length nodes → length (next_table nodes start table) ≡ length nodes
length-next_table nodes start table same =
    length-map (zip nodes table) (λ paired. next_marks (leaving_table nodes table) start paired.0 paired.1) ∙ length-zip nodes table ∙ omega (arith, same)

pub length-table_within : (nodes : List Node) (start : Node) (further : ℕ) → length (table_within nodes start further) ≡ length nodes
unfolding table_within
length-table_within nodes start zero = length-map nodes (first_marks start)
length-table_within nodes start (suc further) = length-next_table nodes start (table_within nodes start further) (length-table_within nodes start further)

-- ---- one visit more

pub mark_at-next_table : (nodes : List Node) (start : Node) (table : List Marks) (n : ℕ) (node : Node) (crossed abroad : Bool) → length table ≡ length nodes → slice_get nodes n ≡ Some node → n < length nodes →
    mark_at (next_table nodes start table) n crossed abroad ≡ (mark_at table n crossed abroad || goes_on (leaving_table nodes table) start node crossed abroad)
mark_at-next_table nodes start table n node crossed abroad same there within =
    let here = slice_get-within table n (omega (arith, same, within)) in
    mark_at-there (next_table nodes start table) n (next_marks (leaving_table nodes table) start node here.0) crossed abroad
    (slice_get-map (λ paired. next_marks (leaving_table nodes table) start paired.0 paired.1) (zip nodes table) n
    ∙ ap (option_map (λ (paired : Node × Marks). next_marks (leaving_table nodes table) start paired.0 paired.1)) (slice_get-zip nodes table n node here.0 there here.1))
    ∙ mark-marks_by (λ left away. mark here.0 left away || goes_on (leaving_table nodes table) start node left away) crossed abroad
    ∙ ap (λ marked. marked || goes_on (leaving_table nodes table) start node crossed abroad) (sym (mark_at-there table n here.0 crossed abroad here.1))

pub table_within-zero : (nodes : List Node) (start : Node) → table_within nodes start 0 ≡ first_table nodes start
unfolding table_within
table_within-zero nodes start = refl

pub table_within-suc : (nodes : List Node) (start : Node) (further : ℕ) → table_within nodes start (further + 1) ≡ next_table nodes start (table_within nodes start further)
unfolding table_within
table_within-suc nodes start further = let same : further + 1 ≡ suc further = omega arith in ap (table_within nodes start) same

-- ---- a table that stays as it is

-- two neighbouring tables that are the same give all later ones
pub table_within-same : (nodes : List Node) (start : Node) (further more : ℕ) → next_table nodes start (table_within nodes start further) ≡ table_within nodes start further →
    table_within nodes start (further + more) ≡ table_within nodes start further
table_within-same nodes start further zero same = ap (table_within nodes start) (omega arith)
table_within-same nodes start further (suc more) same =
    ap (table_within nodes start) (omega arith) ∙ table_within-suc nodes start (further + more) ∙ ap (next_table nodes start) (table_within-same nodes start further more same) ∙ same

-- ---- marks only grow

-- how many marks are wanting
abbrev pub unset : Bool → ℕ
unset true = 0
unset false = 1

abbrev pub unset_marks : Marks → ℕ
unset_marks marks = unset marks.neither + unset marks.crossed + unset marks.abroad + unset marks.both

abbrev pub unset_in : List Marks → ℕ
unset_in [] = 0
unset_in (marks ∷ table) = unset_marks marks + unset_in table

more_set : (b more : Bool) → ((b || more) ≡ b) ⊎ (unset (b || more) < unset b)
more_set true more = inl refl
more_set false true = inr (omega arith)
more_set false false = inl refl

-- marks that are added to are the same, or fewer are wanting
abbrev Grows : Marks → Marks → Type 0
Grows next marks = (next ≡ marks) ⊎ (unset_marks next < unset_marks marks)

less_unset : (b more : Bool) → unset (b || more) ≤ unset b
less_unset true more = omega arith
less_unset false true = omega arith
less_unset false false = omega arith

grows_marks : (marks : Marks) (neither crossed abroad both : Bool) →
    Grows (record { neither = marks.neither || neither; crossed = marks.crossed || crossed; abroad = marks.abroad || abroad; both = marks.both || both }) marks
grows_marks marks neither crossed abroad both =
    let n = less_unset marks.neither neither in
    let c = less_unset marks.crossed crossed in
    let a = less_unset marks.abroad abroad in
    let b = less_unset marks.both both in
    elim (more_set marks.neither neither) [
      | inr fewer ↦ inr (omega (arith, fewer, c, a, b))
      | inl same_n ↦ elim (more_set marks.crossed crossed) [
        | inr fewer ↦ inr (omega (arith, fewer, n, a, b))
        | inl same_c ↦ elim (more_set marks.abroad abroad) [
          | inr fewer ↦ inr (omega (arith, fewer, n, c, b))
          | inl same_a ↦ elim (more_set marks.both both) [
            | inr fewer ↦ inr (omega (arith, fewer, n, c, a))
            | inl same_b ↦ inl (
                ap (λ (x : Bool). let m : Marks = record { neither = x; crossed = marks.crossed || crossed; abroad = marks.abroad || abroad; both = marks.both || both } in m) same_n
                ∙ ap (λ (x : Bool). let m : Marks = record { neither = marks.neither; crossed = x; abroad = marks.abroad || abroad; both = marks.both || both } in m) same_c
                ∙ ap (λ (x : Bool). let m : Marks = record { neither = marks.neither; crossed = marks.crossed; abroad = x; both = marks.both || both } in m) same_a
                ∙ ap (λ (x : Bool). let m : Marks = record { neither = marks.neither; crossed = marks.crossed; abroad = marks.abroad; both = x } in m) same_b
                )
          ]
        ]
      ]
    ]

-- a table whose marks are added to is the same, or fewer are wanting
grows_table : (give : Node → Marks → Marks) → ((node : Node) (marks : Marks) → Grows (give node marks) marks) → (nodes : List Node) (table : List Marks) → length table ≡ length nodes →
    (map (λ (paired : Node × Marks). give paired.0 paired.1) (zip nodes table) ≡ table) ⊎ (unset_in (map (λ (paired : Node × Marks). give paired.0 paired.1) (zip nodes table)) < unset_in table)
grows_table give each [] [] same = inl refl
grows_table give each [] (marks ∷ table) same = absurd (omega (arith, same))
grows_table give each (node ∷ nodes) [] same = absurd (omega (arith, same))
grows_table give each (node ∷ nodes) (marks ∷ table) same = by_parts (each node marks) (grows_table give each nodes table (omega (arith, same)))
  where
    rest : List Marks
    rest = map (λ (paired : Node × Marks). give paired.0 paired.1) (zip nodes table)

    by_parts : Grows (give node marks) marks → (rest ≡ table) ⊎ (unset_in rest < unset_in table) → (give node marks ∷ rest ≡ marks ∷ table) ⊎ (unset_in (give node marks ∷ rest) < unset_in (marks ∷ table))
    by_parts (inl here) (inl later) = inl (ap (λ (m : Marks). m ∷ rest) here ∙ ap (λ (t : List Marks). marks ∷ t) later)
    by_parts (inl here) (inr fewer) = inr (omega (arith, fewer, ap unset_marks here))
    by_parts (inr fewer) (inl later) = inr (omega (arith, fewer, ap unset_in later))
    by_parts (inr fewer) (inr less) = inr (omega (arith, fewer, less))

-- the next table is the same, or fewer marks are wanting
pub next_table-grows : (nodes : List Node) (start : Node) (table : List Marks) → length table ≡ length nodes →
    (next_table nodes start table ≡ table) ⊎ (unset_in (next_table nodes start table) < unset_in table)
next_table-grows nodes start table same = grows_table (next_marks (leaving_table nodes table) start) each nodes table same
  where
    each : (node : Node) (marks : Marks) → Grows (next_marks (leaving_table nodes table) start node marks) marks
    each node marks = grows_marks marks (goes_on (leaving_table nodes table) start node false false) (goes_on (leaving_table nodes table) start node true false)
        (goes_on (leaving_table nodes table) start node false true) (goes_on (leaving_table nodes table) start node true true)

-- ---- tables that are the same

Decides-beq : (left right : Bool) → Decides (beq left right) (left ≡ right)
Decides-beq true true = (λ _. refl, λ _. refl)
Decides-beq true false = (λ passes. absurd (false≢true passes), λ same. absurd (false≢true (sym same)))
Decides-beq false true = (λ passes. absurd (false≢true passes), λ same. absurd (false≢true same))
Decides-beq false false = (λ _. refl, λ _. refl)

same_marks : (left right : Marks) → left.neither ≡ right.neither → left.crossed ≡ right.crossed → left.abroad ≡ right.abroad → left.both ≡ right.both → left ≡ right
same_marks left right n c a b =
    ap (λ (x : Bool). let m : Marks = record { neither = x; crossed = left.crossed; abroad = left.abroad; both = left.both } in m) n
    ∙ ap (λ (x : Bool). let m : Marks = record { neither = right.neither; crossed = x; abroad = left.abroad; both = left.both } in m) c
    ∙ ap (λ (x : Bool). let m : Marks = record { neither = right.neither; crossed = right.crossed; abroad = x; both = left.both } in m) a
    ∙ ap (λ (x : Bool). let m : Marks = record { neither = right.neither; crossed = right.crossed; abroad = right.abroad; both = x } in m) b

pub Decides-marks : (left right : Marks) → Decides (beq left.neither right.neither && (beq left.crossed right.crossed && (beq left.abroad right.abroad && beq left.both right.both))) (left ≡ right)
Decides-marks left right = Decides-like
    {P = (left.neither ≡ right.neither) × ((left.crossed ≡ right.crossed) × ((left.abroad ≡ right.abroad) × (left.both ≡ right.both)))}
    (beq left.neither right.neither && (beq left.crossed right.crossed && (beq left.abroad right.abroad && beq left.both right.both)))
    (λ parts. same_marks left right parts.0 parts.1.0 parts.1.1.0 parts.1.1.1)
    (λ same. (ap (λ (m : Marks). m.neither) same, (ap (λ (m : Marks). m.crossed) same, (ap (λ (m : Marks). m.abroad) same, ap (λ (m : Marks). m.both) same))))
    (Decides-and _ _ (Decides-beq left.neither right.neither)
    (Decides-and _ _ (Decides-beq left.crossed right.crossed)
    (Decides-and _ _ (Decides-beq left.abroad right.abroad) (Decides-beq left.both right.both))))
