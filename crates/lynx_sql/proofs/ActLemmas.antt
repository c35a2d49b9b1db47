-- What the inserts of hops do.
use Rattle.std.proofs.Common.{◌≡◌, ℕ, ℤ, ◌+◌, ◌<◌, ◌^◌, pos, ◌+ℤ◌, ◌≤ℤ◌, ◌<ℤ◌, List, [], ◌∷◌, ◌++◌, length, map, take, get_or, Option, Some, None, Ok, Err, Result, OnOk, IsTrue, append-nil, append_assoc, refl, sym, ap, subst, ◌∙◌, arith}
use Rattle.std.proofs.lemmas.Int.{ints}
use Rattle.std.proofs.lemmas.List.{take_more}
use Rattle.std.specs.List.{AllByRecursion, fold}
use Rattle.std.specs.List.Sorted.{IsPermutation}
use Rattle.std.proofs.lemmas.List.Sorted.{IsPermutation-append_left}
use Rattle.sqlite_trees.proofs.ListLemmas.{all_weaker}
use Rattle.sqlite_trees.specs.Tree.{IsAscending, rowid}
use Rattle.sqlite_trees.specs.Objects.{catalog_tree}
use Rattle.sqlite_rules.specs.Edit.{next_rowid, id_in}
use Rattle.sqlite.specs.declared.types.Value.TheVariants.{Int}
use Rattle.sqlite.specs.Order.{Row}
use Rattle.sqlite.specs.Source.TheVariants.{Values}
use Rattle.sqlite.specs.Command.TheVariants.{Insert}
use Rattle.sqlite.specs.Edit.{edit_of, edited}
use Rattle.sqlite.specs.Rowids.TheVariants.{Chosen}
use Rattle.sqlite.specs.Does.{Tally, Does}
use Rattle.sqlite.specs.Rows.{Written}
use Rattle.sqlite.specs.Tree.{Trees, put_row}
use Rattle.sqlite.specs.declared.error.Error.{Error}
use Rattle.sqlite.specs.Listing.{understood}
use Rattle.sqlite.specs.Effect.{Database}
use Rattle.sqlite.specs.State.{State, mode_of, ExecutesInside}
use Rattle.sqlite.proofs.Callers.{statement_of, runs_as}
use Rattle.lynx_sql.specs.declared.acts.Acted.{Acted}
use Rattle.lynx_sql.specs.declared.version.StoreVersion.{StoreVersion}
use Rattle.lynx_sql.specs.declared.version.StoreVersion.TheVariants.{One, Two}
use Rattle.lynx_sql.specs.Tables.{acted, store_schema, acted_tree}
use Rattle.lynx_sql.specs.Acts.{StoredAct, act_row, shown_act, HoldsActs, HoldsActed, version_of, with_acted, noted}
use Rattle.lynx_sql.specs.Texts.{acted_insert_text}
use Rattle.lynx_sql.specs.Steps.{GoesOn, AddsAct, AddsActs, NotesActed}
use Rattle.lynx_sql.proofs.Parts.{cast_null, cast_int, went, same_value}
use Rattle.lynx_sql.proofs.StoredLemmas.{id_less}
use Rattle.lynx_sql.proofs.MetaLemmas.{goes_on_then}
use Rattle.lynx_sql.proofs.Versions.{step_in, no_index_of_catalog}
use Rattle.lynx_sql.proofs.Understood.{act_terms, act_insert_is, act_insert_plain}

-- ---- one more row, under the next number

abbrev Rises : StoredAct → StoredAct → Type 0
Rises s later = s.id <ℤ later.id

abbrev past : ℤ → Row → ℤ
past n r = id_in (rowid r) +ℤ pos 1

above_from : (n : ℤ) (xs : List StoredAct) → IsAscending Rises xs → AllByRecursion (λ x. n ≤ℤ x.id) xs
    → (n ≤ℤ fold past n (map act_row xs)) × AllByRecursion (λ x. x.id <ℤ fold past n (map act_row xs)) xs
above_from n [] up low = (omega (arith, ints), tt)
above_from n (x ∷ xs) up low =
    let rest = above_from (x.id +ℤ pos 1) xs up.1 (all_weaker (Rises x) (λ y. (x.id +ℤ pos 1) ≤ℤ y.id) (λ y h. omega (arith, ints)) xs up.0) in
    let first = rest.0 in
    let here = low.0 in
    (omega (arith, ints), (omega (arith, ints), rest.1))

below_next : (xs : List StoredAct) → IsAscending Rises xs → AllByRecursion (λ x. x.id <ℤ next_rowid (map act_row xs)) xs
below_next [] up = tt
below_next (x ∷ xs) up =
    let rest = above_from (x.id +ℤ pos 1) xs up.1 (all_weaker (Rises x) (λ y. (x.id +ℤ pos 1) ≤ℤ y.id) (λ y h. omega (arith, ints)) xs up.0) in
    let first = rest.0 in
    (omega (arith, ints), rest.1)

pub all_last : {A : Type 0} (P : A → Type 0) (xs : List A) (x : A) → AllByRecursion P xs → P x → AllByRecursion P (xs ++ x ∷ [])
all_last P [] x h last = (last, tt)
all_last P (y ∷ ys) x h last = (h.0, all_last P ys x h.1 last)

put_last : (xs : List StoredAct) (new : StoredAct) → AllByRecursion (λ x. x.id <ℤ new.id) xs → put_row (act_row new) (map act_row xs) ≡ map act_row (xs ++ new ∷ [])
put_last [] new low = refl
put_last (x ∷ xs) new low = rw (id_less x.id new.id low.0) (ap (λ rows. act_row x ∷ rows) (put_last xs new low.1))

rise_last : (xs : List StoredAct) (new : StoredAct) → AllByRecursion (λ x. x.id <ℤ new.id) xs → IsAscending Rises xs → IsAscending Rises (xs ++ new ∷ [])
rise_last [] new low up = (tt, tt)
rise_last (x ∷ xs) new low up = (all_last (Rises x) xs new up.0 low.0, rise_last xs new low.1 up.1)

acts_last : (xs : List StoredAct) (new : StoredAct) → map (λ (s : StoredAct). s.act) (xs ++ new ∷ []) ≡ map (λ (s : StoredAct). s.act) xs ++ new.act ∷ []
acts_last [] new = refl
acts_last (x ∷ xs) new = ap (λ acts. x.act ∷ acts) (acts_last xs new)

holds_more : (rows : List Row) (act : Acted) (before : List Acted) → HoldsActs rows before
    → HoldsActs (put_row (Int (next_rowid rows) ∷ shown_act act) rows) (before ++ act ∷ [])
holds_more rows act before h =
    let new : StoredAct = record { id = next_rowid rows; act = act } in
    let low : AllByRecursion (λ (x : StoredAct). x.id <ℤ new.id) h.stored =
    subst (λ (all : List Row). AllByRecursion (λ (x : StoredAct). x.id <ℤ next_rowid all) h.stored) (sym h.rows_are) (below_next h.stored h.rise) in
    record {
      stored = h.stored ++ new ∷ [];
      rows_are = ap (put_row (act_row new)) h.rows_are ∙ put_last h.stored new low;
      rise = rise_last h.stored new low h.rise;
      same = subst (λ acts. IsPermutation acts (before ++ act ∷ [])) (sym (acts_last h.stored new))
          (IsPermutation-append_left (act ∷ []) (map (λ (s : StoredAct). s.act) h.stored) before h.same);
    }

-- ---- the statement

adds : (old new : State) (act : Acted) (count : ℕ) → act.index < 2 ^ 64 → old.now.schema ≡ store_schema Two
    → ExecutesInside 0 acted_insert_text (shown_act act) old new (Ok count) → AddsAct old new act
adds old new act count fits has h =
    let params : Row = shown_act act in
    let db = old.now.trees in
    let command = Insert 3 (Values act_terms 5) in
    let w = runs_as acted_insert_text params old new (store_schema Two) has command act_insert_is act_insert_plain count h.0 in
    let text = statement_of acted_insert_text (understood (store_schema Two) acted_insert_text) in
    let done = went (subst (λ s. Does old.step_limit (mode_of old) params (record old.now { schema = s }) text None command (Ok (w.tally, new.now))) has w.changed) in
    let now = ap (λ (p : Tally × Database). p.1) (same_value (went (went done.2).2).2) in
    let given = went done.1 in
    let written = went (went given.2).2 in
    let counted = went written.2 in
    let trees : done.0.trees ≡ written.0 = ap (λ (it : Written). it.trees) (same_value counted.2) ∙ same_value counted.1 in
    let step = step_in Two _ db written.0 (edit_of db acted [] Chosen 0 given.0) written.1 in
    let edit : edited db (edit_of db acted [] Chosen 0 given.0) ≡ put_row (Int (next_rowid (db 4)) ∷ shown_act act) (db 4) =
    ap (λ all. edited db (edit_of db acted [] Chosen 0 all)) given.1.1 ∙ rw (cast_null, cast_int (pos act.origin), cast_int (pos act.hop), cast_int (pos act.place)) refl in
    let at = λ (t : ℕ). ap (λ (d : Database). d.trees t) now ∙ ap (λ (all : Trees). all t) trees in
    record {
      on = record { shown = h.1; schema = ap (λ (d : Database). d.schema) now ∙ sym has; catalog = at catalog_tree ∙ step.others catalog_tree (λ e. omega arith) (no_index_of_catalog Two) };
      meta = at 0 ∙ step.tables.0 (λ e. omega arith);
      entries = at 1 ∙ step.tables.1.0 (λ e. omega arith);
      cells = at 2 ∙ step.tables.1.1.0 (λ e. omega arith);
      acted = λ before held. subst (λ rows. HoldsActs rows (before ++ act ∷ [])) (sym (at 4 ∙ step.rows ∙ edit)) (holds_more (db 4) act before held);
      fit = (fits, tt);
    }

pub adds_or_fails : (old new : State) (act : Acted) (r : Result ℕ Error) → act.index < 2 ^ 64 → old.now.schema ≡ store_schema Two
    → ExecutesInside 0 acted_insert_text (shown_act act) old new r → OnOk r (AddsAct old new act)
adds_or_fails old new act (Err e) fits has h = tt
adds_or_fails old new act (Ok count) fits has h = adds old new act count fits has h

-- ---- one after another

pub goes_on_still : (s : State) → IsTrue s.is_open → IsTrue s.in_transaction → GoesOn s s
goes_on_still s up inside =
    record { shown = record { was_open = up; is_open = up; now_is = refl; committed_is = refl; mode = inside }; schema = refl; catalog = refl }

pub adds_none : (s : State) → IsTrue s.is_open → IsTrue s.in_transaction → AddsActs s s []
adds_none s up inside = record {
  on = goes_on_still s up inside;
  meta = refl;
  entries = refl;
  cells = refl;
  acted = λ before h. subst (HoldsActs (s.now.trees acted_tree)) (sym (append-nil before)) h;
  fit = tt;
}

pub adds_then : (a b c : State) (acts : List Acted) (act : Acted) → AddsActs a b acts → AddsAct b c act → AddsActs a c (acts ++ act ∷ [])
adds_then a b c acts act p q = record {
  on = goes_on_then a b c p.on q.on;
  meta = q.meta ∙ p.meta;
  entries = q.entries ∙ p.entries;
  cells = q.cells ∙ p.cells;
  acted = λ before h. subst (HoldsActs (c.now.trees acted_tree)) (append_assoc before acts (act ∷ [])) (q.acted (before ++ acts) (p.acted before h));
  fit = all_last (λ (act : Acted). act.index < 2 ^ 64) acts act p.fit q.fit.0;
}

pub adds_next : (a b c : State) (acts : List Acted) (i : ℕ) (d : Acted) → i < length acts → AddsActs a b (take i acts) → AddsAct b c (get_or acts i d)
    → AddsActs a c (take (i + 1) acts)
adds_next a b c acts i d low p q =
    subst (AddsActs a c) (sym (take_more acts i d low)) (adds_then a b c (take i acts) (get_or acts i d) p q)

-- ---- the hop of an entry, if there is one

pub notes_none : (s : State) (version : StoreVersion) → IsTrue s.is_open → IsTrue s.in_transaction → NotesActed s s version None
notes_none s version up inside = record {
  on = goes_on_still s up inside;
  meta = refl;
  entries = refl;
  cells = refl;
  acted = kept;
  fit = none_fit version;
}
  where
    kept : (before : Option (List Acted)) → version_of before ≡ version → HoldsActed (s.now.trees acted_tree) before → HoldsActed (s.now.trees acted_tree) (with_acted before None)
    kept None is h = tt
    kept (Some acts) is h = h

    none_fit : (v : StoreVersion) → AllByRecursion (λ (act : Acted). act.index < 2 ^ 64) (noted v None)
    none_fit One = tt
    none_fit Two = tt

pub notes_first : (s : State) (acted : Option Acted) → IsTrue s.is_open → IsTrue s.in_transaction → NotesActed s s One acted
notes_first s acted up inside = record {
  on = goes_on_still s up inside;
  meta = refl;
  entries = refl;
  cells = refl;
  acted = kept;
  fit = tt;
}
  where
    kept : (before : Option (List Acted)) → version_of before ≡ One → HoldsActed (s.now.trees acted_tree) before → HoldsActed (s.now.trees acted_tree) (with_acted before acted)
    kept None is h = tt
    kept (Some acts) is h = absurd (let e = is in cc)

pub notes_second : (old new : State) (act : Acted) → AddsAct old new act → NotesActed old new Two (Some act)
notes_second old new act did = record {
  on = did.on;
  meta = did.meta;
  entries = did.entries;
  cells = did.cells;
  acted = more;
  fit = did.fit;
}
  where
    more : (before : Option (List Acted)) → version_of before ≡ Two → HoldsActed (old.now.trees acted_tree) before → HoldsActed (new.now.trees acted_tree) (with_acted before (Some act))
    more None is h = tt
    more (Some acts) is h = did.acted acts h
