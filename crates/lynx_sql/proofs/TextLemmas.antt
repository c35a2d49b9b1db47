-- What changing a text of `meta` does.
use Rattle.std.proofs.Common.{◌≡◌, ℕ, zero, suc, pos, List, [], ◌∷◌, ◌++◌, map, ◌==◌, if◌then◌else◌, Bool, true, false, cond, ◌&&◌, None, Ok, Err, Result, OnOk, refl, sym, ap, subst, ◌∙◌, arith}
use Rattle.std.proofs.lemmas.Int.{ints}
use Rattle.std.proofs.lemmas.Bool.Decides.{nat_tests}
use Rattle.std.specs.List.{flat_map, list_all}
use Rattle.std.specs.List.Sorted.{IsPermutation}
use Rattle.sqlite.specs.declared.types.Value.TheVariants.{Null, Int, Text}
use Rattle.sqlite.specs.Order.{Row}
use Rattle.sqlite.specs.Command.TheVariants.{Update}
use Rattle.sqlite.specs.Edit.{edit_of, edited}
use Rattle.sqlite_rules.specs.Cast.{cast_row}
use Rattle.sqlite_rules.specs.Calls.{ids_of}
use Rattle.sqlite.specs.Rowids.TheVariants.{Given}
use Rattle.sqlite.specs.Does.{Tally, Does}
use Rattle.sqlite.specs.Rows.{Written}
use Rattle.sqlite.specs.Tree.{Trees, put_row, without_rowid}
use Rattle.sqlite.specs.Program.{overlay}
use Rattle.sqlite.specs.Term.{Env, holds, col}
use Rattle.sqlite.specs.Query.{IsAnswer, output, page, Output}
use Rattle.sqlite.specs.declared.error.Error.{Error}
use Rattle.sqlite.specs.Listing.{understood}
use Rattle.sqlite.specs.Effect.{Database}
use Rattle.sqlite.specs.State.{State, mode_of, ExecutesInside}
use Rattle.sqlite.proofs.Callers.{statement_of, runs_as, one_permutation}
use Rattle.sqlite_trees.specs.Objects.{catalog_tree}
use Rattle.lynx_sql.specs.declared.version.StoreVersion.{StoreVersion}
use Rattle.lynx_sql.specs.Tables.{meta, store_schema}
use Rattle.lynx_sql.specs.Contents.{Title, with_text}
use Rattle.lynx_sql.specs.Rows.{meta_row, meta_rows}
use Rattle.lynx_sql.specs.Texts.{meta_update_text}
use Rattle.lynx_sql.specs.Steps.{SetsText, Retitles}
use Rattle.lynx_sql.proofs.Parts.{cast_null, cast_int, went, same_value}
use Rattle.lynx_sql.proofs.RowLemmas.{lower_id}
use Rattle.lynx_sql.proofs.StoredLemmas.{id_same, id_more}
use Rattle.lynx_sql.proofs.TestLemmas.{equals, ints_alike, ints_are, no_rows}
use Rattle.lynx_sql.proofs.MetaLemmas.{goes_on_then}
use Rattle.lynx_sql.proofs.Versions.{step_in, no_index_of_catalog, no_index_of_acted}
use Rattle.lynx_sql.proofs.Understood.{is_equal, update_query, update_is, update_plain}

-- ---- which rows are found

abbrev finds : ℕ → ℕ → Bool
finds id k = equals (Int (pos k)) (Int (pos id)) && true

finds_own : (id : ℕ) → finds id id ≡ true
finds_own id = ap (λ b. b && true) (ints_alike (pos id) (pos id) refl)

finds_other : (id k : ℕ) → (k ≡ id → ⊥) → finds id k ≡ false
finds_other id k apart = alone (equals (Int (pos k)) (Int (pos id))) (λ e. let same = ints_are (pos k) (pos id) e in let at : k ≡ id = cc in apart at)
  where
    alone : (b : Bool) → (b ≡ true → ⊥) → (b && true) ≡ false
    alone true f = absurd (f refl)
    alone false f = refl

module _ (db : Trees) (id : ℕ) (text : List ℕ) (title : Title) (has : db 0 ≡ meta_rows title) where
  abbrev params : Row
  params = Int (pos id) ∷ Text text ∷ []

  abbrev env : Row → Env
  env row = params ∷ row ∷ []

  abbrev picks : Row → List Env
  picks row = cond (list_all (holds (env row)) (is_equal (col 1 0) (col 0 0) ∷ [])) (env row ∷ []) []

  -- the rows of the three texts that are found
  abbrev chosen : Bool → Bool → Bool → List Env
  chosen a b c = cond a (env (meta_row 1 title.version) ∷ []) [] ++ (cond b (env (meta_row 2 title.server) ∷ []) [] ++ (cond c (env (meta_row 3 title.set) ∷ []) [] ++ []))

  module _ (found : List Row) (answer : IsAnswer update_query (overlay db []) params found) where
    staged_is : (a b c : Bool) → finds id 1 ≡ a → finds id 2 ≡ b → finds id 3 ≡ c → answer.staged ≡ chosen a b c
    staged_is a b c one two three =
        answer.grouped ∙ ap (flat_map picks) has ∙ ap (λ x. chosen x (finds id 2) (finds id 3)) one ∙ ap (λ x. chosen a x (finds id 3)) two ∙ ap (λ x. chosen a b x) three

    found_none : answer.staged ≡ [] → found ≡ []
    found_none staged =
        let kept : answer.kept ≡ [] = answer.distinct ∙ ap (map (output update_query)) staged in
        let ordered = no_rows answer.ordered (subst (λ k. IsPermutation k answer.ordered) kept answer.same) in
        answer.shown ∙ ap (λ xs. page update_query params (map (λ (p : Output). p.1) xs)) ordered

    found_one : (k : ℕ) (old : List ℕ) → answer.staged ≡ env (meta_row k old) ∷ [] → found ≡ (Int (pos k) ∷ Int (pos k) ∷ Null ∷ Text text ∷ []) ∷ []
    found_one k old staged =
        let o : Output = output update_query (env (meta_row k old)) in
        let kept : answer.kept ≡ o ∷ [] = answer.distinct ∙ ap (map (output update_query)) staged in
        let ordered = one_permutation o answer.ordered (subst (λ k. IsPermutation k answer.ordered) kept answer.same) in
        answer.shown ∙ ap (λ xs. page update_query params (map (λ (p : Output). p.1) xs)) ordered

-- ---- what is written in their place

abbrev after : Trees → List Row → List Row
after db found = edited db (edit_of db meta (ids_of found) Given 1 found)

cast_is : (k : ℕ) (text : List ℕ) → cast_row meta (Int (pos k) ∷ Null ∷ Text text ∷ []) ≡ meta_row k text
cast_is k text = rw (cast_null, cast_int (pos k)) refl

put_one : (db : Trees) (k : ℕ) (text : List ℕ) (title : Title) → db 0 ≡ meta_rows title
    → after db ((Int (pos k) ∷ Int (pos k) ∷ Null ∷ Text text ∷ []) ∷ []) ≡ put_row (meta_row k text) (without_rowid (pos k) (meta_rows title))
put_one db k text title has =
    ap (λ row. put_row row (without_rowid (pos k) (db 0))) (cast_is k text) ∙ ap (λ rows. put_row (meta_row k text) (without_rowid (pos k) rows)) has

first_out : (title : Title) → without_rowid (pos 1) (meta_rows title) ≡ meta_row 2 title.server ∷ meta_row 3 title.set ∷ []
first_out title = rw (id_same (pos 1), id_more (pos 2) (pos 1) (omega (arith, ints)), id_more (pos 3) (pos 1) (omega (arith, ints))) refl

third_out : (title : Title) → without_rowid (pos 3) (meta_rows title) ≡ meta_row 1 title.version ∷ meta_row 2 title.server ∷ []
third_out title = rw (id_same (pos 3), lower_id 1 3 (omega arith), lower_id 2 3 (omega arith)) refl

second_out : (title : Title) → without_rowid (pos 2) (meta_rows title) ≡ meta_row 1 title.version ∷ meta_row 3 title.set ∷ []
second_out title = rw (id_same (pos 2), lower_id 1 2 (omega arith), id_more (pos 3) (pos 2) (omega (arith, ints))) refl

first_in : (text : List ℕ) (title : Title) → put_row (meta_row 1 text) (meta_row 2 title.server ∷ meta_row 3 title.set ∷ []) ≡ meta_rows (with_text title 1 text)
first_in text title = rw (id_more (pos 2) (pos 1) (omega (arith, ints))) refl

second_in : (text : List ℕ) (title : Title) → put_row (meta_row 2 text) (meta_row 1 title.version ∷ meta_row 3 title.set ∷ []) ≡ meta_rows (with_text title 2 text)
second_in text title = rw (lower_id 1 2 (omega arith), id_more (pos 3) (pos 2) (omega (arith, ints))) refl

third_in : (text : List ℕ) (title : Title) → put_row (meta_row 3 text) (meta_row 1 title.version ∷ meta_row 2 title.server ∷ []) ≡ meta_rows (with_text title 3 text)
third_in text title = rw (lower_id 1 3 (omega arith), lower_id 2 3 (omega arith)) refl

same_title : (title : Title) (id : ℕ) (text : List ℕ) → (id == 1) ≡ false → (id == 2) ≡ false → (id == 3) ≡ false → with_text title id text ≡ title
same_title title id text one two three =
    λ i. record {
      version = if one i then text else title.version;
      server = if two i then text else title.server;
      set = if three i then text else title.set;
    }

changed : (db : Trees) (id : ℕ) (text : List ℕ) (title : Title) → db 0 ≡ meta_rows title → (found : List Row)
    → IsAnswer update_query (overlay db []) (Int (pos id) ∷ Text text ∷ []) found → after db found ≡ meta_rows (with_text title id text)
changed db zero text title has found answer =
    ap (after db) (found_none db 0 text title has found answer
    (staged_is db 0 text title has found answer false false false (finds_other 0 1 (λ e. omega arith)) (finds_other 0 2 (λ e. omega arith)) (finds_other 0 3 (λ e. omega arith))))
    ∙ has
changed db (suc zero) text title has found answer =
    ap (after db) (found_one db 1 text title has found answer 1 title.version
    (staged_is db 1 text title has found answer true false false (finds_own 1) (finds_other 1 2 (λ e. omega arith)) (finds_other 1 3 (λ e. omega arith))))
    ∙ put_one db 1 text title has ∙ ap (put_row (meta_row 1 text)) (first_out title) ∙ first_in text title
changed db (suc (suc zero)) text title has found answer =
    ap (after db) (found_one db 2 text title has found answer 2 title.server
    (staged_is db 2 text title has found answer false true false (finds_other 2 1 (λ e. omega arith)) (finds_own 2) (finds_other 2 3 (λ e. omega arith))))
    ∙ put_one db 2 text title has ∙ ap (put_row (meta_row 2 text)) (second_out title) ∙ second_in text title
changed db (suc (suc (suc zero))) text title has found answer =
    ap (after db) (found_one db 3 text title has found answer 3 title.set
    (staged_is db 3 text title has found answer false false true (finds_other 3 1 (λ e. omega arith)) (finds_other 3 2 (λ e. omega arith)) (finds_own 3)))
    ∙ put_one db 3 text title has ∙ ap (put_row (meta_row 3 text)) (third_out title) ∙ third_in text title
changed db (suc (suc (suc (suc n)))) text title has found answer =
    let id = suc (suc (suc (suc n))) in
    ap (after db) (found_none db id text title has found answer
    (staged_is db id text title has found answer false false false (finds_other id 1 (λ e. omega arith)) (finds_other id 2 (λ e. omega arith)) (finds_other id 3 (λ e. omega arith))))
    ∙ has ∙ ap meta_rows (sym (same_title title id text (grind (arith, nat_tests)) (grind (arith, nat_tests)) (grind (arith, nat_tests))))

-- ---- the statement

sets : (old new : State) (version : StoreVersion) (id : ℕ) (text : List ℕ) (count : ℕ) → old.now.schema ≡ store_schema version
    → ExecutesInside 0 meta_update_text (Int (pos id) ∷ Text text ∷ []) old new (Ok count) → SetsText old new id text
sets old new version id text count has h =
    let params : Row = Int (pos id) ∷ Text text ∷ [] in
    let db = old.now.trees in
    let command = Update 0 (record { lets = []; body = update_query }) in
    let w = runs_as meta_update_text params old new (store_schema version) has command (update_is version) (update_plain version) count h.0 in
    let sql = statement_of meta_update_text (understood (store_schema version) meta_update_text) in
    let done = went (subst (λ s. Does old.step_limit (mode_of old) params (record old.now { schema = s }) sql None command (Ok (w.tally, new.now))) has w.changed) in
    let now = ap (λ (p : Tally × Database). p.1) (same_value (went (went done.2).2).2) in
    let given = went done.1 in
    let written = went given.2 in
    let trees : done.0.trees ≡ written.0 = ap (λ (it : Written). it.trees) (same_value written.2) in
    let step = step_in version _ db written.0 (edit_of db meta (ids_of given.0) Given 1 given.0) written.1 in
    let at = λ (t : ℕ). ap (λ (d : Database). d.trees t) now ∙ ap (λ (all : Trees). all t) trees in
    record {
      on = record { shown = h.1; schema = ap (λ (d : Database). d.schema) now ∙ sym has; catalog = at catalog_tree ∙ step.others catalog_tree (λ e. omega arith) (no_index_of_catalog version) };
      meta = λ title is. at 0 ∙ step.rows ∙ changed db id text title is given.0 (given.1.answer Null);
      entries = at 1 ∙ step.tables.1.0 (λ e. omega arith);
      cells = at 2 ∙ step.tables.1.1.0 (λ e. omega arith);
      acted = at 4 ∙ step.others 4 (λ e. omega arith) (no_index_of_acted version);
    }

pub sets_or_fails : (old new : State) (version : StoreVersion) (id : ℕ) (text : List ℕ) (r : Result ℕ Error) → old.now.schema ≡ store_schema version
    → ExecutesInside 0 meta_update_text (Int (pos id) ∷ Text text ∷ []) old new r → OnOk r (SetsText old new id text)
sets_or_fails old new version id text (Err e) has h = tt
sets_or_fails old new version id text (Ok count) has h = sets old new version id text count has h

pub retitles : (old one new : State) (version set : List ℕ) → SetsText old one 1 version → SetsText one new 3 set → Retitles old new version set
retitles old one new version set p q = record {
  on = goes_on_then old one new p.on q.on;
  meta = λ title is. q.meta (with_text title 1 version) (p.meta title is);
  entries = q.entries ∙ p.entries;
  cells = q.cells ∙ p.cells;
  acted = q.acted ∙ p.acted;
}
