-- What writing a cell does.
use Rattle.std.proofs.Common.{◌≡◌, ◌⊎◌, inl, inr, ◌<◌, ◌<ℤ◌, ◌^◌, ℕ, ℤ, pos, List, [], ◌∷◌, ◌++◌, map, Bool, true, false, cond, ◌&&◌, ◌||◌, ◌≢◌, Option, Some, None, Ok, Err, Result, OnOk, refl, sym, ap, subst, ◌∙◌, arith, append-nil}
use Rattle.std.proofs.lemmas.Int.{ints}
use Rattle.std.proofs.lemmas.Bool.Decides.{nat_tests}
use Rattle.std.specs.Int.{w64, to_be_bytes}
use Rattle.std.specs.Ordering.{eq_by_cmp}
use Rattle.std.specs.List.{AllByRecursion}
use Rattle.std.specs.FinMap as finite
use Rattle.sqlite.specs.declared.types.Value.TheVariants.{Null, Int, Blob}
use Rattle.sqlite.specs.Order.{Row}
use Rattle.sqlite.specs.Command.TheVariants.{InsertOr}
use Rattle.sqlite.specs.Source.TheVariants.{Values}
use Rattle.sqlite_schema.specs.declared.command.Conflict.TheVariants.{Abort}
use Rattle.sqlite_schema.specs.declared.schema.Keys.{Keys}
use Rattle.sqlite.specs.Edit.{edit_of, edited}
use Rattle.sqlite_rules.specs.Edit.{with_rowid, next_rowid}
use Rattle.sqlite_rules.specs.Keys.{conflicts, AreConflicts}
use Rattle.sqlite_rules.specs.Lists.{Has}
use Rattle.sqlite_rules.specs.Cast.{cast_row}
use Rattle.sqlite_rules.specs.Calls.{ids_of}
use Rattle.sqlite.specs.Rowids.TheVariants.{Given}
use Rattle.sqlite.specs.Does.{Tally, Does}
use Rattle.sqlite.specs.Rows.{Written, Task, Upserts, Updates, Puts, Meets, Clears, Tries, TriesEach, Judged, nothing, count_of, rowids_for, mended}
use Rattle.sqlite_rules.specs.declared.error.Refusal.{Refusal}
use Rattle.sqlite.specs.Effect.{edit_error}
use Rattle.sqlite.specs.Tree.{Trees, IsAscending, without_rowid, put_row, rowid}
use Rattle.sqlite.specs.Program.{overlay}
use Rattle.sqlite.specs.Query.{IsAnswer}
use Rattle.sqlite.specs.declared.error.Error.{Error}
use Rattle.sqlite.specs.Listing.{understood}
use Rattle.sqlite.specs.Effect.{Database as Rows}
use Rattle.sqlite.specs.State.{State, mode_of, ExecutesInside}
use Rattle.sqlite.proofs.Callers.{statement_of, runs_as}
use Rattle.sqlite_value.specs.Keys.{first_key}
use Rattle.lynx_cells.specs.Database.{cell_cmp, Database, with_value}
use Rattle.lynx_cells.proofs.Writes.{get-with_value, kept}
use Rattle.sqlite_trees.specs.Objects.{catalog_tree}
use Rattle.lynx_sql.specs.declared.version.StoreVersion.{StoreVersion}
use Rattle.lynx_sql.specs.declared.version.StoreVersion.TheVariants.{One, Two}
use Rattle.lynx_sql.specs.Tables.{cell, store_schema, acted_tree, cell_tree, entry_tree, meta_tree}
use Rattle.lynx_names.specs.declared.limits.TheConstants.{MAX_TABLES}
use Rattle.lynx_sql.specs.Cells.{Stored, cell_row, cell_of, find_stored, Fits, ComesBefore, HoldsCells}
use Rattle.lynx_sql.specs.Texts.{put_text}
use Rattle.lynx_sql.specs.Steps.{WritesCells}
use Rattle.lynx_sql.proofs.Parts.{went, same_value, cast_null, cast_int}
use Rattle.lynx_sql.proofs.Versions.{step_in, no_index_of_catalog, no_index_of_acted}
use Rattle.lynx_sql.proofs.Understood.{put_query, put_clause, put_terms, put_is, put_plain}
use Rattle.lynx_sql.proofs.StoredLemmas.{Misses, Place, place_of, find_added, find_replaced, fit_added, fit_replaced, fit_at, up_added, up_replaced, ids_before, ids_after, rows_without, rows_with, below_next}
use Rattle.lynx_sql.proofs.TestLemmas.{equals, finds_cell, finds_it, finds_not, answers_one, ints_alike, ints_are}

conflict_is : (version : StoreVersion) (new s : Stored) → conflicts (Some (1 ∷ 2 ∷ [])) (store_schema version).indexes cell (cell_row new) (cell_row s) ≡ (finds_cell new.table new.key s || false)
unfolding first_key
conflict_is One new s = refl
conflict_is Two new s = refl

new_row : (rows : List Row) (t : ℕ) (k v : List ℕ) (top : ℤ) → with_rowid (rowids_for cell top) rows (cast_row cell (mended Abort cell (Null ∷ Int (pos t) ∷ Blob k ∷ Blob v ∷ []))) ≡ Int (next_rowid rows) ∷ Int (pos t) ∷ Blob k ∷ Blob v ∷ []
new_row rows t k v top = rw (cast_null, cast_int) refl

cast_again : (s : Stored) → cast_row cell (cell_row s) ≡ cell_row s
cast_again s = rw (cast_int s.id, cast_int (pos s.table)) refl

or_false : (b : Bool) → (b || false) ≡ b
or_false true = refl
or_false false = refl

-- a row that conflicts is that of the cell's place
has_missed : (version : StoreVersion) (new : Stored) (xs : List Stored) (r : Row) → new.key < 2 ^ 64 → AllByRecursion Fits xs → AllByRecursion (Misses (cell_of new)) xs → Has (map cell_row xs) r
    → conflicts (Some (1 ∷ 2 ∷ [])) (store_schema version).indexes cell (cell_row new) r ≡ true → ⊥
has_missed version new [] r low fits misses has is = has
has_missed version new (x ∷ xs) r low fits misses (inl here) is =
    let no = finds_not new.table new.key x low fits.0 misses.0 in
    let yes = sym (or_false _) ∙ sym (conflict_is version new x) ∙ ap (conflicts (Some (1 ∷ 2 ∷ [])) (store_schema version).indexes cell (cell_row new)) (sym here) ∙ is in
    cc (no, yes)
has_missed version new (x ∷ xs) r low fits misses (inr there) is = has_missed version new xs r low fits.1 misses.1 there is

has_placed : (version : StoreVersion) (new at : Stored) (front back : List Stored) (r : Row) → new.key < 2 ^ 64 → AllByRecursion Fits (front ++ at ∷ back) → AllByRecursion (Misses (cell_of new)) front → AllByRecursion (Misses (cell_of new)) back
    → Has (map cell_row (front ++ at ∷ back)) r → conflicts (Some (1 ∷ 2 ∷ [])) (store_schema version).indexes cell (cell_row new) r ≡ true → r ≡ cell_row at
has_placed version new at [] back r low fits none later (inl here) is = here
has_placed version new at [] back r low fits none later (inr there) is = absurd (has_missed version new back r low fits.1 later there is)
has_placed version new at (x ∷ xs) back r low fits none later (inl here) is =
    let no = finds_not new.table new.key x low fits.0 none.0 in
    let yes = sym (or_false _) ∙ sym (conflict_is version new x) ∙ ap (conflicts (Some (1 ∷ 2 ∷ [])) (store_schema version).indexes cell (cell_row new)) (sym here) ∙ is in
    absurd (let e : true ≡ false = sym yes ∙ no in cc)
has_placed version new at (x ∷ xs) back r low fits none later (inr there) is = has_placed version new at xs back r low fits.1 none.1 later there is

has_at : (front back : List Stored) (at : Stored) → Has (map cell_row (front ++ at ∷ back)) (cell_row at)
has_at [] back at = inl refl
has_at (x ∷ xs) back at = inr (has_at xs back at)

-- ---- the tables after one step

pub record HasWritten (db next : Trees) (t k v : ℕ) : Type 0 where
  pub meta : next 0 ≡ db 0
  pub entries : next 1 ≡ db 1
  pub cells : (cells : Database) → HoldsCells (db 2) cells → HoldsCells (next 2) (with_value cells t k v)

kept_value : (v : ℕ) → v ≢ 0 → kept v ≡ Some v
kept_value v apart = grind (arith, nat_tests)

module _ (version : StoreVersion) (limit : Option ℕ) (keys : Keys) (db : Trees) (t k v : ℕ) (known : t < MAX_TABLES) (low : k < 2 ^ 64) (fits : v < 2 ^ 64) (apart : v ≢ 0) where
  abbrev params : Row
  params = Int (pos t) ∷ Blob (to_be_bytes w64 k) ∷ Blob (to_be_bytes w64 v) ∷ []

  abbrev task : Task
  task = record { limit = limit; keys = keys; schema = store_schema version; table = cell; params = params }

  abbrev new : Stored
  new = record { id = next_rowid (db 2); table = t; key = k; value = v }

  holds_more : (cells : Database) (h : HoldsCells (db 2) cells) → AllByRecursion (Misses (t, k)) h.stored → HoldsCells (put_row (cell_row new) (db 2)) (with_value cells t k v)
  holds_more cells h none =
      let ids : AllByRecursion (λ x. x.id <ℤ new.id) h.stored = subst (λ rows. AllByRecursion (λ (x : Stored). x.id <ℤ next_rowid rows) h.stored) (sym h.rows_are) (below_next h.stored h.apart) in
      let whole : db 2 ≡ map cell_row (h.stored ++ []) = h.rows_are ∙ ap (map cell_row) (sym (append-nil h.stored)) in
      record {
        stored = h.stored ++ new ∷ [];
        rows_are = ap (put_row (cell_row new)) whole ∙ rows_with h.stored [] new ids tt;
        fit = fit_added h.stored new h.fit (record { table = known; key = low; value = fits; nonzero = apart });
        apart = up_added h.stored new ids none h.apart;
        found = λ q.
            get-with_value cells t k v q ∙ ap (λ o. cond (eq_by_cmp cell_cmp q (t, k)) o (finite.get cells q)) (kept_value v apart) ∙ ap (cond (eq_by_cmp cell_cmp q (t, k)) (Some v)) (h.found q)
            ∙ sym (find_added h.stored new (t, k) q refl none);
      }

  holds_other : (cells : Database) (h : HoldsCells (db 2) cells) (p : Place h.stored (t, k)) → HoldsCells (put_row (cell_row (record p.at { value = v })) (without_rowid p.at.id (db 2))) (with_value cells t k v)
  holds_other cells h p =
      let fit = subst (AllByRecursion Fits) p.is h.fit in
      let up = subst (IsAscending ComesBefore) p.is h.apart in
      let has : db 2 ≡ map cell_row (p.front ++ p.at ∷ p.back) = h.rows_are ∙ ap (map cell_row) p.is in
      let below = ids_before p.front p.back p.at up in
      let above = ids_after p.front p.back p.at up in
      let other : Stored = record p.at { value = v } in
      record {
        stored = p.front ++ other ∷ p.back;
        rows_are = ap (λ rows. put_row (cell_row other) (without_rowid p.at.id rows)) has ∙ ap (put_row (cell_row other)) (rows_without p.front p.back p.at below above) ∙ rows_with p.front p.back other below above;
        fit = fit_replaced p.front p.back p.at other (record { table = (fit_at p.front p.back p.at fit).table; key = (fit_at p.front p.back p.at fit).key; value = fits; nonzero = apart }) fit;
        apart = up_replaced p.front p.back p.at v up;
        found = λ q.
            get-with_value cells t k v q ∙ ap (λ o. cond (eq_by_cmp cell_cmp q (t, k)) o (finite.get cells q)) (kept_value v apart)
            ∙ ap (cond (eq_by_cmp cell_cmp q (t, k)) (Some v)) (h.found q ∙ ap (λ xs. find_stored xs q) p.is)
            ∙ sym (find_replaced p.front p.back p.at other (t, k) q p.same p.same p.before);
      }

  -- a new row
  puts : (one : Written) → Puts task (cell_row new) db (Ok one) → (cells : Database) (h : HoldsCells (db 2) cells) → AllByRecursion (Misses (t, k)) h.stored
      → (one.trees meta_tree ≡ db 0) × (one.trees entry_tree ≡ db 1) × HoldsCells (one.trees cell_tree) (with_value cells t k v)
  puts one did cells h none =
      let written = went did in
      let step = step_in version keys db written.0 (edit_of db cell [] Given 0 (cell_row new ∷ [])) written.1 in
      let trees : one.trees ≡ written.0 = ap (λ (it : Written). it.trees) (same_value written.2) in
      let at = λ (t : ℕ). ap (λ (all : Trees). all t) trees in
      let rows : one.trees cell_tree ≡ put_row (cell_row new) (db 2) = at 2 ∙ step.rows ∙ ap (λ r. put_row r (db 2)) (cast_again new) in
      (at 0 ∙ step.tables.0 (λ e. omega arith), at 1 ∙ step.tables.1.0 (λ e. omega arith), subst (λ rows. HoldsCells rows (with_value cells t k v)) (sym rows) (holds_more cells h none))

  abbrev given : ℤ → Row
  given id = params ++ Int id ∷ Int new.id ∷ Int (pos t) ∷ Blob (to_be_bytes w64 k) ∷ Blob (to_be_bytes w64 v) ∷ []

  others_not : (id : ℤ) (xs : List Stored) → AllByRecursion (λ x. x.id ≢ id) xs → AllByRecursion (λ s. (equals (Int s.id) (Int id) && true) ≡ false) xs
  others_not id [] h = tt
  others_not id (x ∷ xs) h = (alone (equals (Int x.id) (Int id)) (λ e. h.0 (ints_are x.id id e)), others_not id xs h.1)
    where
      alone : (b : Bool) → (b ≡ true → ⊥) → (b && true) ≡ false
      alone true f = absurd (f refl)
      alone false f = refl

  -- a row that is there already
  updates : (one : Written) (cells : Database) (h : HoldsCells (db 2) cells) (p : Place h.stored (t, k)) → Updates task (record { lets = []; body = put_query }) (given p.at.id) db (Ok one)
      → (one.trees meta_tree ≡ db 0) × (one.trees entry_tree ≡ db 1) × HoldsCells (one.trees cell_tree) (with_value cells t k v)
  updates one cells h p did =
      let up = subst (IsAscending ComesBefore) p.is h.apart in
      let has : db 2 ≡ map cell_row (p.front ++ p.at ∷ p.back) = h.rows_are ∙ ap (map cell_row) p.is in
      let found = went did in
      let written = went found.2 in
      let answer : IsAnswer put_query (overlay db []) (given p.at.id) found.0 = found.1.answer Null in
      let rows : found.0 ≡ (Int p.at.id ∷ cell_row (record p.at { value = v })) ∷ [] =
      answers_one (overlay db []) (given p.at.id) _ _ found.0 p.front p.back p.at answer has
      (others_not p.at.id p.front (apart_below p.front p.at.id (ids_before p.front p.back p.at up)))
      (ap (λ b. b && true) (ints_alike p.at.id p.at.id refl))
      (others_not p.at.id p.back (apart_above p.back p.at.id (ids_after p.front p.back p.at up))) in
      let step = step_in version keys db written.0 (edit_of db cell (ids_of found.0) Given 1 found.0) written.1 in
      let trees : one.trees ≡ written.0 = ap (λ (it : Written). it.trees) (same_value written.2) in
      let at = λ (t : ℕ). ap (λ (all : Trees). all t) trees in
      let edit : edited db (edit_of db cell (ids_of found.0) Given 1 found.0) ≡ put_row (cell_row (record p.at { value = v })) (without_rowid p.at.id (db 2)) =
      ap (λ rs. edited db (edit_of db cell (ids_of rs) Given 1 rs)) rows ∙ ap (λ r. put_row r (without_rowid p.at.id (db 2))) (cast_again (record p.at { value = v })) in (
        at 0 ∙ step.tables.0 (λ e. omega arith),
        at 1 ∙ step.tables.1.0 (λ e. omega arith),
        subst (λ rows. HoldsCells rows (with_value cells t k v)) (sym (at 2 ∙ step.rows ∙ edit)) (holds_other cells h p),
      )
    where
      apart_below : (xs : List Stored) (id : ℤ) → AllByRecursion (λ x. x.id <ℤ id) xs → AllByRecursion (λ x. x.id ≢ id) xs
      apart_below [] id h = tt
      apart_below (x ∷ xs) id h = (λ e. let l = h.0 in omega (arith, ints), apart_below xs id h.1)

      apart_above : (xs : List Stored) (id : ℤ) → AllByRecursion (λ x. id <ℤ x.id) xs → AllByRecursion (λ x. x.id ≢ id) xs
      apart_above [] id h = tt
      apart_above (x ∷ xs) id h = (λ e. let l = h.0 in omega (arith, ints), apart_above xs id h.1)

  -- no other key is taken, since each row's key is another
  clears : (one : Written) (found : List Row) → Clears task Abort (cell_row new) db found (Ok one) → Puts task (cell_row new) db (Ok one)
  clears one [] did = did
  clears one (x ∷ more) did = did

  upserts : (one : Written) → Upserts task Abort (cell_row new) db (put_clause ∷ []) (Ok one) → (cells : Database) → HoldsCells (db 2) cells
      → (one.trees meta_tree ≡ db 0) × (one.trees entry_tree ≡ db 1) × HoldsCells (one.trees cell_tree) (with_value cells t k v)
  upserts one did cells h = go (place_of h.stored (t, k) h.apart) did.0 did.1 did.2
    where
      go : AllByRecursion (Misses (t, k)) h.stored ⊎ Place h.stored (t, k) → (found : List Row) → AreConflicts (Some (1 ∷ 2 ∷ [])) (store_schema version).indexes cell (db 2) (cell_row new) found
          → Meets task (Upserts task Abort (cell_row new) db []) (cell_row new) db put_clause found (Ok one) → (one.trees meta_tree ≡ db 0) × (one.trees entry_tree ≡ db 1) × HoldsCells (one.trees cell_tree) (with_value cells t k v)
      go (inl none) [] all meets = puts one (clears one meets.0 meets.2) cells h none
      go (inl none) (there ∷ more) all meets =
          let s = all.sound there (inl refl) in absurd (has_missed version new h.stored s.0 low h.fit none (subst (λ rows. Has rows s.0) h.rows_are s.1) s.2)
      go (inr p) [] all meets =
          let row = cell_row p.at in
          let here : Has (db 2) row = subst (λ rows. Has rows row) (sym (h.rows_are ∙ ap (map cell_row) p.is)) (has_at p.front p.back p.at) in
          absurd (all.complete row here (conflict_is version new p.at ∙ or_false _ ∙ finds_it t k p.at p.same))
      go (inr p) (there ∷ more) all meets =
          let s = all.sound there (inl refl) in
          let has : db 2 ≡ map cell_row (p.front ++ p.at ∷ p.back) = h.rows_are ∙ ap (map cell_row) p.is in
          let row : s.0 ≡ cell_row p.at = has_placed version new p.at p.front p.back s.0 low (subst (AllByRecursion Fits) p.is h.fit) p.before p.after (subst (λ rows. Has rows s.0) has s.1) s.2 in
          let there_is : there ≡ Int p.at.id ∷ [] = s.3 ∙ ap (λ r. rowid r ∷ []) row in
          updates one cells h p (subst (λ r. Updates task (record { lets = []; body = put_query }) (params ++ rowid r ∷ Int new.id ∷ Int (pos t) ∷ Blob (to_be_bytes w64 k) ∷ Blob (to_be_bytes w64 v) ∷ []) db (Ok one)) there_is meets)

  tries : (one : Written) → Tries task Abort (put_clause ∷ []) (cell_row new) db (Ok one) → (cells : Database) → HoldsCells (db 2) cells
      → (one.trees meta_tree ≡ db 0) × (one.trees entry_tree ≡ db 1) × HoldsCells (one.trees cell_tree) (with_value cells t k v)
  tries one (inl refused) cells h = absurd (let e = refused.1 in cc)
  tries one (inr judged) cells h = go judged.0 judged.2
    where
      go : (verdict : Option Refusal) → Judged task Abort (put_clause ∷ []) (cell_row new) db verdict (Ok one) → (one.trees meta_tree ≡ db 0) × (one.trees entry_tree ≡ db 1) × HoldsCells (one.trees cell_tree) (with_value cells t k v)
      go None did = upserts one did cells h
      go (Some why) did = absurd (let e : Ok one ≡ Err (Some (edit_error why)) = did in cc)

-- the other tables stay, whatever rows the cells have
module _ (version : StoreVersion) (limit : Option ℕ) (keys : Keys) (db : Trees) (params : Row) (new : Row) (one : Written) where
  abbrev job : Task
  job = record { limit = limit; keys = keys; schema = store_schema version; table = cell; params = params }

  abbrev Stays : Type 0
  Stays = (one.trees meta_tree ≡ db 0) × (one.trees entry_tree ≡ db 1) × (one.trees catalog_tree ≡ db catalog_tree) × (one.trees acted_tree ≡ db 4)

  stays_put : Puts job new db (Ok one) → Stays
  stays_put did =
      let written = went did in
      let step = step_in version keys db written.0 (edit_of db cell [] Given 0 (new ∷ [])) written.1 in
      let trees : one.trees ≡ written.0 = ap (λ (it : Written). it.trees) (same_value written.2) in
      let at = λ (t : ℕ). ap (λ (all : Trees). all t) trees in
      (at 0 ∙ step.tables.0 (λ e. omega arith), at 1 ∙ step.tables.1.0 (λ e. omega arith), at catalog_tree ∙ step.others catalog_tree (λ e. omega arith) (no_index_of_catalog version), at 4 ∙ step.others 4 (λ e. omega arith) (no_index_of_acted version))

  stays_updated : (given : Row) → Updates job (record { lets = []; body = put_query }) given db (Ok one) → Stays
  stays_updated given did =
      let found = went did in
      let written = went found.2 in
      let step = step_in version keys db written.0 (edit_of db cell (ids_of found.0) Given 1 found.0) written.1 in
      let trees : one.trees ≡ written.0 = ap (λ (it : Written). it.trees) (same_value written.2) in
      let at = λ (t : ℕ). ap (λ (all : Trees). all t) trees in
      (at 0 ∙ step.tables.0 (λ e. omega arith), at 1 ∙ step.tables.1.0 (λ e. omega arith), at catalog_tree ∙ step.others catalog_tree (λ e. omega arith) (no_index_of_catalog version), at 4 ∙ step.others 4 (λ e. omega arith) (no_index_of_acted version))

  stays_cleared : (found : List Row) → Clears job Abort new db found (Ok one) → Stays
  stays_cleared [] did = stays_put did
  stays_cleared (x ∷ more) did = stays_put did

  stays_met : (found : List Row) → Meets job (Upserts job Abort new db []) new db put_clause found (Ok one) → Stays
  stays_met [] did = stays_cleared did.0 did.2
  stays_met (there ∷ more) did = stays_updated _ did

  stays : Tries job Abort (put_clause ∷ []) new db (Ok one) → Stays
  stays (inl refused) = absurd (let e = refused.1 in cc)
  stays (inr judged) = go judged.0 judged.2
    where
      go : (verdict : Option Refusal) → Judged job Abort (put_clause ∷ []) new db verdict (Ok one) → Stays
      go None did = stays_met did.0 did.2
      go (Some why) did = absurd (let e : Ok one ≡ Err (Some (edit_error why)) = did in cc)

pub writes : (old new : State) (version : StoreVersion) (t k v count : ℕ) → t < MAX_TABLES → k < 2 ^ 64 → v < 2 ^ 64 → v ≢ 0 → old.now.schema ≡ store_schema version
    → ExecutesInside 0 put_text (Int (pos t) ∷ Blob (to_be_bytes w64 k) ∷ Blob (to_be_bytes w64 v) ∷ []) old new (Ok count) → WritesCells old new (λ cells. with_value cells t k v)
writes old new version t k v count known low fits apart has h =
    let params : Row = Int (pos t) ∷ Blob (to_be_bytes w64 k) ∷ Blob (to_be_bytes w64 v) ∷ [] in
    let db = old.now.trees in
    let command = InsertOr 2 Abort (Values put_terms 4) (put_clause ∷ []) in
    let w = runs_as put_text params old new (store_schema version) has command (put_is version) (put_plain version) count h.0 in
    let text = statement_of put_text (understood (store_schema version) put_text) in
    let done = went (subst (λ s. Does old.step_limit (mode_of old) params (record old.now { schema = s }) text None command (Ok (w.tally, new.now))) has w.changed) in
    let now = ap (λ (p : Tally × Rows). p.1) (same_value (went (went done.2).2).2) in
    let given = went done.1 in
    let counter = went given.2 in
    let tried = went counter.2 in
    let counts = went tried.2 in
    let top = count_of counter.0 in
    let job : Task = record { limit = old.step_limit; keys = (mode_of old).keys; schema = store_schema version; table = cell; params = params } in
    let one = went (subst (λ rows. TriesEach job Abort (put_clause ∷ []) rows top (nothing db) (Ok tried.0)) given.1.1 tried.1) in
    let did = subst (λ r. Tries job Abort (put_clause ∷ []) r db (Ok one.0)) (new_row (db 2) t (to_be_bytes w64 k) (to_be_bytes w64 v) top) one.1 in
    let wrote = tries version old.step_limit (mode_of old).keys db t k v known low fits apart one.0 did in
    let other = stays version old.step_limit (mode_of old).keys db params _ one.0 did in
    let trees : done.0.trees ≡ one.0.trees =
    ap (λ (it : Written). it.trees) (same_value counts.2) ∙ same_value counts.1 ∙ ap (λ (it : Written × ℤ). it.0.trees) (same_value one.2) in
    let at = λ (t : ℕ). ap (λ (d : Rows). d.trees t) now ∙ ap (λ (all : Trees). all t) trees in
    record {
      on = record { shown = h.1; schema = ap (λ (d : Rows). d.schema) now ∙ sym has; catalog = at catalog_tree ∙ other.2 };
      meta = at 0 ∙ other.0;
      entries = at 1 ∙ other.1;
      cells = λ cells held. subst (λ rows. HoldsCells rows (with_value cells t k v)) (sym (at 2)) (wrote cells held).2;
      acted = at 4 ∙ other.3;
    }

pub writes_or_fails : (old new : State) (version : StoreVersion) (t k v : ℕ) (r : Result ℕ Error) → t < MAX_TABLES → k < 2 ^ 64 → v < 2 ^ 64 → v ≢ 0 → old.now.schema ≡ store_schema version
    → ExecutesInside 0 put_text (Int (pos t) ∷ Blob (to_be_bytes w64 k) ∷ Blob (to_be_bytes w64 v) ∷ []) old new r → OnOk r (WritesCells old new (λ cells. with_value cells t k v))
writes_or_fails old new version t k v (Err e) known low fits apart has h = tt
writes_or_fails old new version t k v (Ok count) known low fits apart has h = writes old new version t k v count known low fits apart has h
