-- What taking out a cell does.
use Rattle.std.proofs.Common.{◌≡◌, ◌⊎◌, inl, inr, ◌<◌, ◌^◌, ℕ, pos, List, [], ◌∷◌, ◌++◌, map, true, false, cond, Some, None, Ok, Err, Result, OnOk, refl, sym, ap, subst, ◌∙◌, arith}
use Rattle.std.specs.Int.{w64, to_be_bytes}
use Rattle.std.specs.Ordering.{eq_by_cmp}
use Rattle.std.specs.List.{AllByRecursion}
use Rattle.std.specs.FinMap as finite
use Rattle.sqlite.specs.declared.types.Value.TheVariants.{Null, Int, Blob}
use Rattle.sqlite.specs.Order.{Row}
use Rattle.sqlite.specs.Command.TheVariants.{Delete}
use Rattle.sqlite.specs.Edit.{edit_of, edited}
use Rattle.sqlite_rules.specs.Edit.{without_all, put_all}
use Rattle.sqlite_rules.specs.Calls.{ids_of}
use Rattle.sqlite.specs.Rowids.TheVariants.{Given}
use Rattle.sqlite.specs.Does.{Tally, Does}
use Rattle.sqlite.specs.Rows.{Written}
use Rattle.sqlite.specs.Tree.{Trees, IsAscending, without_rowid}
use Rattle.sqlite.specs.Program.{overlay}
use Rattle.sqlite.specs.Query.{IsAnswer}
use Rattle.sqlite.specs.declared.error.Error.{Error}
use Rattle.sqlite.specs.Listing.{understood}
use Rattle.sqlite.specs.Effect.{Database as Rows}
use Rattle.sqlite.specs.State.{State, mode_of, ExecutesInside}
use Rattle.sqlite.proofs.Callers.{statement_of, runs_as}
use Rattle.lynx_cells.specs.Database.{cell_cmp, Database, with_value}
use Rattle.lynx_cells.proofs.Writes.{get-with_value, kept}
use Rattle.sqlite_trees.specs.Objects.{catalog_tree}
use Rattle.lynx_sql.specs.declared.version.StoreVersion.{StoreVersion}
use Rattle.lynx_sql.specs.Tables.{cell, store_schema}
use Rattle.lynx_sql.specs.Cells.{Stored, cell_row, find_stored, Fits, ComesBefore, HoldsCells}
use Rattle.lynx_sql.specs.Texts.{delete_text}
use Rattle.lynx_sql.specs.Steps.{GoesOn, WritesCells}
use Rattle.lynx_sql.proofs.Parts.{went, same_value}
use Rattle.lynx_sql.proofs.Versions.{step_in, no_index_of_catalog, no_index_of_acted}
use Rattle.lynx_sql.proofs.Understood.{delete_query, delete_is, delete_plain}
use Rattle.lynx_sql.proofs.StoredLemmas.{Misses, Place, place_of, find_missing_less, find_removed, fit_removed, fit_front, fit_back, up_removed, ids_before, ids_after, rows_without}
use Rattle.lynx_sql.proofs.TestLemmas.{answers_none, answers_one, all_not, finds_it}

-- the rows, with what the query found taken out
pub holds_less : (db : Trees) (t k : ℕ) (found : List Row) (cells : Database) → k < 2 ^ 64 → IsAnswer delete_query (overlay db []) (Int (pos t) ∷ Blob (to_be_bytes w64 k) ∷ []) found
    → HoldsCells (db 2) cells → HoldsCells (put_all (without_all (db 2) (ids_of found)) []) (with_value cells t k 0)
holds_less db t k found cells low answer h = elim (place_of h.stored (t, k) h.apart) [
  | inl none ↦ let rows : found ≡ [] = answers_none (overlay db []) params _ _ found h.stored answer h.rows_are (all_not t k h.stored low h.fit none) in record {
    stored = h.stored;
    rows_are = ap (λ rs. put_all (without_all (db 2) (ids_of rs)) []) rows ∙ h.rows_are;
    fit = h.fit;
    apart = h.apart;
    found = λ q. get-with_value cells t k 0 q ∙ ap (cond (eq_by_cmp cell_cmp q (t, k)) None) (h.found q) ∙ sym (find_missing_less h.stored (t, k) q none);
  }
  | inr p ↦
      let fit = subst (AllByRecursion Fits) p.is h.fit in
      let up = subst (IsAscending ComesBefore) p.is h.apart in
      let has : db 2 ≡ map cell_row (p.front ++ p.at ∷ p.back) = h.rows_are ∙ ap (map cell_row) p.is in
      let rows : found ≡ (Int p.at.id ∷ []) ∷ [] =
      answers_one (overlay db []) params _ _ found p.front p.back p.at answer has (all_not t k p.front low (fit_front p.front p.back p.at fit) p.before) (finds_it t k p.at p.same)
      (all_not t k p.back low (fit_back p.front p.back p.at fit) p.after) in
      record {
        stored = p.front ++ p.back;
        rows_are = ap (λ rs. put_all (without_all (db 2) (ids_of rs)) []) rows ∙ ap (without_rowid p.at.id) has ∙ rows_without p.front p.back p.at (ids_before p.front p.back p.at up) (ids_after p.front p.back p.at up);
        fit = fit_removed p.front p.back p.at fit;
        apart = up_removed p.front p.back p.at up;
        found = λ q.
            get-with_value cells t k 0 q
            ∙ ap (cond (eq_by_cmp cell_cmp q (t, k)) None) (h.found q ∙ ap (λ xs. find_stored xs q) p.is)
            ∙ sym (find_removed p.front p.back p.at (t, k) q p.same p.before p.after);
      }
]
  where
    params : Row
    params = Int (pos t) ∷ Blob (to_be_bytes w64 k) ∷ []

pub deletes : (old new : State) (version : StoreVersion) (t k count : ℕ) → k < 2 ^ 64 → old.now.schema ≡ store_schema version → ExecutesInside 0 delete_text (Int (pos t) ∷ Blob (to_be_bytes w64 k) ∷ []) old new (Ok count)
    → WritesCells old new (λ db. with_value db t k 0)
deletes old new version t k count low has h =
    let params : Row = Int (pos t) ∷ Blob (to_be_bytes w64 k) ∷ [] in
    let db = old.now.trees in
    let command = Delete 2 (record { lets = []; body = delete_query }) in
    let w = runs_as delete_text params old new (store_schema version) has command (delete_is version) (delete_plain version) count h.0 in
    let text = statement_of delete_text (understood (store_schema version) delete_text) in
    let done = went (subst (λ s. Does old.step_limit (mode_of old) params (record old.now { schema = s }) text None command (Ok (w.tally, new.now))) has w.changed) in
    let now = ap (λ (p : Tally × Rows). p.1) (same_value (went (went done.2).2).2) in
    let given = went done.1 in
    let written = went given.2 in
    let trees : done.0.trees ≡ written.0 = ap (λ (it : Written). it.trees) (same_value written.2) in
    let step = step_in version _ db written.0 (edit_of db cell (ids_of given.0) Given 0 []) written.1 in
    let at = λ (t : ℕ). ap (λ (d : Rows). d.trees t) now ∙ ap (λ (all : Trees). all t) trees in
    record {
      on = record { shown = h.1; schema = ap (λ (d : Rows). d.schema) now ∙ sym has; catalog = at catalog_tree ∙ step.others catalog_tree (λ e. omega arith) (no_index_of_catalog version) };
      meta = at 0 ∙ step.tables.0 (λ e. omega arith);
      entries = at 1 ∙ step.tables.1.0 (λ e. omega arith);
      cells = λ cells held. subst (λ rows. HoldsCells rows (with_value cells t k 0)) (sym (at 2 ∙ step.rows)) (holds_less db t k given.0 cells low (given.1.answer Null) held);
      acted = at 4 ∙ step.others 4 (λ e. omega arith) (no_index_of_acted version);
    }

pub deletes_or_fails : (old new : State) (version : StoreVersion) (t k : ℕ) (r : Result ℕ Error) → k < 2 ^ 64 → old.now.schema ≡ store_schema version → ExecutesInside 0 delete_text (Int (pos t) ∷ Blob (to_be_bytes w64 k) ∷ []) old new r
    → OnOk r (WritesCells old new (λ db. with_value db t k 0))
deletes_or_fails old new version t k (Err e) low has h = tt
deletes_or_fails old new version t k (Ok count) low has h = deletes old new version t k count low has h
