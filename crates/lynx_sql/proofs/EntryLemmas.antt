-- What the insert of an entry does.
use Rattle.std.proofs.Common.{◌≡◌, ◌⊎◌, inl, inr, ℕ, pos, List, [], ◌∷◌, true, false, Some, None, Ok, Err, Result, OnOk, refl, sym, ap, subst, ◌∙◌, arith}
use Rattle.sqlite.specs.declared.types.Value.TheVariants.{Null, Int, Blob}
use Rattle.sqlite.specs.Order.{Row}
use Rattle.sqlite.specs.Source.TheVariants.{Values}
use Rattle.sqlite.specs.Command.TheVariants.{Insert}
use Rattle.sqlite.specs.Edit.{edit_of, edited}
use Rattle.sqlite.specs.Rowids.TheVariants.{Chosen}
use Rattle.sqlite.specs.Does.{Tally, Does}
use Rattle.sqlite.specs.Rows.{Written}
use Rattle.sqlite.specs.Tree.{Trees, put_row}
use Rattle.sqlite.specs.declared.error.Error.{Error}
use Rattle.sqlite.specs.Listing.{understood}
use Rattle.sqlite.specs.Effect.{Database}
use Rattle.sqlite.specs.State.{State, Shows, mode_of, Writes, Executes, ExecutesInside}
use Rattle.sqlite.proofs.Callers.{statement_of, runs_as}
use Rattle.sqlite_trees.specs.Objects.{catalog_tree}
use Rattle.lynx_sql.specs.declared.version.StoreVersion.{StoreVersion}
use Rattle.lynx_sql.specs.Tables.{entry, store_schema}
use Rattle.lynx_sql.specs.Rows.{entry_row}
use Rattle.lynx_sql.specs.Texts.{insert_text}
use Rattle.lynx_sql.specs.Steps.{GoesOn, AddsEntry}
use Rattle.lynx_sql.proofs.Parts.{cast_null, cast_int, went, same_value}
use Rattle.lynx_sql.proofs.Understood.{insert_terms, insert_is, insert_plain}
use Rattle.lynx_sql.proofs.Versions.{step_in, no_index_of_catalog, no_index_of_acted}

pub adds : (old new : State) (version : StoreVersion) (place : ℕ) (body : List ℕ) (count : ℕ) → old.now.schema ≡ store_schema version
    → ExecutesInside 0 insert_text (Int (pos place) ∷ Blob body ∷ []) old new (Ok count) → AddsEntry old new place body
adds old new version place body count has h =
    let params : Row = Int (pos place) ∷ Blob body ∷ [] in
    let db = old.now.trees in
    let command = Insert 1 (Values insert_terms 3) in
    let w = runs_as insert_text params old new (store_schema version) has command (insert_is version) (insert_plain version) count h.0 in
    let text = statement_of insert_text (understood (store_schema version) insert_text) in
    let done = went (subst (λ s. Does old.step_limit (mode_of old) params (record old.now { schema = s }) text None command (Ok (w.tally, new.now))) has w.changed) in
    let now = ap (λ (p : Tally × Database). p.1) (same_value (went (went done.2).2).2) in
    let given = went done.1 in
    let written = went (went given.2).2 in
    let counted = went written.2 in
    let trees : done.0.trees ≡ written.0 = ap (λ (it : Written). it.trees) (same_value counted.2) ∙ same_value counted.1 in
    let step = step_in version _ db written.0 (edit_of db entry [] Chosen 0 given.0) written.1 in
    let edit : edited db (edit_of db entry [] Chosen 0 given.0) ≡ put_row (entry_row place body) (db 1) = ap (λ all. edited db (edit_of db entry [] Chosen 0 all)) given.1.1 ∙ rw (cast_null, cast_int) refl in
    let at = λ (t : ℕ). ap (λ (d : Database). d.trees t) now ∙ ap (λ (all : Trees). all t) trees in
    record {
      on = record { shown = h.1; schema = ap (λ (d : Database). d.schema) now ∙ sym has; catalog = at catalog_tree ∙ step.others catalog_tree (λ e. omega arith) (no_index_of_catalog version) };
      meta = at 0 ∙ step.tables.0 (λ e. omega arith);
      entries = at 1 ∙ step.rows ∙ edit;
      cells = at 2 ∙ step.tables.1.1.0 (λ e. omega arith);
      acted = at 4 ∙ step.others 4 (λ e. omega arith) (no_index_of_acted version);
    }

pub adds_or_fails : (old new : State) (version : StoreVersion) (place : ℕ) (body : List ℕ) (r : Result ℕ Error) → old.now.schema ≡ store_schema version
    → ExecutesInside 0 insert_text (Int (pos place) ∷ Blob body ∷ []) old new r → OnOk r (AddsEntry old new place body)
adds_or_fails old new version place body (Err e) has h = tt
adds_or_fails old new version place body (Ok count) has h = adds old new version place body count has h
