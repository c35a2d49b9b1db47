-- What the texts mean under the schema of a store, computed.
use Rattle.std.proofs.Common.{◌≡◌, [], ◌∷◌, codes, true, false, Some, None, Ok, Err, ℕ, List, refl}
use Rattle.std.specs.Prelude.{pos, negsuc}
use Rattle.sqlite.specs.Table.{Table}
use Rattle.sqlite.specs.Schema.{Schema}
use Rattle.sqlite.specs.Compile.{table_defined_by}
use Rattle.sqlite_tied.specs.Compute.{everything}
use Rattle.sqlite.specs.Listing.{understood, reads_listing}
use Rattle.sqlite.specs.Change.{created}
use Rattle.sqlite.specs.Command.{Command}
use Rattle.sqlite.specs.Command.TheVariants.{CreateTable, Insert, InsertOr, Update, Delete, Select}
use Rattle.sqlite_schema.specs.declared.command.Upsert.{Upsert}
use Rattle.sqlite_schema.specs.declared.command.Conflict.TheVariants.{Abort}
use Rattle.sqlite.specs.Source.TheVariants.{Values}
use Rattle.sqlite.specs.Term.{Term, lit, col, op2}
use Rattle.sqlite.specs.Query.{Query, inner, end}
use Rattle.sqlite.specs.declared.types.Value.TheVariants.{Null, Int, Text, Blob}
use Rattle.sqlite_sql.specs.declared.ops.BinaryOp.TheVariants.{Compare}
use Rattle.sqlite_sql.specs.declared.ops.CompareOp.TheVariants.{Eq}
use Rattle.sqlite.specs.Collation.TheVariants.{Binary}
use Rattle.sqlite_value.specs.declared.keys.Key.{Key}
use Rattle.sqlite.proofs.Callers.{IsPlain, command_of, statement_of}
use Rattle.lynx_sql.specs.declared.version.StoreVersion.{StoreVersion}
use Rattle.lynx_sql.specs.declared.version.StoreVersion.TheVariants.{One, Two}
use Rattle.lynx_sql.specs.Tables.{meta_text, entry_text, cell_text, acted_text, meta, entry, cell, acted, store_schema, no_schema, meta_schema, entry_schema}
use Rattle.lynx_sql.specs.Texts.{meta_insert_text, meta_update_text, acted_insert_text, titles_text, insert_text, put_text, delete_text, entries_text, cells_text, places_text}

pub meta_is : table_defined_by meta_text ≡ Ok meta
unfolding everything
meta_is = refl

pub entry_is : table_defined_by entry_text ≡ Ok (record entry { tree = 0 })
unfolding everything
entry_is = refl

pub cell_is : table_defined_by cell_text ≡ Ok (record cell { tree = 0 })
unfolding everything
cell_is = refl

pub acted_is : table_defined_by acted_text ≡ Ok (record acted { tree = 0 })
unfolding everything
acted_is = refl

pub meta_command : command_of (understood no_schema meta_text) ≡ CreateTable
unfolding understood everything
meta_command = refl

pub entry_command : command_of (understood meta_schema entry_text) ≡ CreateTable
unfolding understood everything
entry_command = refl

pub cell_command : command_of (understood entry_schema cell_text) ≡ CreateTable
unfolding understood everything
cell_command = refl

pub acted_command : command_of (understood (store_schema One) acted_text) ≡ CreateTable
unfolding understood everything
acted_command = refl

pub meta_created : created no_schema meta ≡ meta_schema
meta_created = refl

pub entry_created : created meta_schema (record entry { tree = 0 }) ≡ entry_schema
entry_created = refl

pub cell_created : created entry_schema (record cell { tree = 0 }) ≡ store_schema One
cell_created = refl

pub acted_created : created (store_schema One) (record acted { tree = 0 }) ≡ store_schema Two
acted_created = refl

abbrev pub insert_terms : List Term
insert_terms = col 0 0 ∷ lit Null ∷ col 0 1 ∷ []

pub insert_is : (version : StoreVersion) → command_of (understood (store_schema version) insert_text) ≡ Insert 1 (Values insert_terms 3)
unfolding understood everything
insert_is One = refl
insert_is Two = refl

pub insert_plain : (version : StoreVersion) → IsPlain (understood (store_schema version) insert_text)
unfolding understood everything
insert_plain One = (refl, refl)
insert_plain Two = (refl, refl)

pub meta_insert_is : (version : StoreVersion) → command_of (understood (store_schema version) meta_insert_text) ≡ Insert 0 (Values insert_terms 3)
unfolding understood everything
meta_insert_is One = refl
meta_insert_is Two = refl

pub meta_insert_plain : (version : StoreVersion) → IsPlain (understood (store_schema version) meta_insert_text)
unfolding understood everything
meta_insert_plain One = (refl, refl)
meta_insert_plain Two = (refl, refl)

abbrev pub query_over : ℕ → List Term → List Term → List (Term × Key) → Query
query_over tree filter project order = record {
  from = inner tree end;
  filter = filter;
  group = None;
  project = project;
  distinct = false;
  collations = [];
  order = order;
  limit = lit (Int (negsuc 0));
  offset = lit (Int (pos 0));
}

abbrev pub is_equal : Term → Term → Term
is_equal = op2 (Compare Eq Binary)

abbrev pub rising : Key
rising = record { collation = Binary; descending = false }

abbrev pub put_terms : List Term
put_terms = lit Null ∷ col 0 0 ∷ col 0 1 ∷ col 0 2 ∷ []

abbrev pub put_query : Query
put_query = query_over 2 (is_equal (col 1 0) (col 0 3) ∷ []) (col 1 0 ∷ col 1 0 ∷ col 1 1 ∷ col 1 2 ∷ col 0 7 ∷ []) []

abbrev pub put_clause : Upsert
put_clause = record { target = Some (1 ∷ 2 ∷ []); update = Some (record { lets = []; body = put_query }) }

pub put_is : (version : StoreVersion) → command_of (understood (store_schema version) put_text) ≡ InsertOr 2 Abort (Values put_terms 4) (put_clause ∷ [])
unfolding understood everything
put_is One = refl
put_is Two = refl

pub put_plain : (version : StoreVersion) → IsPlain (understood (store_schema version) put_text)
unfolding understood everything
put_plain One = (refl, refl)
put_plain Two = (refl, refl)

abbrev pub delete_query : Query
delete_query = query_over 2 (is_equal (col 1 1) (col 0 0) ∷ is_equal (col 1 2) (col 0 1) ∷ []) (col 1 0 ∷ []) []

pub delete_is : (version : StoreVersion) → command_of (understood (store_schema version) delete_text) ≡ Delete 2 (record { lets = []; body = delete_query })
unfolding understood everything
delete_is One = refl
delete_is Two = refl

pub delete_plain : (version : StoreVersion) → IsPlain (understood (store_schema version) delete_text)
unfolding understood everything
delete_plain One = (refl, refl)
delete_plain Two = (refl, refl)

abbrev pub entries_query : Query
entries_query = query_over 1 [] (col 1 0 ∷ col 1 2 ∷ []) ((col 1 0, rising) ∷ [])

pub entries_is : (version : StoreVersion) → (command_of (understood (store_schema version) entries_text) ≡ Select (record { lets = []; body = entries_query }) (codes "place" ∷ codes "body" ∷ [])) × (reads_listing (store_schema version) entries_text ≡ false)
unfolding understood everything
entries_is One = (refl, refl)
entries_is Two = (refl, refl)

pub entries_plain : (version : StoreVersion) → IsPlain (understood (store_schema version) entries_text)
unfolding understood everything
entries_plain One = (refl, refl)
entries_plain Two = (refl, refl)

abbrev pub titles_query : Query
titles_query = query_over 0 [] (col 1 0 ∷ col 1 2 ∷ []) ((col 1 0, rising) ∷ [])

pub titles_is : (version : StoreVersion) → (command_of (understood (store_schema version) titles_text) ≡ Select (record { lets = []; body = titles_query }) (codes "id" ∷ codes "txt" ∷ [])) × (reads_listing (store_schema version) titles_text ≡ false)
unfolding understood everything
titles_is One = (refl, refl)
titles_is Two = (refl, refl)

pub titles_plain : (version : StoreVersion) → IsPlain (understood (store_schema version) titles_text)
unfolding understood everything
titles_plain One = (refl, refl)
titles_plain Two = (refl, refl)

abbrev pub cells_query : Query
cells_query = query_over 2 [] (col 1 1 ∷ col 1 2 ∷ col 1 3 ∷ []) ((col 1 1, rising) ∷ (col 1 2, rising) ∷ [])

pub cells_is : (version : StoreVersion) → (command_of (understood (store_schema version) cells_text) ≡ Select (record { lets = []; body = cells_query }) (codes "tab" ∷ codes "k" ∷ codes "v" ∷ [])) × (reads_listing (store_schema version) cells_text ≡ false)
unfolding understood everything
cells_is One = (refl, refl)
cells_is Two = (refl, refl)

pub cells_plain : (version : StoreVersion) → IsPlain (understood (store_schema version) cells_text)
unfolding understood everything
cells_plain One = (refl, refl)
cells_plain Two = (refl, refl)

pub meta_statement : statement_of meta_text (understood no_schema meta_text) ≡ meta_text
unfolding understood everything
meta_statement = refl

pub entry_statement : statement_of entry_text (understood meta_schema entry_text) ≡ entry_text
unfolding understood everything
entry_statement = refl

pub cell_statement : statement_of cell_text (understood entry_schema cell_text) ≡ cell_text
unfolding understood everything
cell_statement = refl

pub meta_plain : IsPlain (understood no_schema meta_text)
unfolding understood everything
meta_plain = (refl, refl)

pub entry_plain : IsPlain (understood meta_schema entry_text)
unfolding understood everything
entry_plain = (refl, refl)

pub cell_plain : IsPlain (understood entry_schema cell_text)
unfolding understood everything
cell_plain = (refl, refl)

pub acted_statement : statement_of acted_text (understood (store_schema One) acted_text) ≡ acted_text
unfolding understood everything
acted_statement = refl

pub acted_plain : IsPlain (understood (store_schema One) acted_text)
unfolding understood everything
acted_plain = (refl, refl)

abbrev pub act_terms : List Term
act_terms = lit Null ∷ col 0 0 ∷ col 0 1 ∷ col 0 2 ∷ col 0 3 ∷ []

pub act_insert_is : command_of (understood (store_schema Two) acted_insert_text) ≡ Insert 3 (Values act_terms 5)
unfolding understood everything
act_insert_is = refl

pub act_insert_plain : IsPlain (understood (store_schema Two) acted_insert_text)
unfolding understood everything
act_insert_plain = (refl, refl)

abbrev pub places_query : Query
places_query = query_over 4 [] (col 1 1 ∷ col 1 2 ∷ col 1 3 ∷ col 1 4 ∷ []) ((col 1 4, rising) ∷ [])

pub places_is : (command_of (understood (store_schema Two) places_text) ≡ Select (record { lets = []; body = places_query }) (codes "origin" ∷ codes "idx" ∷ codes "hop" ∷ codes "place" ∷ [])) × (reads_listing (store_schema Two) places_text ≡ false)
unfolding understood everything
places_is = (refl, refl)

pub places_plain : IsPlain (understood (store_schema Two) places_text)
unfolding understood everything
places_plain = (refl, refl)

abbrev pub update_query : Query
update_query = query_over 0 (is_equal (col 1 0) (col 0 0) ∷ []) (col 1 0 ∷ col 1 0 ∷ lit Null ∷ col 0 1 ∷ []) []

pub update_is : (version : StoreVersion) → command_of (understood (store_schema version) meta_update_text) ≡ Update 0 (record { lets = []; body = update_query })
unfolding understood everything
update_is One = refl
update_is Two = refl

pub update_plain : (version : StoreVersion) → IsPlain (understood (store_schema version) meta_update_text)
unfolding understood everything
update_plain One = (refl, refl)
update_plain Two = (refl, refl)
