-- The tables of a store, and their rows.
use Rattle.std.specs.Prelude.{◌≡◌, Option, true, false, [], ◌∷◌, Some, None, codes, ◌++◌, List, ℕ}
use Rattle.std.specs.Fmt.{decimal}
use Rattle.sqlite.specs.Collation.TheVariants.{Binary}
use Rattle.sqlite_value.specs.Keys.{plain}
use Rattle.sqlite.specs.declared.types.Value.TheVariants.{Null, Int, Blob as Bytes}
use Rattle.sqlite_value.specs.declared.keys.Order.{Order}
use Rattle.sqlite.specs.Table.{Table}
use Rattle.sqlite_schema.specs.declared.schema.Column.{Column}
use Rattle.sqlite_schema.specs.declared.schema.Index.{Index}
use Rattle.sqlite.specs.Schema.{Schema}
use Rattle.sqlite.specs.Kind.{Kind}
use Rattle.sqlite.specs.Kind.TheVariants.{Integer, Text, Blob}
use Rattle.lynx_sql.specs.declared.version.StoreVersion.{StoreVersion}
use Rattle.lynx_sql.specs.declared.version.StoreVersion.TheVariants.{One, Two}

-- the trees of the tables, by the numbers under which they are made
abbrev pub meta_tree : ℕ
meta_tree = 0

abbrev pub entry_tree : ℕ
entry_tree = 1

abbrev pub cell_tree : ℕ
cell_tree = 2

abbrev pub acted_tree : ℕ
acted_tree = 4

abbrev pub meta_text : List ℕ
meta_text = codes "CREATE TABLE meta(id INTEGER PRIMARY KEY, txt TEXT NOT NULL) STRICT"

abbrev pub entry_text : List ℕ
entry_text = codes "CREATE TABLE entry(place INTEGER PRIMARY KEY, body BLOB NOT NULL) STRICT"

abbrev pub cell_text : List ℕ
cell_text = codes
    "CREATE TABLE cell(tab INTEGER NOT NULL, k BLOB NOT NULL, v BLOB NOT NULL, PRIMARY KEY(tab, k)) STRICT"

abbrev pub acted_text : List ℕ
acted_text =
    codes
    "CREATE TABLE acted(origin INTEGER NOT NULL, idx BLOB NOT NULL, hop INTEGER NOT NULL, place INTEGER NOT NULL UNIQUE, PRIMARY KEY(origin, idx, hop)) STRICT"

abbrev pub key_column : List ℕ → Column
key_column name =
    record {
      name = name;
      kind = Integer;
      is_strict = true;
      not_null = false;
      default = Null;
      collation = Binary;
    }

abbrev pub column_of : List ℕ → Kind → Column
column_of name kind =
    record {
      name = name;
      kind = kind;
      is_strict = true;
      not_null = true;
      default = Null;
      collation = Binary;
    }

-- a table of rows under a number, with one more column
abbrev pub numbered_table : ℕ → List ℕ → List ℕ → List ℕ → Kind → Table
numbered_table tree name key other kind = record {
  name = name;
  tree = tree;
  columns = key_column key ∷ column_of other kind ∷ [];
  key = Some 0;
  primary = 0 ∷ [];
  uniques = [];
  orders = [];
  checks = [];
  references = [];
  computed = [];
  stamps = record { places = []; terms = []; formats = [] };
  is_counted = false;
}

abbrev pub meta : Table
meta = numbered_table 0 (codes "meta") (codes "id") (codes "txt") Text

abbrev pub entry : Table
entry = numbered_table 1 (codes "entry") (codes "place") (codes "body") Blob

abbrev pub cell : Table
cell = record {
  name = codes "cell";
  tree = 2;
  columns = column_of (codes "tab") Integer ∷ column_of (codes "k") Blob
      ∷ column_of (codes "v") Blob ∷ [];
  key = None;
  primary = 1 ∷ 2 ∷ [];
  uniques = (1 ∷ 2 ∷ []) ∷ [];
  orders = plain ∷ [];
  checks = [];
  references = [];
  computed = [];
  stamps = record { places = []; terms = []; formats = [] };
  is_counted = false;
}

-- the index that comes with the primary key
abbrev pub cell_index : Index
cell_index =
    record {
      name = codes "sqlite_autoindex_" ++ (codes "cell" ++ (codes "_" ++ decimal 1));
      tree = 3;
      table = 2;
      columns = 1 ∷ 2 ∷ [];
      order = plain;
      is_unique = true;
    }

-- the fourth table, which a store of version 2 has
abbrev pub acted : Table
acted = record {
  name = codes "acted";
  tree = 4;
  columns = column_of (codes "origin") Integer ∷ column_of (codes "idx") Blob
      ∷ column_of (codes "hop") Integer ∷ column_of (codes "place") Integer ∷ [];
  key = None;
  primary = 1 ∷ 2 ∷ 3 ∷ [];
  uniques = (4 ∷ []) ∷ (1 ∷ 2 ∷ 3 ∷ []) ∷ [];
  orders = plain ∷ plain ∷ [];
  checks = [];
  references = [];
  computed = [];
  stamps = record { places = []; terms = []; formats = [] };
  is_counted = false;
}

-- its index of places, and that of its primary key
abbrev pub place_index : Index
place_index =
    record {
      name = codes "sqlite_autoindex_" ++ (codes "acted" ++ (codes "_" ++ decimal 1));
      tree = 5;
      table = 4;
      columns = 4 ∷ [];
      order = plain;
      is_unique = true;
    }

abbrev pub hop_index : Index
hop_index = record {
  name = codes "sqlite_autoindex_"
      ++ (codes "acted" ++ (codes "_" ++ decimal 2));
  tree = 6;
  table = 4;
  columns = 1 ∷ 2 ∷ 3 ∷ [];
  order = plain;
  is_unique = true;
}

-- what a version has beside the three tables
abbrev pub more_tables : StoreVersion → List Table
more_tables One = []
more_tables Two = acted ∷ []

abbrev pub more_indexes : StoreVersion → List Index
more_indexes One = []
more_indexes Two = place_index ∷ hop_index ∷ []

abbrev pub store_schema : StoreVersion → Schema
store_schema version =
    record {
      tables = meta ∷ entry ∷ cell ∷ more_tables version;
      indexes = cell_index ∷ more_indexes version;
      views = [];
    }

-- the schema is that of a store, of one version or the other
pub record IsStoreSchema (schema : Schema) : Type 0 where
  pub version : StoreVersion
  pub is : schema ≡ store_schema version

-- the schemas on the way to it
abbrev pub no_schema : Schema
no_schema = record { tables = []; indexes = []; views = [] }

abbrev pub meta_schema : Schema
meta_schema = record { tables = meta ∷ []; indexes = []; views = [] }

abbrev pub entry_schema : Schema
entry_schema = record { tables = meta ∷ entry ∷ []; indexes = []; views = [] }

-- no rule but those of its columns and its keys
pub record IsPlainTable (table : Table) : Type 0 where
  pub checks : table.checks ≡ []
  pub references : table.references ≡ []
  pub computed : table.computed ≡ []
  pub stamps : table.stamps ≡ record { places = []; terms = []; formats = [] }
  pub is_counted : table.is_counted ≡ false

pub record IsNamed (table : Table) (tree : ℕ) (name : List ℕ) : Type 0 where
  pub tree_is : table.tree ≡ tree
  pub name_is : table.name ≡ name

-- the keys of a table, and the orders of their indexes
pub record IsKeyed (table : Table) (key : Option ℕ) (primary : List ℕ) (uniques : List (List ℕ))
    (orders : List Order) : Type 0 where
  pub key_is : table.key ≡ key
  pub primary_is : table.primary ≡ primary
  pub uniques_are : table.uniques ≡ uniques
  pub orders_are : table.orders ≡ orders
