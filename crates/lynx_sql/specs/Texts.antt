-- The statements of a store.
use Rattle.std.specs.Prelude.{codes, List, ℕ}

abbrev pub meta_insert_text : List ℕ
meta_insert_text = codes "INSERT INTO meta VALUES(?1, ?2)"

abbrev pub meta_update_text : List ℕ
meta_update_text = codes "UPDATE meta SET txt = ?2 WHERE id = ?1"

abbrev pub insert_text : List ℕ
insert_text = codes "INSERT INTO entry VALUES(?1, ?2)"

abbrev pub put_text : List ℕ
put_text = codes
    "INSERT INTO cell VALUES(?1, ?2, ?3) ON CONFLICT(tab, k) DO UPDATE SET v = excluded.v"

abbrev pub delete_text : List ℕ
delete_text = codes "DELETE FROM cell WHERE tab = ?1 AND k = ?2"

abbrev pub acted_insert_text : List ℕ
acted_insert_text = codes "INSERT INTO acted VALUES(?1, ?2, ?3, ?4)"

abbrev pub titles_text : List ℕ
titles_text = codes "SELECT id, txt FROM meta ORDER BY id"

abbrev pub entries_text : List ℕ
entries_text = codes "SELECT place, body FROM entry ORDER BY place"

abbrev pub cells_text : List ℕ
cells_text = codes "SELECT tab, k, v FROM cell ORDER BY tab, k"

abbrev pub places_text : List ℕ
places_text = codes "SELECT origin, idx, hop, place FROM acted ORDER BY place"
