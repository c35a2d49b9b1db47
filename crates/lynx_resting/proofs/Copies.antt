-- Copies of cells: the writes of a database, from the empty one.
use Rattle.std.specs.Prelude.{◌≡◌, ℕ, ◌==◌, ◌≢◌, true, false, cond, Option, Some, None, refl}
use Rattle.std.proofs.Common.{ap, ◌∙◌}
use Rattle.std.proofs.lemmas.Bool.{eqb-true}
use Rattle.std.specs.FinMap as map
use Rattle.lynx_cells.specs.Database.{Database, IsZeroFree, applied, cell_cmp, empty_database, written}
use Rattle.lynx_cells.specs.Triples.{entries_of, triples_of}
use Rattle.lynx_cells.proofs.Maps.{entries_of-triples_of}
use Rattle.lynx_cells.proofs.Writes.{get-applied, get-nonzero, same_database, updated}

still_there : (found : Option ℕ) → found ≢ Some 0 → updated found None ≡ found
still_there None differs = refl
still_there (Some value) differs =
    elim (value == 0) as (λ b. (value == 0) ≡ b → cond b None (Some value) ≡ Some value) [
      | true ↦ λ zero. absurd (differs (ap Some (eqb-true value 0 zero)))
      | false ↦ λ _. refl
    ] refl

-- A database is what its own cells, written to the empty one, come to.
pub written_anew : (db : Database) → IsZeroFree db → written (entries_of (triples_of (map.entries db))) empty_database ≡ db
written_anew db free =
    ap (λ es. written es empty_database) (entries_of-triples_of (map.entries db))
    ∙ same_database (applied db empty_database) db (λ cell.
    get-applied db empty_database cell ∙ ap (updated (map.get db cell)) (map.get-empty cell_cmp cell)
    ∙ still_there (map.get db cell) (get-nonzero db free cell))
