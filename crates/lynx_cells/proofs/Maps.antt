-- Maps from cells, made of lists of entries.
use Rattle.std.specs.Prelude.{◌≡◌, ℕ, T, cond, List, [], ◌∷◌, Some, refl}
use Rattle.std.proofs.Common.{sym, ap, ◌∙◌}
use Rattle.std.specs.Ordering.{eq_by_cmp}
use Rattle.std.specs.FinMap as map
use Rattle.std.specs.FinMap.Entries.{find-put}
use Rattle.lynx_cells.specs.Database.{cell_cmp, ChangeSet}
use Rattle.lynx_cells.proofs.CellOrder.{cell_cmp_total, cell_cmp_exact}
use Rattle.lynx_cells.specs.Triples.{entries_of, triples_of}

-- maps with the same look-ups are equal
pub same_changes : (a b : ChangeSet) → ((cell : ℕ × ℕ) → map.get a cell ≡ map.get b cell) → a ≡ b
same_changes = map.same_map cell_cmp_total cell_cmp_exact

-- an entry put into the list is inserted into its map
pub from_entries-put : (es : List ((ℕ × ℕ) × ℕ)) (cell : ℕ × ℕ) (value : ℕ) → ◌≡◌ {A = ChangeSet} (map.from_entries (map.put cell_cmp cell value es)) (map.insert (map.from_entries es) cell value)
from_entries-put es cell value = same_changes _ _ (λ q.
    map.get-from_entries cell_cmp_total (map.put cell_cmp cell value es) q
    ∙ find-put cell_cmp cell_cmp_total q cell value es
    ∙ sym (map.get-insert cell_cmp_total (map.from_entries es) cell value q ∙ ap (cond (eq_by_cmp cell_cmp q cell) (Some value)) (map.get-from_entries cell_cmp_total es q)))

-- the map of entries in order has these entries
pub entries-from_entries : (es : List ((ℕ × ℕ) × ℕ)) → T (map.is_sorted cell_cmp es) → map.entries (map.from_entries {R = cell_cmp} es) ≡ es
entries-from_entries es sorted =
    ap map.entries (same_changes (map.from_entries es) (map.from_sorted es) (λ q. map.get-from_entries cell_cmp_total es q ∙ sym (map.get-from_sorted cell_cmp es q sorted)))
    ∙ map.entries-from_sorted cell_cmp es sorted

-- triples come back from their entries
pub triples_of-entries_of : (triples : List (ℕ × ℕ × ℕ)) → triples_of (entries_of triples) ≡ triples
triples_of-entries_of [] = refl
triples_of-entries_of (t ∷ ts) = ap (λ rest. t ∷ rest) (triples_of-entries_of ts)

pub entries_of-triples_of : (es : List ((ℕ × ℕ) × ℕ)) → entries_of (triples_of es) ≡ es
entries_of-triples_of [] = refl
entries_of-triples_of (e ∷ es) = ap (λ rest. e ∷ rest) (entries_of-triples_of es)
