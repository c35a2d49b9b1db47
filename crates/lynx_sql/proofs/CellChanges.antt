-- Changes of cells, one after another.
use Rattle.std.proofs.Common.{◌≡◌, ℕ, ◌+◌, ◌<◌, true, List, [], ◌∷◌, ◌++◌, length, map, take, get_or, IsTrue, refl, sym, ap, subst, ◌∙◌}
use Rattle.std.proofs.lemmas.List.{take_more}
use Rattle.sqlite.specs.State.{State, Shows}
use Rattle.lynx_cells.specs.Database.{Database, ChangeSet, applied, written, with_value}
use Rattle.lynx_cells.specs.Triples.{entries_of, entry_of, triples_of}
use Rattle.std.specs.FinMap as finite
use Rattle.lynx_sql.specs.Steps.{WritesCells, GoesOn}
use Rattle.lynx_sql.proofs.MetaLemmas.{goes_on_then}
use Rattle.lynx_sql.specs.Cells.{HoldsCells}
use Rattle.lynx_sql.specs.Tables.{cell_tree}

pub changes_none : (s : State) → IsTrue s.is_open → IsTrue s.in_transaction → WritesCells s s (λ db. db)
changes_none s up inside = record {
  on = record { shown = record { was_open = up; is_open = up; now_is = refl; committed_is = refl; mode = inside }; schema = refl; catalog = refl };
  meta = refl;
  entries = refl;
  cells = λ db h. h;
  acted = refl;
}

pub changes_then : (a b c : State) (f g : Database → Database) → WritesCells a b f → WritesCells b c g → WritesCells a c (λ db. g (f db))
changes_then a b c f g p q = record {
  on = goes_on_then a b c p.on q.on;
  meta = q.meta ∙ p.meta;
  entries = q.entries ∙ p.entries;
  cells = λ db h. q.cells (f db) (p.cells db h);
  acted = q.acted ∙ p.acted;
}

pub changes_same : (a b : State) (f g : Database → Database) → ((db : Database) → f db ≡ g db) → WritesCells a b f → WritesCells a b g
changes_same a b f g same p = record { on = p.on; meta = p.meta; entries = p.entries; cells = λ db h. subst (HoldsCells (b.now.trees cell_tree)) (same db) (p.cells db h); acted = p.acted }

written-append : (es fs : List ((ℕ × ℕ) × ℕ)) (db : Database) → written (es ++ fs) db ≡ written fs (written es db)
written-append [] fs db = refl
written-append (e ∷ es) fs db = written-append es fs (with_value db e.0.0 e.0.1 e.1)

entries_of-append : (xs ys : List (ℕ × ℕ × ℕ)) → entries_of (xs ++ ys) ≡ entries_of xs ++ entries_of ys
entries_of-append [] ys = refl
entries_of-append (x ∷ xs) ys = ap (λ es. entry_of x ∷ es) (entries_of-append xs ys)

pub written_more : (xs : List (ℕ × ℕ × ℕ)) (i : ℕ) (d : ℕ × ℕ × ℕ) → i < length xs → (db : Database)
    → with_value (written (entries_of (take i xs)) db) (get_or xs i d).0 (get_or xs i d).1 (get_or xs i d).2 ≡ written (entries_of (take (i + 1) xs)) db
written_more xs i d low db =
    sym (ap (λ ys. written (entries_of ys) db) (take_more xs i d low) ∙ ap (λ es. written es db) (entries_of-append (take i xs) _) ∙ written-append (entries_of (take i xs)) _ db)

pub written_next : (xs : List (ℕ × ℕ × ℕ)) (i t : ℕ) (item : ℕ × ℕ × ℕ) → i < length xs → item ≡ get_or xs i item → t ≡ item.0 → (db : Database)
    → with_value (written (entries_of (take i xs)) db) t item.1 item.2 ≡ written (entries_of (take (i + 1) xs)) db
written_next xs i t item low is at db = rw at (ap (λ (x : ℕ × ℕ × ℕ). with_value (written (entries_of (take i xs)) db) x.0 x.1 x.2) is ∙ written_more xs i item low db)

back_and_forth : (es : List ((ℕ × ℕ) × ℕ)) → entries_of (triples_of es) ≡ es
back_and_forth [] = refl
back_and_forth (e ∷ es) = ap (λ all. e ∷ all) (back_and_forth es)

pub changes_applied : (a b : State) (xs : List (ℕ × ℕ × ℕ)) (changes : ChangeSet) → xs ≡ triples_of (finite.entries changes) → WritesCells a b (written (entries_of xs)) → WritesCells a b (applied changes)
changes_applied a b xs changes is h = changes_same a b _ _ (λ db. ap (λ ys. written (entries_of ys) db) is ∙ ap (λ es. written es db) (back_and_forth (finite.entries changes))) h
