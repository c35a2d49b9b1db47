-- The stores of the kit rise.
use Rattle.std.proofs.Common.{◌≡◌, ℕ, zero, suc, true, false, ◌==◌, List, [], ◌∷◌, map, IsTrue, refl, if◌then◌else◌}
use Rattle.std.proofs.Math.Logic.{∥∥₁_elim}
use Rattle.sqlite_trees.specs.Tree.{Trees}
use Rattle.sqlite_trees.specs.View.{View, IsShaped, IsOrdered}
use Rattle.sqlite_trees.specs.Objects.{catalog_tree, version_tree, version_rows, IsListed}
use Rattle.sqlite_trees.specs.Props.{IsShaped-prop, IsOrdered-prop}
use Rattle.sqlite_trees.specs.Listing.{objects_are_ordered, objects_are_listed}
use Rattle.sqlite_trees.specs.declared.store.Shape.TheVariants.{Table}
use Rattle.sqlite_trees.specs.declared.memory.tree.Tree.{Tree}
use Rattle.sqlite_trees.specs.declared.memory.MemStore.{MemStore}
use Rattle.sqlite_trees.specs.Memory.{memory_view, forest, shapes, rows_of, shape_of, objects_of, heading}
use Rattle.sqlite_disk.specs.declared.Disk.{Ghosts}
use Rattle.sqlite_wal.proofs.StateLemmas.{clean_of}
use Rattle.sqlite_store.specs.declared.store.FileStore.{FileStore}
use Rattle.sqlite_store.specs.FileStore.{state, view, schema_of}
use Rattle.sqlite_store.specs.Saved.{kept_schema}
use Rattle.sqlite_store.specs.Listing.{file_trees, all_shapes, all_reals}
use Rattle.sqlite_store.specs.Listed.{catalog_rows, is_listed}
use Rattle.sqlite_store.proofs.ListingLemmas.{all_ordered}
use Rattle.lynx_sql.specs.Rising.{IsRising}

each_shaped : (trees : List Tree) → IsOrdered (shape_of trees) (rows_of trees)
each_shaped [] t = refl
each_shaped (x ∷ trees) zero = ∥∥₁_elim x.ordered (IsShaped-prop x.shape x.rows.items) (λ h. h)
each_shaped (x ∷ trees) (suc t) = each_shaped trees t

memory_ordered : (trees : List Tree) (version : ℕ) (t : ℕ)
    → IsShaped (if t == version_tree then Table else shapes trees t)
    (if t == version_tree then version_rows version else forest trees t)
memory_ordered trees version t =
    let below : IsShaped (shapes trees t) (forest trees t) =
    elim (t == catalog_tree) as
    (λ b. IsShaped (if b then Table else shape_of trees t)
    (if b then objects_of trees else rows_of trees t))
    [ true ↦ objects_are_ordered (map heading trees) 0 | false ↦ each_shaped trees t ] in
    elim (t == version_tree) as
    (λ b. IsShaped (if b then Table else shapes trees t)
    (if b then version_rows version else forest trees t))
    [ true ↦ ((tt, tt), (refl, tt)) | false ↦ below ]

-- a store in memory
pub memory_rises : (s : MemStore) → IsRising (memory_view s)
memory_rises s = record {
  listed = objects_are_listed (map heading s.base.items);
  ordered = memory_ordered s.base.items s.base_version;
}

-- a store in files
pub file_rises : {D : Type 0} {g : Ghosts D} (it : FileStore D g) → IsTrue (view it).is_open
    → IsRising (view it)
file_rises it is_open = record {
  listed = rw (
    clean_of (state it) is_open,
    catalog_rows (state it).page_size
        (kept_schema it.saved (schema_of it)) _,
  )
      (is_listed (kept_schema it.saved (schema_of it)));
  ordered = rw (clean_of (state it) is_open)
      (∥∥₁_elim (it.stored is_open) (IsOrdered-prop _ _)
      (λ stored. all_ordered stored.ours.file.db _));
}
