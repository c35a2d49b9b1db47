-- When books were closed, and new ones opened with their cells.
use Rattle.std.specs.Prelude.{◌≡◌, ℕ, Bool, not, List, [], bytes_eq, filter, filter_map}
use Rattle.std.specs.List.{list_any}
use Rattle.std.specs.List.Sorted.{IsPermutation}
use Rattle.lynx_set.specs.Set.{Set}
use Rattle.lynx_keep.specs.Kept.{Terms}
use Rattle.lynx_world.specs.Tables.{cells_of}
use Rattle.lynx_world.specs.Worlds.{WorldState}
use Rattle.lynx_report.specs.Owed.{AreTheOwed}
use Rattle.lynx_audit.specs.Audits.{IsKeptWorld}
use Rattle.lynx_store_files.specs.Terms.{StoreTerms}
use Rattle.lynx_restore.specs.Restored.{AreStored}
use Rattle.lynx_carry.specs.Carried.{IsCarriedWorld}
use Rattle.lynx_carry.specs.Histories.{histories_of}
use Rattle.lynx_carry.specs.Naming.{named_cell}
use Rattle.lynx_carry.specs.declared.naming.NamedCell.{NamedCell}

-- the table of a cell isn't one of those that are left behind
abbrev pub is_kept : List (List ℕ) → NamedCell → Bool
is_kept dropped cell = not (list_any (bytes_eq cell.table) dropped)

-- the cells of a world by name, but those of the tables that are left behind
pub record AreCellsOf (world : WorldState) (dropped : List (List ℕ)) (cells : List NamedCell)
    : Type 0 where
  pub listed : List (ℕ × ℕ × ℕ)
  pub all : IsPermutation (cells_of world) listed
  pub cells_are : cells ≡ filter (is_kept dropped) (filter_map (named_cell world.set) listed)

-- the cells that go on: all of the one world of what the keepers keep, in which nothing is owed,
-- but those of the tables that are left behind
pub record AreToCarry {K : Type 0} (terms : Terms K) (from : Set) (keepers : List K)
    (dropped : List (List ℕ)) (cells : List NamedCell) : Type 0 where
  pub old : WorldState
  pub kept : IsKeptWorld terms from keepers old
  pub settled : AreTheOwed old.set old.list []
  pub of_old : AreCellsOf old dropped cells

-- The books are carried over: new stores of the set in the folder have the histories of a world in
-- which nothing is owed, and whose cells are by name those that go on.
pub record HasCarried {K L : Type 0} (terms : Terms K) (new_terms : Terms L)
    (stores : StoreTerms L) (from : Set) (keepers : List K) (dropped : List (List ℕ)) (set : Set)
    (folder : List ℕ) : Type 0 where
  pub cells : List NamedCell
  pub to_carry : AreToCarry terms from keepers dropped cells
  pub world : WorldState
  pub carried : IsCarriedWorld set cells world
  pub stored : AreStored new_terms stores folder set (histories_of world)
