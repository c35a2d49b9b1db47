-- A world to which cells were carried.
use Rattle.std.specs.Prelude.{◌≡◌, List, [], map}
use Rattle.std.specs.List.Sorted.{IsPermutation}
use Rattle.lynx_report.specs.Owed.{AreTheOwed}
use Rattle.lynx_set.specs.Set.{Set}
use Rattle.lynx_world.specs.Legal.{IsLegal}
use Rattle.lynx_world.specs.Tables.{cells_of}
use Rattle.lynx_world.specs.Worlds.{WorldState}
use Rattle.lynx_carry.specs.Naming.{by_name}
use Rattle.lynx_carry.specs.declared.naming.NamedCell.{NamedCell}

-- A world of the set, all that its servers did is legal, no hop is owed, and its nonzero cells are
-- by name these cells.
pub record IsCarriedWorld (set : Set) (cells : List NamedCell) (world : WorldState) : Type 0 where
  pub set_is : world.set ≡ set
  pub legal : IsLegal set world.list
  pub none_owed : AreTheOwed set world.list []
  pub cells_are : IsPermutation (map (by_name set) (cells_of world)) cells
