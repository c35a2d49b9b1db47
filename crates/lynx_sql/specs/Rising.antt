-- Stores whose rows rise.
use Rattle.sqlite_trees.specs.Objects.{catalog_tree, IsListed}
use Rattle.sqlite_trees.specs.View.{View, IsOrdered}

-- what the last commit left is listed, and each table's rows are in order
pub record IsRising (v : View) : Type 0 where
  pub listed : IsListed (v.committed catalog_tree) v.committed_shape v.committed_reals
  pub ordered : IsOrdered v.committed_shape v.committed
