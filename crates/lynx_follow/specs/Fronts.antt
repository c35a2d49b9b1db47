-- Fronts of what a server did.
use Rattle.std.specs.Prelude.{◌≡◌, ◌++◌}
use Rattle.lynx_entry.specs.Entry.{History}

-- the history begins with these entries
pub record IsFront (front history : History) : Type 0 where
  pub rest : History
  pub is : history ≡ front ++ rest
