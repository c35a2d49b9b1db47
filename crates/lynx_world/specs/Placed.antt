-- An entry, and the server that added it.
use Rattle.std.specs.Prelude.{ℕ}
use Rattle.lynx_entry.specs.declared.entry.Entry.{Entry}

pub record Placed : Type 0 where
  pub server : ℕ
  pub entry : Entry
