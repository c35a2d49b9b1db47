-- What is read of a keeper that is to follow.
use Rattle.std.specs.Prelude.{◌≡◌, Result, Ok, Err}
use Rattle.lynx_set.specs.Set.{Set}
use Rattle.lynx_keep.specs.Kept.{Terms}
use Rattle.lynx_rules.specs.Tables.{tables_of}
use Rattle.lynx_server.specs.declared.fault.OpenFault.{OpenFault}
use Rattle.lynx_server.specs.Keeping.{kept_of}
use Rattle.lynx_server.specs.Opening.{Finds}
use Rattle.lynx_follow.specs.declared.following.ReadBack.{ReadBack}
use Rattle.lynx_follow.specs.Following.{IsUnopened}

-- what is kept was found, with its cells
pub record IsReadBack {K : Type 0} (terms : Terms K) (set : Set) (old new : K) (read : ReadBack)
    : Type 0 where
  pub finds : Finds terms old new (kept_of set read.entries.items)
  pub cells_are : read.cells.database ≡ tables_of set read.entries.items

-- What a keeper keeps is read; or not.
abbrev pub ReadsBack : {K : Type 0} → Terms K → Set → K → K → Result ReadBack OpenFault → Type 0
ReadsBack terms set old new (Ok read) = IsReadBack terms set old new read
ReadsBack terms set old new (Err fault) = IsUnopened terms set old new fault
