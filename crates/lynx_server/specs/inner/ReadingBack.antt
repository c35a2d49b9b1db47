-- What is read of a keeper, and done again.
use Rattle.std.specs.Prelude.{ℕ, Result, Ok, Err}
use Rattle.lynx_set.specs.Set.{Set}
use Rattle.lynx_keep.specs.Kept.{Terms}
use Rattle.lynx_server.specs.declared.fault.OpenFault.{OpenFault}
use Rattle.lynx_server.specs.Keeping.{kept_of}
use Rattle.lynx_server.specs.inner.Repeating.{IsReplayed}
use Rattle.lynx_server.specs.declared.replay.Unkept.{Unkept}
use Rattle.lynx_server.specs.Serving.{Serving}
use Rattle.lynx_server.specs.Opening.{Finds, IsUnopened}

-- a server did what was read, which has its tables
pub record IsReadBack {K : Type 0} (terms : Terms K) (set : Set) (server : ℕ) (old new : K)
    (replayed : Serving Unkept) : Type 0 where
  pub finds : Finds terms old new (kept_of set replayed.history)
  pub replayed_is : IsReplayed set server replayed.history replayed

-- What a keeper keeps is done again by a server over no store; or not.
abbrev pub ReadsBack : {K : Type 0} → Terms K → Set → ℕ → K → K → Result (Serving Unkept) OpenFault
    → Type 0
ReadsBack terms set server old new (Ok replayed) = IsReadBack terms set server old new replayed
ReadsBack terms set server old new (Err fault) = IsUnopened terms set server old new fault
