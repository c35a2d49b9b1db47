-- What a server is that is made of a history anew.
use Rattle.std.specs.Prelude.{◌≡◌, ℕ, false, [], Result, Ok, Err}
use Rattle.lynx_set.specs.Set.{Set}
use Rattle.lynx_entry.specs.Entry.{History}
use Rattle.lynx_keep.specs.Kept.{KeptState}
use Rattle.lynx_server.specs.declared.fault.OpenFault.{OpenFault}
use Rattle.lynx_server.specs.declared.fault.OpenFault.TheVariants.{Damaged, Store, Memory}
use Rattle.lynx_server.specs.History.{IsFirstUnlawful, IsLawfulHistory}
use Rattle.lynx_server.specs.Serving.{Serving}

-- it has this very history, which is lawful, and it holds nothing
pub record IsRebuilt (set : Set) (server : ℕ) (history : History)
    (rebuilt : Serving KeptState) : Type 0 where
  pub set_is : rebuilt.set ≡ set
  pub server_is : rebuilt.server ≡ server
  pub history_is : rebuilt.history ≡ history
  pub held_is : rebuilt.held ≡ []
  pub acknowledged_is : rebuilt.acknowledged ≡ []
  pub runs : rebuilt.is_stopped ≡ false
  pub lawful : IsLawfulHistory set server history

-- A server made of a history, or the place of the first entry that isn't lawful after those before
-- it.
abbrev pub Rebuilds : Set → ℕ → History → Result (Serving KeptState) OpenFault → Type 0
Rebuilds set server history (Ok rebuilt) = IsRebuilt set server history rebuilt
Rebuilds set server history (Err (Damaged place)) = IsFirstUnlawful set server history place
Rebuilds set server history (Err Store) = ⊥
Rebuilds set server history (Err Memory) = Unit {0}
