-- What a server is when it is opened over what was kept.
use Rattle.std.specs.Prelude.{◌≡◌, ◌≤◌, ◌⊎◌, ℕ, false, [], length, Result, Ok, Err}
use Rattle.lynx_set.specs.Set.{Set}
use Rattle.lynx_keep.specs.Kept.{KeptState, HasRisen, Terms}
use Rattle.lynx_keep.specs.declared.fault.KeepFault.{KeepFault}
use Rattle.lynx_keep.specs.declared.fault.KeepFault.TheVariants as keep
use Rattle.lynx_rules.specs.Tables.{tables_of}
use Rattle.lynx_server.specs.declared.fault.OpenFault.{OpenFault}
use Rattle.lynx_server.specs.declared.fault.OpenFault.TheVariants.{Damaged, Store, Memory}
use Rattle.lynx_server.specs.History.{IsFirstUnlawful, IsLawfulHistory}
use Rattle.lynx_server.specs.Keeping.{kept_of}
use Rattle.lynx_server.specs.Serving.{Serving}

-- all entries are lawful, and the cells aren't those that they leave
pub record HasOtherCells (set : Set) (server : ℕ) (kept : KeptState) (place : ℕ) : Type 0 where
  pub lawful : IsLawfulHistory set server kept.entries
  pub place_is : place ≡ length kept.entries
  pub cells_differ : kept.cells ≡ tables_of set kept.entries → ⊥

-- No server of the set can have kept this: an entry at the place, or, behind them all, the cells.
abbrev pub IsDamaged : Set → ℕ → KeptState → ℕ → Type 0
IsDamaged set server kept place =
    IsFirstUnlawful set server kept.entries place ⊎ HasOtherCells set server kept place

-- Reading what is kept changes nothing: a stop leaves what was kept.
pub record IsRead {K : Type 0} (terms : Terms K) (old new : K) : Type 0 where
  pub sound_before : terms.sound new → terms.sound old
  pub stop : terms.sound new → (kept : KeptState) → terms.keeps old kept
      → terms.leaves new kept kept
  pub counts : terms.counted old ≤ terms.counted new

-- this was read: it is kept, and all that was kept
pub record Finds {K : Type 0} (terms : Terms K) (old new : K) (found : KeptState) : Type 0 where
  pub read : IsRead terms old new
  pub kept : terms.sound new → terms.keeps new found
  pub all : terms.sound new → (kept : KeptState) → terms.keeps old kept → kept ≡ found

-- what was found is damaged
pub record FindsDamage {K : Type 0} (terms : Terms K) (set : Set) (server : ℕ) (old new : K)
    (place : ℕ) : Type 0 where
  pub found : KeptState
  pub finds : Finds terms old new found
  pub damaged : IsDamaged set server found place

-- the store failed
pub record FindsFault {K : Type 0} (terms : Terms K) (old new : K) : Type 0 where
  pub read : IsRead terms old new
  pub rose : HasRisen (terms.counted old) (terms.counted new)

-- memory was wanting, and what was kept is kept on
pub record FindsNoRoom {K : Type 0} (terms : Terms K) (old new : K) : Type 0 where
  pub read : IsRead terms old new
  pub keeps_on : terms.sound new → (kept : KeptState) → terms.keeps old kept → terms.keeps new kept

-- why a server isn't opened, and what is left of its keeper
abbrev pub IsUnopened : {K : Type 0} → Terms K → Set → ℕ → K → K → OpenFault → Type 0
IsUnopened terms set server old new (Damaged place) = FindsDamage terms set server old new place
IsUnopened terms set server old new Store = FindsFault terms old new
IsUnopened terms set server old new Memory = FindsNoRoom terms old new

-- the history is what the keeper kept, which is lawful and has its tables; nothing is held
pub record IsOpened {K : Type 0} (terms : Terms K) (set : Set) (server : ℕ) (keeper : K)
    (opened : Serving K) : Type 0 where
  pub finds : Finds terms keeper opened.keeper (kept_of set opened.history)
  pub set_is : opened.set ≡ set
  pub server_is : opened.server ≡ server
  pub held_is : opened.held ≡ []
  pub acknowledged_is : opened.acknowledged ≡ []
  pub runs : opened.is_stopped ≡ false
  pub opened_is : opened.opened ≡ terms.counted opened.keeper
  pub lawful : IsLawfulHistory set server opened.history

-- An opening: what is kept is a server's; or not, and then this is left of the keeper.
abbrev pub Opens : {K : Type 0} → Terms K → Set → ℕ → K → Result (Serving K) OpenFault → Type 0
Opens terms set server keeper (Ok opened) = IsOpened terms set server keeper opened
Opens {K} terms set server keeper (Err fault) =
    (left : K) × IsUnopened terms set server keeper left fault

-- a keeper's fault, as that of an opening
abbrev pub open_fault : KeepFault → OpenFault
open_fault keep.Memory = Memory
open_fault keep.Failed = Store
