-- What a session was told.
use Rattle.std.specs.Prelude.{ℕ, List, []}
use Rattle.lynx_weave.specs.declared.told.ToldItem.{ToldItem}
pub use Rattle.lynx_weave.specs.Told.{is_noted, told_by}

-- A session: its number, and all that it was told, in order.
pub record SessionState : Type 0 where
  pub number : ℕ
  pub told : List ToldItem

-- a session that was told nothing
abbrev pub new_session : ℕ → SessionState
new_session number = record { number = number; told = [] }
