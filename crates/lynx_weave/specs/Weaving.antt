-- When histories and what sessions were told weave to a world, and when not.
use Rattle.std.specs.Prelude.{◌≡◌, ◌⊎◌, ◌<◌, ◌≤◌, ℕ, true, false, List, [], ◌++◌, All, replicate, take, slice_get, Some, Result, Ok, Err, count_by}
use Rattle.std.specs.List.{flat_map}
use Rattle.lynx_set.specs.Set.{Set}
use Rattle.lynx_entry.specs.declared.entry.Entry.{Entry}
use Rattle.lynx_entry.specs.declared.message.Message.{Message}
use Rattle.lynx_entry.specs.Entry.{History}
use Rattle.lynx_rules.specs.Lawful.{message_of}
use Rattle.lynx_rules.specs.Messages.{next_message}
use Rattle.lynx_server.specs.History.{IsFirstUnlawful}
use Rattle.lynx_world.specs.Placed.{Placed}
use Rattle.lynx_world.specs.Worlds.{WorldState}
use Rattle.lynx_weave.specs.declared.fault.WeaveFault.{WeaveFault}
use Rattle.lynx_weave.specs.declared.fault.WeaveFault.TheVariants.{Mismatch, Told, Memory}
use Rattle.lynx_weave.specs.declared.told.ToldItem.{ToldItem}
use Rattle.lynx_weave.specs.Lists.{IsListOf, entry_in}
use Rattle.lynx_weave.specs.Told.{greatest_told, is_fresh, is_fresh_by, stamp_told, stands}

-- a fresh item's stamp is above every stamp that was told before it
abbrev pub IsInTime : List ToldItem → Type 0
IsInTime items =
    (place : ℕ) (item : ToldItem) → slice_get items place ≡ Some item → is_fresh item ≡ true →
    greatest_told (take place items) < stamp_told item

-- all that was told, one session after another
abbrev pub all_told : List (List ToldItem) → List ToldItem
all_told told = flat_map (λ items. items) told

-- A world of these histories, in which all that was told stands.
pub record IsWoven (set : Set) (histories : List History) (told : List (List ToldItem))
    (world : WorldState) : Type 0 where
  pub set_is : world.set ≡ set
  pub list_is : IsListOf set histories world.list
  pub nothing_held : world.held ≡ replicate set.servers []
  pub stand : All (All (λ item. stands world.list item ≡ true)) told
  pub in_time : All IsInTime told
  -- no two items are fresh by one entry
  pub once : All (λ placed. count_by (is_fresh_by placed) (all_told told) ≤ 1) world.list

-- the entry isn't lawful after those before it in its history, which are
pub record IsUnlawfulAt (set : Set) (histories : List History) (server place : ℕ) : Type 0 where
  pub history : History
  pub there : slice_get histories server ≡ Some history
  pub first : IsFirstUnlawful set server history place

-- the entry's hop ran on a message that no entry sends
pub record IsUnsentAt (set : Set) (histories : List History) (server place : ℕ) : Type 0 where
  pub entry : Entry
  pub there : entry_in histories server place ≡ Some entry
  pub message : Message
  pub message_is : message_of entry ≡ Some message
  pub unsent : (other at : ℕ) (sender : Entry) → entry_in histories other at ≡ Some sender →
      next_message set sender ≡ Some message → ⊥

-- the entry can't stand in a world of these histories
abbrev pub IsMismatch : Set → List History → ℕ → ℕ → Type 0
IsMismatch set histories server place =
    IsUnlawfulAt set histories server place ⊎ IsUnsentAt set histories server place

-- an item told before is fresh by the same entry
pub record IsToldAgain (list : List Placed) (before : List ToldItem) (item : ToldItem) : Type
    0 where
  pub at : ℕ
  pub placed : Placed
  pub there : slice_get list at ≡ Some placed
  pub is_by : is_fresh_by placed item ≡ true
  pub again : 1 ≤ count_by (is_fresh_by placed) before

-- The item at that place doesn't stand in the list, or is fresh and comes too late, or is fresh by
-- an entry by which an item of an earlier session or place is.
abbrev pub IsFalselyTold : List Placed → List (List ToldItem) → ℕ → List ToldItem → ℕ → ToldItem
    → Type 0
IsFalselyTold list told session items place item =
    (stands list item ≡ false)
    ⊎ (((is_fresh item ≡ true) × (stamp_told item ≤ greatest_told (take place items)))
    ⊎ IsToldAgain list (all_told (take session told) ++ take place items) item)

-- in the one list of these histories the item at that place of that session is falsely told
pub record IsToldFault (set : Set) (histories : List History) (told : List (List ToldItem))
    (session place : ℕ) : Type 0 where
  pub list : List Placed
  pub list_is : IsListOf set histories list
  pub items : List ToldItem
  pub items_are : slice_get told session ≡ Some items
  pub item : ToldItem
  pub there : slice_get items place ≡ Some item
  pub falsely : IsFalselyTold list told session items place item

-- A world of the histories, or where one of them or what was told is wrong.
abbrev pub Weaves : Set → List History → List (List ToldItem) → Result WorldState WeaveFault
    → Type 0
Weaves set histories told (Ok world) = IsWoven set histories told world
Weaves set histories told (Err (Mismatch server place)) = IsMismatch set histories server place
Weaves set histories told (Err (Told session place)) = IsToldFault set histories told session place
Weaves set histories told (Err Memory) = Unit {0}
