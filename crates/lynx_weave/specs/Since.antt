-- What sessions were told since they began, when each server's history had the length of that
-- server's start.
use Rattle.std.specs.Prelude.{◌≡◌, ◌⊎◌, ◌&&◌, ◌==◌, ℕ, Bool, true, false, nat_lt, All, List, [], map, drop, count_by, slice_get, slice_index, unwrap_or, Some, Result, Ok, Err}
use Rattle.std.specs.List.{range_with_len}
use Rattle.lynx_set.specs.Set.{Set}
use Rattle.lynx_entry.specs.declared.entry.Entry.{Entry}
use Rattle.lynx_entry.specs.declared.entry.Entry.TheVariants.{Begun, Refused, Hop}
use Rattle.lynx_entry.specs.Entry.{History}
use Rattle.lynx_world.specs.Placed.{Placed}
use Rattle.lynx_weave.specs.declared.counts.ServerCounts.{ServerCounts}
use Rattle.lynx_weave.specs.declared.fault.WeaveFault.{WeaveFault}
use Rattle.lynx_weave.specs.declared.fault.WeaveFault.TheVariants.{Mismatch, Told, Memory}
use Rattle.lynx_weave.specs.declared.told.ToldItem.{ToldItem}
use Rattle.lynx_weave.specs.declared.weaving.Woven.{Woven}
use Rattle.lynx_weave.specs.Lists.{IsListOf, entry_in}
use Rattle.lynx_weave.specs.Told.{is_fresh, is_fresh_by, server_told}
use Rattle.lynx_weave.specs.Weaving.{IsFalselyTold, IsMismatch, IsWoven, all_told}

-- the place is below that server's start: an entry there is from before
abbrev pub is_from_before : List ℕ → ℕ → ℕ → Bool
is_from_before starts server place = nat_lt place (slice_index starts server)

-- the item is fresh by an entry from before
pub record IsFreshByOld (histories : List History) (starts : List ℕ) (item : ToldItem) : Type
    0 where
  pub server : ℕ
  pub place : ℕ
  pub entry : Entry
  pub there : entry_in histories server place ≡ Some entry
  pub before : is_from_before starts server place ≡ true
  pub is_by : is_fresh_by (record { server = server; entry = entry }) item ≡ true

-- a fresh item that tells of that server
abbrev pub is_fresh_of : ℕ → ToldItem → Bool
is_fresh_of server item = is_fresh item && (server_told item == server)

-- the entry answers a begin
abbrev pub answers_begin : Entry → Bool
answers_begin (Begun begun) = true
answers_begin (Refused refused) = true
answers_begin (Hop ran) = false

-- the entries of that server at or behind its start
abbrev pub history_since : List History → List ℕ → ℕ → History
history_since histories starts server =
    drop (slice_index starts server) (unwrap_or (slice_get histories server) [])

-- the fresh items that tell of that server, and its entries at or behind its start that answer a
-- begin
abbrev pub counts_at : List History → List ℕ → List ToldItem → ℕ → ServerCounts
counts_at histories starts items server = record {
  fresh = count_by (is_fresh_of server) items;
  begins = count_by answers_begin (history_since histories starts server);
}

-- A world of these histories, in which all that was told stands, no item of it fresh by an entry
-- from before, and the counts of each server.
pub record IsWovenSince (set : Set) (histories : List History) (starts : List ℕ)
    (told : List (List ToldItem)) (woven : Woven) : Type 0 where
  pub world_is : IsWoven set histories told woven.world
  pub none_old : All (All (λ item. IsFreshByOld histories starts item → ⊥)) told
  pub counts_are : woven.counts.items
      ≡ map (counts_at histories starts (all_told told)) (range_with_len 0 set.servers)

-- in the one list of these histories the item at that place of that session is falsely told, or
-- fresh by an entry from before
pub record IsToldFaultSince (set : Set) (histories : List History) (starts : List ℕ)
    (told : List (List ToldItem)) (session place : ℕ) : Type 0 where
  pub list : List Placed
  pub list_is : IsListOf set histories list
  pub items : List ToldItem
  pub items_are : slice_get told session ≡ Some items
  pub item : ToldItem
  pub there : slice_get items place ≡ Some item
  pub falsely : IsFalselyTold list told session items place item
      ⊎ IsFreshByOld histories starts item

-- A world of the histories with counts, or where one of them or what was told is wrong.
abbrev pub WeavesSince : Set → List History → List ℕ → List (List ToldItem)
    → Result Woven WeaveFault → Type 0
WeavesSince set histories starts told (Ok woven) = IsWovenSince set histories starts told woven
WeavesSince set histories starts told (Err (Mismatch server place)) =
    IsMismatch set histories server place
WeavesSince set histories starts told (Err (Told session place)) =
    IsToldFaultSince set histories starts told session place
WeavesSince set histories starts told (Err Memory) = Unit {0}
