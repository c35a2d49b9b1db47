-- What was told, judged by histories.
use Rattle.std.specs.Prelude.{◌≡◌, ◌⊎◌, ◌<◌, ◌≤◌, ◌+◌, ◌==◌, ◌&&◌, ◌||◌, ℕ, Bool, true, false, not, if◌then◌else◌, nat_lt, List, [], length, take, slice_get, unwrap_or, option_map, count_by, Option, Some, None, Result, Ok, Err}
use Rattle.std.specs.List.{list_any}
use Rattle.std.specs.BTreeSet.{BTreeSet, contains}
use Rattle.lynx_names.specs.declared.limits.TheConstants.{MAX_ENTRIES}
use Rattle.lynx_cells.specs.Database.{cell_cmp}
use Rattle.lynx_entry.specs.declared.entry.Entry.{Entry}
use Rattle.lynx_entry.specs.Entry.{History}
use Rattle.lynx_rules.specs.Lawful.{is_record_of}
use Rattle.lynx_server.specs.Acts.{is_act}
use Rattle.lynx_weave.specs.declared.fault.WeaveFault.{WeaveFault}
use Rattle.lynx_weave.specs.declared.fault.WeaveFault.TheVariants.{Mismatch, Told, Memory}
use Rattle.lynx_weave.specs.declared.told.ToldItem.{ToldItem}
use Rattle.lynx_weave.specs.declared.told.ToldItem.TheVariants.{Answered, Seen}
use Rattle.lynx_weave.specs.Lists.{entry_in}
use Rattle.lynx_weave.specs.Since.{IsFreshByOld}
use Rattle.lynx_weave.specs.Told.{agrees, greatest_told, is_fresh, is_topmost, server_told, stamp_told, tells_full}
use Rattle.lynx_weave.specs.Weaving.{all_told}

-- the one kind of entry that can bear the item out
abbrev pub is_sought : ToldItem → Entry → Bool
is_sought (Answered server request answer) entry = is_record_of request entry
is_sought (Seen server chain hop stamp results) entry = is_act chain hop entry

-- the entry at the place passes the test
abbrev pub passes_at : (Entry → Bool) → History → ℕ → Bool
passes_at test history place = unwrap_or (option_map test (slice_get history place)) false

-- the one place of the history whose entry passes the test
abbrev pub IsSolePlace : (Entry → Bool) → History → Option ℕ → Type 0
IsSolePlace test history None = (place : ℕ) → passes_at test history place ≡ false
IsSolePlace test history (Some found) =
    (place : ℕ) → passes_at test history place ≡ (place == found)

-- the entry at that place of that server's history agrees with the item
abbrev pub agrees_at : List History → ToldItem → ℕ → ℕ → Bool
agrees_at histories item server place =
    unwrap_or (option_map (λ entry. agrees item (record { server = server; entry = entry }))
    (entry_in histories server place)) false

-- the one place, at the item's server, of an entry that agrees with it
abbrev pub IsAgreedAt : List History → ToldItem → Option ℕ → Type 0
IsAgreedAt histories item None = (server place : ℕ) → agrees_at histories item server place ≡ false
IsAgreedAt histories item (Some found) =
    (server place : ℕ)
    → agrees_at histories item server place ≡ ((server == server_told item) && (place == found))

-- an entry has the greatest of all stamps
abbrev pub are_topped : List History → Bool
are_topped histories = list_any (list_any is_topmost) histories

-- the server has all the entries, or some server all the stamps, that there may be
abbrev pub is_full_here : List History → ℕ → Bool
is_full_here histories server =
    not (nat_lt (length (unwrap_or (slice_get histories server) [])) MAX_ENTRIES) || are_topped
    histories

-- the item stands
abbrev pub StandsIn : List History → ToldItem → Type 0
StandsIn histories item =
    ((server : ℕ) × (place : ℕ) × (agrees_at histories item server place ≡ true))
    ⊎ ((tells_full item && is_full_here histories (server_told item)) ≡ true)

-- the item is fresh by the entry at that place of that server
abbrev pub is_fresh_at : List History → ℕ → ℕ → ToldItem → Bool
is_fresh_at histories server place item = is_fresh item && agrees_at histories item server place

-- how often the entry is marked
abbrev pub marks_at : BTreeSet (ℕ × ℕ) → ℕ → ℕ → ℕ
marks_at marks server place = if contains cell_cmp marks (server, place) then 1 else 0

-- each entry has one more mark for each of the items that is fresh by it
abbrev pub AreMarked : List History → BTreeSet (ℕ × ℕ) → List ToldItem → BTreeSet (ℕ × ℕ) → Type 0
AreMarked histories old items new =
    (server place : ℕ)
    → marks_at new server place
    ≡ marks_at old server place + count_by (is_fresh_at histories server place) items

-- the item stands, comes in time, and isn't fresh by an entry from before
pub record IsWellTold (histories : List History) (starts : List ℕ) (greatest : ℕ)
    (item : ToldItem) : Type 0 where
  pub stands : StandsIn histories item
  pub in_time : is_fresh item ≡ true → greatest < stamp_told item
  pub since : IsFreshByOld histories starts item → ⊥

-- the item is fresh by an entry by which as many items told before are
pub record IsFreshAgain (histories : List History) (before : ℕ → ℕ → ℕ) (item : ToldItem) : Type
    0 where
  pub server : ℕ
  pub place : ℕ
  pub is_by : is_fresh_at histories server place item ≡ true
  pub again : 1 ≤ before server place

-- the item doesn't stand, comes too late, or is fresh by an entry by which one before it is, or by
-- an entry from before
abbrev pub IsBadlyTold : List History → List ℕ → ℕ → (ℕ → ℕ → ℕ) → ToldItem → Type 0
IsBadlyTold histories starts greatest before item =
    (StandsIn histories item → ⊥)
    ⊎ (((is_fresh item ≡ true) × (stamp_told item ≤ greatest))
    ⊎ (IsFreshAgain histories before item ⊎ IsFreshByOld histories starts item))

-- one item was judged
abbrev pub JudgesItem : List History → List ℕ → ℕ → ToldItem → BTreeSet (ℕ × ℕ) → BTreeSet (ℕ × ℕ)
    → Bool → Type 0
JudgesItem histories starts greatest item old new true =
    IsWellTold histories starts greatest item
    × ((server place : ℕ) → marks_at new server place
    ≡ marks_at old server place + (if is_fresh_at histories server place item then 1 else 0))
JudgesItem histories starts greatest item old new false =
    IsBadlyTold histories starts greatest (marks_at old) item

-- the items of a session
abbrev pub AreWellTold : List History → List ℕ → List ToldItem → Type 0
AreWellTold histories starts items =
    (place : ℕ) (item : ToldItem) → slice_get items place ≡ Some item →
    IsWellTold histories starts (greatest_told (take place items)) item

-- the first items of a session were judged well, and the one at the place badly
pub record IsBadAt (histories : List History) (starts : List ℕ) (old : ℕ → ℕ → ℕ)
    (items : List ToldItem) (place : ℕ) : Type 0 where
  pub item : ToldItem
  pub there : slice_get items place ≡ Some item
  pub badly : IsBadlyTold histories starts (greatest_told (take place items))
      (λ server at. old server at + count_by (is_fresh_at histories server at) (take place items))
      item

abbrev pub JudgesItems : List History → List ℕ → List ToldItem → BTreeSet (ℕ × ℕ) → BTreeSet (ℕ × ℕ)
    → Option ℕ → Type 0
JudgesItems histories starts items old new None =
    AreWellTold histories starts items × AreMarked histories old items new
JudgesItems histories starts items old new (Some place) =
    IsBadAt histories starts (marks_at old) items place

-- all that was told is well told, and no entry as fresh twice
pub record AreAllWellTold (histories : List History) (starts : List ℕ)
    (told : List (List ToldItem)) : Type 0 where
  pub each : (session : ℕ) (items : List ToldItem) → slice_get told session ≡ Some items
      → AreWellTold histories starts items
  pub once : (server place : ℕ) → count_by (is_fresh_at histories server place) (all_told told) ≤ 1

-- the item at that place of that session is badly told
pub record IsBadIn (histories : List History) (starts : List ℕ) (told : List (List ToldItem))
    (session place : ℕ) : Type 0 where
  pub items : List ToldItem
  pub items_are : slice_get told session ≡ Some items
  pub bad : IsBadAt histories starts
      (λ server at. count_by (is_fresh_at histories server at) (all_told (take session told))) items
      place

abbrev pub JudgesAll : List History → List ℕ → List (List ToldItem) → Result (Unit {0}) WeaveFault
    → Type 0
JudgesAll histories starts told (Ok done) = AreAllWellTold histories starts told
JudgesAll histories starts told (Err (Mismatch server place)) = ⊥
JudgesAll histories starts told (Err (Told session place)) =
    IsBadIn histories starts told session place
JudgesAll histories starts told (Err Memory) = Unit {0}
