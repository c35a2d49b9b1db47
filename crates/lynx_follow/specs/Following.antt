-- What a store keeps that follows a server.
use Rattle.std.specs.Prelude.{◌≡◌, ◌++◌, ℕ, length, Result, Ok, Err}
use Rattle.lynx_cells.specs.Database.{ChangeSet, Database, applied}
use Rattle.lynx_set.specs.Set.{Set}
use Rattle.lynx_entry.specs.Entry.{History}
use Rattle.lynx_keep.specs.Kept.{HasRisen, KeptState, Terms}
use Rattle.lynx_keep.specs.declared.fault.KeepFault.TheVariants.{Failed}
use Rattle.lynx_rules.specs.Tables.{tables_of}
use Rattle.lynx_server.specs.declared.fault.OpenFault.{OpenFault}
use Rattle.lynx_server.specs.declared.fault.OpenFault.TheVariants.{Damaged, Store, Memory}
use Rattle.lynx_server.specs.Keeping.{kept_of}
use Rattle.lynx_server.specs.Opening.{Finds, FindsFault, FindsNoRoom}
use Rattle.lynx_follow.specs.declared.following.Follower.{Follower}
use Rattle.lynx_follow.specs.declared.following.Opened.{Opened}
use Rattle.lynx_follow.specs.declared.following.Unfollowed.{Unfollowed}

-- where the changes that were noted lead to the cells before, those that are noted now lead to the
-- cells after
abbrev pub Notes : ChangeSet → ChangeSet → Database → Database → Type 0
Notes noted now before after =
    (start : Database) → applied noted start ≡ before → applied now start ≡ after

-- it keeps just these entries, and the cells that they leave
pub record Follows {K : Type 0} (terms : Terms K) (set : Set) (front : History)
    (follower : Follower K) : Type 0 where
  pub count_is : follower.count ≡ length front
  pub cells_are : follower.cells.database ≡ tables_of set front
  pub keeps : terms.sound follower.keeper → terms.keeps follower.keeper (kept_of set front)

-- what the keeper kept was found, and is followed on
pub record IsOpened {K : Type 0} (terms : Terms K) (set : Set) (keeper : K) (opened : Opened K)
    : Type 0 where
  pub finds : Finds terms keeper opened.follower.keeper (kept_of set opened.rest.items)
  pub follows : Follows terms set opened.rest.items opened.follower

-- behind the entries that were found, the cells aren't those that they leave
pub record FindsOtherCells {K : Type 0} (terms : Terms K) (set : Set) (old new : K) (place : ℕ)
    : Type 0 where
  pub found : KeptState
  pub finds : Finds terms old new found
  pub place_is : place ≡ length found.entries
  pub cells_differ : found.cells ≡ tables_of set found.entries → ⊥

-- why a store can't follow, and what is left of its keeper
abbrev pub IsUnopened : {K : Type 0} → Terms K → Set → K → K → OpenFault → Type 0
IsUnopened terms set old new (Damaged place) = FindsOtherCells terms set old new place
IsUnopened terms set old new Store = FindsFault terms old new
IsUnopened terms set old new Memory = FindsNoRoom terms old new

-- An opening: what is kept is followed on; or not, and then this is left of the keeper.
abbrev pub Opens : {K : Type 0} → Terms K → Set → K → Result (Opened K) OpenFault → Type 0
Opens terms set keeper (Ok opened) = IsOpened terms set keeper opened
Opens {K} terms set keeper (Err fault) = (left : K) × IsUnopened terms set keeper left fault

-- a stop meanwhile leaves what the store kept, or that with all of these entries
pub record LeavesEither {K : Type 0} (terms : Terms K) (set : Set) (old : Follower K)
    (entries : History) (keeper : K) : Type 0 where
  pub sound : terms.sound keeper → terms.sound old.keeper
  pub stop : terms.sound keeper → (front : History) → Follows terms set front old
      → terms.leaves keeper (kept_of set front) (kept_of set (front ++ entries))

-- the store keeps these entries, too
pub record HasFollowed {K : Type 0} (terms : Terms K) (set : Set) (old : Follower K)
    (entries : History) (new : Follower K) : Type 0 where
  pub follows : (front : History) → Follows terms set front old
      → Follows terms set (front ++ entries) new
  pub leaves : LeavesEither terms set old entries new.keeper

-- the store failed, or memory was wanting
pub record HasNotFollowed {K : Type 0} (terms : Terms K) (set : Set) (old : Follower K)
    (entries : History) (unfollowed : Unfollowed K) : Type 0 where
  pub leaves : LeavesEither terms set old entries unfollowed.keeper
  pub failed : unfollowed.fault ≡ Failed
      → HasRisen (terms.counted old.keeper) (terms.counted unfollowed.keeper)

-- A store follows on with these entries, all of them; or not, and then its keeper is left.
abbrev pub FollowsOn : {K : Type 0} → Terms K → Set → Follower K → History
    → Result (Follower K) (Unfollowed K) → Type 0
FollowsOn terms set old entries (Ok new) = HasFollowed terms set old entries new
FollowsOn terms set old entries (Err unfollowed) = HasNotFollowed terms set old entries unfollowed
