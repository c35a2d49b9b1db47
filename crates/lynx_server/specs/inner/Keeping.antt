-- What a commit leaves of what is kept.
use Rattle.std.specs.Prelude.{◌≤◌, ◌≡◌, ◌⊎◌, Result, Ok, Err}
use Rattle.lynx_cells.specs.Database.{ChangeSet, applied}
use Rattle.lynx_set.specs.Set.{Set}
use Rattle.lynx_entry.specs.declared.entry.Entry.{Entry}
use Rattle.lynx_entry.specs.Entry.{History}
use Rattle.lynx_keep.specs.Kept.{KeptState, HasRisen, RestsOn, Terms}
use Rattle.lynx_keep.specs.declared.fault.KeepFault.{KeepFault}
use Rattle.lynx_keep.specs.declared.fault.KeepFault.TheVariants.{Memory, Failed}
use Rattle.lynx_rules.specs.Tables.{after_entry, tables_of}

-- a keeper that kept the one keeps the other
pub record GoesTo {K : Type 0} (terms : Terms K) (old new : K) (before after : KeptState) : Type
    0 where
  pub sound_before : terms.sound new → terms.sound old
  pub keeps_after : terms.sound new → terms.keeps old before → terms.keeps new after
  pub counts : terms.counted old ≤ terms.counted new
  pub rests : RestsOn terms old new before after

-- a stop leaves one of the two, unless the keeper is as it was
abbrev pub StopLeaves : {K : Type 0} → Terms K → K → K → KeptState → KeptState → Type 0
StopLeaves terms old new before after =
    (new ≡ old) ⊎ (terms.sound new → terms.keeps old before → terms.leaves new before after)

-- a keeper keeps what it was given
pub record HasKept {K : Type 0} (terms : Terms K) (old new : K) (before after : KeptState) : Type
    0 where
  pub goes : GoesTo terms old new before after
  pub stop : StopLeaves terms old new before after

-- a keeper failed
pub record Fails {K : Type 0} (terms : Terms K) (old new : K) (before after : KeptState) : Type
    0 where
  pub sound_before : terms.sound new → terms.sound old
  pub rose : HasRisen (terms.counted old) (terms.counted new)
  pub counts : terms.counted old ≤ terms.counted new
  pub stop : StopLeaves terms old new before after

-- what was to be kept is kept; want of memory leaves what was kept
abbrev pub Commits : {K X : Type 0} → Terms K → K → K → KeptState → KeptState → Result X KeepFault
    → Type 0
Commits terms old new before after (Ok done) = HasKept terms old new before after
Commits terms old new before after (Err Memory) = GoesTo terms old new before before
Commits terms old new before after (Err Failed) = Fails terms old new before after

-- the changes are those of the entry
abbrev pub AreChangesOf : Set → History → Entry → ChangeSet → Type 0
AreChangesOf set history entry changes =
    applied changes (tables_of set history) ≡ after_entry set (tables_of set history) entry
