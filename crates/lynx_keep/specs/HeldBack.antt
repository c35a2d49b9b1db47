-- A keeper that holds entries back.
use Rattle.std.specs.Prelude.{◌≡◌, ◌⊎◌, ◌+◌, ◌-◌, ◌^◌, ℕ, [], All, min, refl}
use Rattle.std.specs.Coded.{Coded, code_by, coded×, coded_ℕ, coded_list}
use Rattle.std.specs.FinMap as map
use Rattle.lynx_cells.specs.Database.{ChangeSet}
use Rattle.lynx_codec.specs.Entries.{IsEntryInRange}
use Rattle.lynx_entry.specs.contracts.entry.Entry as entry
use Rattle.lynx_entry.specs.Entry.{History}
use Rattle.lynx_keep.specs.Kept.{KeptState, Terms, with_entries}

-- a keeper, the entries that wait for it, and what they change of the cells
pub record Holding (K : Type 0) : Type 0 where
  pub inner : K
  pub waiting : History
  pub changes : ChangeSet
  -- how often nothing was written for want of memory
  pub faults : ℕ

-- it is stored as the tuple of its fields
abbrev pub holding_code : {K : Type 0} → Coded K → Coded (Holding K)
holding_code {K} keeper =
    code_by (K × (History × (ChangeSet × ℕ)))
    (coded× keeper
    (coded× (coded_list entry.the_row.coded)
    (coded× (map.code (coded× coded_ℕ coded_ℕ) coded_ℕ) coded_ℕ)))
    (λ h. (h.inner, (h.waiting, (h.changes, h.faults))))
    (λ p. record { inner = p.0; waiting = p.1.0; changes = p.1.1.0; faults = p.1.1.1 })
    (λ _. refl)

-- each entry that waits has an encoding, and where none waits, nothing is changed
pub record IsHolding (waiting : History) (changes : ChangeSet) : Type 0 where
  pub range : All IsEntryInRange waiting
  pub idle : waiting ≡ [] → changes ≡ map.empty

-- what the keeper under it keeps, with those that wait behind it
pub record KeepsBehind {K : Type 0} (terms : Terms K) (holding : Holding K) (kept : KeptState) :
    Type 0 where
  pub base : KeptState
  pub keeps : terms.keeps holding.inner base
  pub kept_is : kept ≡ with_entries base holding.waiting holding.changes

-- what is settled, with those that wait behind it
pub record RestsBehind {K : Type 0} (terms : Terms K) (holding : Holding K)
    (settled kept : KeptState) : Type 0 where
  pub keeps : terms.keeps holding.inner settled
  pub kept_is : kept ≡ with_entries settled holding.waiting holding.changes

-- what is kept begins with this
pub record IsFront (front kept : KeptState) : Type 0 where
  pub more : History
  pub changes : ChangeSet
  pub kept_is : kept ≡ with_entries front more changes

-- a stop leaves one of two states that the keeper under it tells, each a front of what is kept
pub record LeavesFront {K : Type 0} (terms : Terms K) (inner : K) (one other : KeptState) :
    Type 0 where
  pub base : KeptState
  pub after : KeptState
  pub leaves : terms.leaves inner base after
  pub base_front : IsFront base one
  pub after_front : IsFront after one ⊎ IsFront after other

-- the faults of both
abbrev pub counted_both : {K : Type 0} → Terms K → Holding K → ℕ
counted_both terms holding =
    min (holding.faults + terms.counted holding.inner) (2 ^ 64 - 1)

-- what is said of such a keeper
abbrev pub held_terms : {K : Type 0} → Terms K → Terms (Holding K)
held_terms terms = record {
  sound = λ holding. terms.sound holding.inner;
  keeps = λ holding kept. KeepsBehind terms holding kept;
  leaves = λ holding one other. LeavesFront terms holding.inner one other;
  counted = λ holding. counted_both terms holding;
  rests = λ holding settled kept. RestsBehind terms holding settled kept;
  Owner = terms.Owner;
  owner = λ holding. terms.owner holding.inner;
}
