-- Between two calls of a keeper that holds entries back a stop leaves a front of what it keeps.
use Rattle.std.specs.Prelude.{◌≡◌, []}
use Rattle.std.proofs.Common.{inl, inr, sym, ap, ◌∙◌}
use Rattle.std.proofs.lemmas.List.{append-nil}
use Rattle.std.specs.FinMap as map
use Rattle.lynx_cells.specs.Database.{Database}
use Rattle.lynx_cells.proofs.Writes.{applied-empty}
use Rattle.lynx_entry.specs.Entry.{History}
use Rattle.lynx_keep.specs.Kept.{KeptState, Terms, with_entries}
use Rattle.lynx_keep.specs.HeldBack.{Holding, IsFront, KeepsBehind, LeavesFront}

-- nothing more is no more
pub with-nothing : (kept : KeptState) → with_entries kept [] map.empty ≡ kept
with-nothing kept =
    λ i. record { entries = append-nil kept.entries i; cells = applied-empty kept.cells i }

-- what is kept is a front of itself
pub front_itself : (kept : KeptState) → IsFront kept kept
front_itself kept = record { more = []; changes = map.empty; kept_is = sym (with-nothing kept) }

-- what the keeper under it keeps is a front of all
pub front_behind : {K : Type 0} (terms : Terms K) (holding : Holding K) (kept : KeptState)
    → (behind : KeepsBehind terms holding kept) → IsFront behind.base kept
front_behind terms holding kept behind =
    record { more = holding.waiting; changes = holding.changes; kept_is = behind.kept_is }

pub settled_front : {K : Type 0} (terms : Terms K)
    → ((keeper : K) (kept : KeptState) → terms.sound keeper → terms.keeps keeper kept
    → terms.leaves keeper kept kept)
    → (holding : Holding K) (kept : KeptState) → terms.sound holding.inner
    → KeepsBehind terms holding kept → LeavesFront terms holding.inner kept kept
settled_front terms settled holding kept sound behind = record {
  base = behind.base;
  after = behind.base;
  leaves = settled holding.inner behind.base sound behind.keeps;
  base_front = front_behind terms holding kept behind;
  after_front = inl (front_behind terms holding kept behind);
}

pub weaker_front : {K : Type 0} (terms : Terms K) (inner : K) (kept other : KeptState)
    → LeavesFront terms inner kept kept → LeavesFront terms inner kept other
weaker_front terms inner kept other left = record {
  base = left.base;
  after = left.after;
  leaves = left.leaves;
  base_front = left.base_front;
  after_front = elim left.after_front [ inl front ↦ inl front | inr front ↦ inl front ];
}
