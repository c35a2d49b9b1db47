-- What stops leave.
use Rattle.std.specs.Prelude.{◌≡◌}
use Rattle.std.proofs.Common.{inl, inr, sym, subst}
use Rattle.sqlite.specs.Tree.{Trees}
use Rattle.lynx_keep.specs.Kept.{KeptState}
use Rattle.lynx_sql.specs.Steps.{Holds}
use Rattle.lynx_store.specs.Stored.{LeavesOneOf, Owner, contents_of}

-- where a stop leaves what was committed, it leaves what is kept
pub leaves_kept : (may_leave : Trees → Type 0) (committed : Trees) (owner : Owner)
    (kept other : KeptState)
    → ((db : Trees) → may_leave db → db ≡ committed) → Holds committed (contents_of owner kept)
    → LeavesOneOf may_leave owner kept other
leaves_kept may_leave committed owner kept other settled holds db may =
    inl (subst (λ trees. Holds trees (contents_of owner kept)) (sym (settled db may)) holds)

-- one of one is one of two
pub leaves_either : (may_leave : Trees → Type 0) (owner : Owner) (kept other : KeptState)
    → LeavesOneOf may_leave owner kept kept → LeavesOneOf may_leave owner kept other
leaves_either may_leave owner kept other left db may =
    elim (left db may) [ inl holds ↦ inl holds | inr holds ↦ inl holds ]
