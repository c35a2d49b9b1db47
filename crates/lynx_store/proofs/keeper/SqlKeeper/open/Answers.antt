use Rattle.std.proofs.Common.{◌≡◌, sym, ap, subst, ◌∙◌}
use Rattle.lynx_keep.specs.Kept.{nothing_kept}
use Rattle.lynx_sql.specs.Tables.{no_schema}
use Rattle.sqlite.specs.Held.{state}
use Rattle.lynx_store.specs.Crashes.{FindsEither}
use Rattle.lynx_store.specs.Heading.{owner_in}
use Rattle.lynx_store.specs.Stored.{HasTitle, IsOfOtherSet, title_for}
use Rattle.lynx_store.proofs.CrashLemmas.{none_found, opened_either, refused_for}
use Rattle.lynx_store.proofs.Kept.{new_kept, reowned, same_owner}
use Rattle.lynx_store.proofs.keeper.SqlKeeper.open.Goals as goal

pub returns-in-Ok-made-clause-kept : goal.returns-in-Ok-made-clause-kept
returns-in-Ok-made-clause-kept g c =
    let empty : c.args.conn.schema ≡ no_schema = sym c.schema.ensures.value ∙ c.is_empty.ensures.0 c.if-is_empty.true in
    rw c.over.ensures (λ clean. (nothing_kept, new_kept _ _ _ _ _ _ _ c.as_slice.ensures.value c.as_slice-then-is_empty.ensures.value c.version_text.ensures (c.in-Ok-made.ensures.ok clean empty)))

pub returns-in-Ok-made-clause-new : goal.returns-in-Ok-made-clause-new
returns-in-Ok-made-clause-new g c =
    rw c.over.ensures (λ clean empty. new_kept _ _ _ _ _ _ _ c.as_slice.ensures.value c.as_slice-then-is_empty.ensures.value c.version_text.ensures (c.in-Ok-made.ensures.ok clean empty))

pub returns-in-Ok-count_kept-clause-kept : goal.returns-in-Ok-count_kept-clause-kept
returns-in-Ok-count_kept-clause-kept g c = rw c.over-in-Ok-count_kept.ensures c.in-Ok-count_kept.ensures.kept

pub returns-in-Ok-count_kept-clause-same : goal.returns-in-Ok-count_kept-clause-same
returns-in-Ok-count_kept-clause-same g c = rw c.over-in-Ok-count_kept.ensures c.in-Ok-count_kept.ensures.same

pub returns-in-Err-count_kept-clause-other : goal.returns-in-Err-count_kept-clause-other
returns-in-Err-count_kept-clause-other g c clean other count kept was =
    c.in-Err-count_kept.ensures.other clean other count kept
    (reowned (state g.S.Store c.args.conn) count kept _ _ (same_owner _ _ _ _ _ _ c.in-Ok.ensures.version c.in-Ok.ensures.server c.in-Ok.ensures.set) was)

pub returns-in-Err-count_kept-clause-damaged : goal.returns-in-Err-count_kept-clause-damaged
returns-in-Err-count_kept-clause-damaged g c clean is count kept few was =
    c.in-Err-count_kept.ensures.damaged clean is count kept few
    (reowned (state g.S.Store c.args.conn) count kept _ _ (same_owner _ _ _ _ _ _ c.in-Ok.ensures.version c.in-Ok.ensures.server c.in-Ok.ensures.set) was)

pub returns-in-Err-count_kept-clause-other_set : goal.returns-in-Err-count_kept-clause-other_set
returns-in-Err-count_kept-clause-other_set g c clean is =
    subst (IsOfOtherSet (HasTitle (state g.S.Store c.args.conn))) (same_owner _ _ _ _ _ _ c.in-Ok.ensures.version c.in-Ok.ensures.server c.in-Ok.ensures.set)
    (c.in-Err-count_kept.ensures.other_set clean is)

pub returns-in-Ok-count_kept-clause-either : goal.returns-in-Ok-count_kept-clause-either
returns-in-Ok-count_kept-clause-either g c = rw c.over-in-Ok-count_kept.ensures (λ clean one other. opened_either (state g.S.Store c.args.conn) _ _ _ one other (c.in-Ok-count_kept.ensures.same clean))

pub returns-in-Ok-made-clause-either : goal.returns-in-Ok-made-clause-either
returns-in-Ok-made-clause-either g c =
    let empty : c.args.conn.schema ≡ no_schema = sym c.schema.ensures.value ∙ c.is_empty.ensures.0 c.if-is_empty.true in
    rw c.over.ensures (λ clean one other. none_found (state g.S.Store c.args.conn) _ _ _ one other empty)

pub returns-in-Err-count_kept-clause-left : goal.returns-in-Err-count_kept-clause-left
returns-in-Err-count_kept-clause-left g c clean one other few less finds =
    let same = same_owner _ _ _ _ _ _ c.in-Ok.ensures.version c.in-Ok.ensures.server c.in-Ok.ensures.set in
    refused_for (state g.S.Store c.args.conn) (owner_in c.in-Ok.heading) c.in-Err-count_kept.fault
    (c.in-Err-count_kept.ensures.damaged clean) (c.in-Err-count_kept.ensures.other clean) one other few less
    (subst (λ owner. FindsEither (state g.S.Store c.args.conn) owner one other) (sym same) finds)

pub returns-in-Err-count_kept-clause-ordered : goal.returns-in-Err-count_kept-clause-ordered
returns-in-Err-count_kept-clause-ordered g c clean is schema title holds =
    c.in-Err-count_kept.ensures.ordered clean is schema title holds
    ∙ ap title_for (same_owner _ _ _ _ _ _ c.in-Ok.ensures.version c.in-Ok.ensures.server c.in-Ok.ensures.set)
