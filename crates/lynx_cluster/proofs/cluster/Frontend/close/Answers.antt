use Rattle.std.proofs.Common.{◌∙◌, ℕ, List, Option, ap, subst}
use Rattle.lynx_set.specs.Set.{Set}
use Rattle.lynx_weave.specs.Rebuilt.{histories_in, told_in}
use Rattle.lynx_cluster.specs.inner.Absent.{IsAbsent}
use Rattle.lynx_cluster.specs.Sessions.{SessionState}
use Rattle.lynx_cluster.proofs.Closings.{closed_by, counts_many, miscounted_by}
use Rattle.lynx_cluster.proofs.cluster.Frontend.close.Goals as goal

pub first_uncounted-requires : goal.first_uncounted-requires
first_uncounted-requires g c =
    counts_many c.deref-set.result.now (histories_in c.in_ok-taken.taken.histories.items) c.as_slice-2.result.now (told_in c.as_slice-3.result.now)
    c.in_ok-woven.woven c.as_slice-4.result.now c.in_ok-woven.ensures c.as_slice-4.ensures.value

pub returns-in-Some-first_uncounted-clause-fault : goal.returns-in-Some-first_uncounted-clause-fault
returns-in-Some-first_uncounted-clause-fault g c =
    miscounted_by g.K.Keeper.terms c.args.self c.args.sessions.items c.deref-set.result.now c.as_slice-2.result.now (told_in c.as_slice-3.result.now)
    (histories_in c.in_ok-taken.taken.histories.items) c.in_ok-taken.taken.keepers.items c.in_ok-woven.woven c.as_slice-4.result.now
    c.in-Some-first_uncounted.server
    (ap (λ (s : Set). record { set = s; starts = c.as_slice-2.result.now }) c.deref-set.ensures
    ∙ ap (λ starts. record { set = c.self.inside.set.value; starts = starts }) c.as_slice-2.ensures.value ∙ c.self.view_is)
    (ap told_in c.as_slice-3.ensures.value ∙ c.in_ok-told.ensures) c.in_ok-taken.ensures.taken c.in_ok-woven.ensures c.as_slice-4.ensures.value
    c.in-Some-first_uncounted.ensures

pub returns-clause-closed : goal.returns-clause-closed
returns-clause-closed g c =
    closed_by g.K.Keeper.terms c.args.self c.args.sessions.items c.deref-set.result.now c.as_slice-2.result.now (told_in c.as_slice-3.result.now)
    (histories_in c.in_ok-taken.taken.histories.items) c.in_ok-taken.taken.keepers.items c.in_ok-woven.woven c.as_slice-4.result.now
    (ap (λ (s : Set). record { set = s; starts = c.as_slice-2.result.now }) c.deref-set.ensures
    ∙ ap (λ starts. record { set = c.self.inside.set.value; starts = starts }) c.as_slice-2.ensures.value ∙ c.self.view_is)
    (ap told_in c.as_slice-3.ensures.value ∙ c.in_ok-told.ensures) c.in_ok-taken.ensures.taken c.in_ok-woven.ensures c.as_slice-4.ensures.value
    c.in_default-first_uncounted.ensures c.into_inner-made.result
    (subst (λ (found : Option ℕ). IsAbsent c.into_inner-made.result c.args.sessions.items found) c.in_default.is
    (subst (λ (sessions : List SessionState). IsAbsent c.into_inner-made.result sessions c.in_ok-session.field-0) c.as_slice.ensures.value c.in_ok-session.ensures))
