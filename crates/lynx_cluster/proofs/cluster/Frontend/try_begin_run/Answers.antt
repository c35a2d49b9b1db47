use Rattle.std.proofs.Common.{◌≡◌, ◌∙◌, ◌++◌, List, ℕ, true, ap, arith, length, refl, subst, sym}
use Rattle.lynx_weave.specs.declared.told.ToldItem.{ToldItem}
use Rattle.lynx_weave.specs.Told.{greatest_told}
use Rattle.lynx_entry.specs.declared.request.Request.{Request}
use Rattle.lynx_set.specs.Set.{Set}
use Rattle.lynx_cluster.specs.Clusters.{ClusterState}
use Rattle.lynx_cluster.specs.inner.Submitting.{AreFew, AreFit, seen_after, told_by_all}
use Rattle.lynx_cluster.specs.Sessions.{SessionState}
use Rattle.lynx_cluster.proofs.Submissions.{all_seen, fit_few, run_answered, run_unanswered, same_session}
use Rattle.lynx_cluster.proofs.cluster.Frontend.try_begin_run.Goals as goal

pub returns-in_default-clause-begins : goal.returns-in_default-clause-begins
returns-in_default-clause-begins g c =
    run_unanswered c.args.self.now.set c.args.session.now c.args.session.now c.args.requests.items true _ c.args.answers.now.items c.answer_none.new.answers.items
    refl (omega (arith, c.len.ensures, c.args.requests.ok)) c.answer_none.ensures.answers

pub note_all-requires-clause-few : goal.note_all-requires-clause-few
note_all-requires-clause-few g c =
    let fit = c.if-answers_all.ensures.fit refl in
    subst AreFew (sym c.into_answers-given.ensures) (fit_few _ _ _ _ _ fit)

pub invariant_of-session-then-answers_all : goal.invariant_of-session-then-answers_all
invariant_of-session-then-answers_all g c =
    let given = c.into_answers-given.result.items in
    let told = c.session.inside.told.items in
    let many = ap length c.into_answers-given.ensures ∙ c.if-answers_all.ensures.count refl ∙ ap length c.as_slice-4.ensures.value in
    c.note_all.ensures.greatest ∙ ap (λ (n : ℕ). seen_after n given) c.session.invariant
    ∙ all_seen c.args.server c.args.requests.items given told many
    ∙ ap greatest_told (ap (λ (ts : List ToldItem). ts ++ told_by_all c.args.server c.args.requests.items given) (sym c.in_ok-reserve.ensures.items) ∙ sym c.note_all.ensures.told)

pub returns-then-answers_all-clause-begins : goal.returns-then-answers_all-clause-begins
returns-then-answers_all-clause-begins g c =
    let set = c.args.self.now.set in
    let old = c.args.session.now in
    let requests = c.args.requests.items in
    let given = c.into_answers-given.result.items in
    let told : c.session.inside.told.items ≡ old.told = ap (λ (s : SessionState). s.told) c.session.view_is in
    let number : c.session.inside.number ≡ old.number = ap (λ (s : SessionState). s.number) c.session.view_is in
    let asked : c.as_slice-4.result.now ≡ requests = c.as_slice-4.ensures.value in
    let many = ap length c.into_answers-given.ensures ∙ c.if-answers_all.ensures.count refl ∙ ap length asked in
    let same : c.deref-3.result.now ≡ set = c.deref-3.ensures ∙ ap (λ (s : ClusterState). s.set) c.self.view_is in
    let seen : c.greatest_stamp-seen.result ≡ greatest_told old.told = c.greatest_stamp-seen.ensures.seen in
    let fit : AreFit set c.args.server (greatest_told old.told) requests given =
    subst (AreFit set c.args.server (greatest_told old.told) requests) (sym c.into_answers-given.ensures)
    (subst (λ (rs : List Request). AreFit set c.args.server (greatest_told old.told) rs c.in_ok-completion.completion.answers) asked
    (subst (λ (n : ℕ). AreFit set c.args.server n c.as_slice-4.result.now c.in_ok-completion.completion.answers) seen
    (subst (λ (x : Set). AreFit x c.args.server c.greatest_stamp-seen.result c.as_slice-4.result.now c.in_ok-completion.completion.answers) same
    (c.if-answers_all.ensures.fit refl)))) in
    run_answered set c.args.server old _ requests given c.args.answers.now.items c.note_all.new.answers.items c.requires.home many fit
    (same_session (record { number = c.session.inside.number; told = c.note_all.new.told.items }) (record old { told = old.told ++ told_by_all c.args.server requests given }) number
    (c.note_all.ensures.told ∙ ap (λ (ts : List ToldItem). ts ++ told_by_all c.args.server requests given) (c.in_ok-reserve.ensures.items ∙ told)))
    c.note_all.ensures.answers

pub returns-else-answers_all-clause-begins : goal.returns-else-answers_all-clause-begins
returns-else-answers_all-clause-begins g c =
    let old = c.args.session.now in
    let told : c.session.inside.told.items ≡ old.told = ap (λ (s : SessionState). s.told) c.session.view_is in
    let number : c.session.inside.number ≡ old.number = ap (λ (s : SessionState). s.number) c.session.view_is in
    run_unanswered c.args.self.now.set old _ c.args.requests.items true _ c.args.answers.now.items c.answer_none-else-answers_all.new.answers.items
    (same_session (record { number = c.session.inside.number; told = c.reserve.new.self.items }) old number (c.in_ok-reserve.ensures.items ∙ told))
    (omega (arith, c.len-else-answers_all.ensures, c.args.requests.ok)) c.answer_none-else-answers_all.ensures.answers
