use Rattle.std.proofs.Common.{◌≡◌, ◌∙◌, List, ℕ, ap, subst, sym}
use Rattle.std.proofs.lemmas.Bool.{eqb-true}
use Rattle.lynx_entry.specs.declared.answer.Answer.{Answer}
use Rattle.lynx_entry.specs.declared.request.Request.{Request}
use Rattle.lynx_set.specs.Set.{Set}
use Rattle.lynx_cluster.specs.inner.Submitting.{AreFit, Submitted}
use Rattle.lynx_cluster.proofs.Submissions.{not_false, same_requests}
use Rattle.lynx_cluster.proofs.submission.Completion.answers_all.Goals as goal

pub returns-clause-fit : goal.returns-clause-fit
returns-clause-fit c is_true =
    let inside = c.self.inside in
    let set : inside.set.value ≡ c.args.set.now = sym c.deref.ensures ∙ c.is_same.ensures.0 is_true in
    let server : inside.server ≡ c.args.server = eqb-true _ _ (not_false _ c.if-ne.ensures) in
    let seen : inside.seen ≡ c.args.seen = eqb-true _ _ (not_false _ c.if-ne-2.ensures) in
    let requests : inside.requests.items ≡ c.args.requests.now = sym c.as_slice.ensures.value ∙ same_requests _ _ (not_false _ c.if-ne-3.ensures) in
    subst (AreFit c.args.set.now c.args.server c.args.seen c.args.requests.now) (ap (λ (s : Submitted). s.answers) c.self.view_is)
    (subst (λ (rs : List Request). AreFit c.args.set.now c.args.server c.args.seen rs inside.answers.items) requests
    (subst (λ (n : ℕ). AreFit c.args.set.now c.args.server n inside.requests.items inside.answers.items) seen
    (subst (λ (n : ℕ). AreFit c.args.set.now n inside.seen inside.requests.items inside.answers.items) server
    (subst (λ (s : Set). AreFit s inside.server inside.seen inside.requests.items inside.answers.items) set c.self.invariant))))
