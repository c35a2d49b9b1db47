use Rattle.std.proofs.Common.{◌≡◌, ◌+◌, ◌∙◌, ◌++◌, ◌∷◌, [], ℕ, Some, List, ap, arith, length, max, refl, subst, sym, take}
use Rattle.std.proofs.lemmas.List.{length-take-le, take_all}
use Rattle.std.proofs.lemmas.Option.{slice_get-get_or}
use Rattle.lynx_keep.specs.HeldBack.{held_terms}
use Rattle.lynx_resting.specs.Resting.{RestingState}
use Rattle.lynx_entry.specs.declared.answer.Answer.{Answer}
use Rattle.lynx_entry.specs.declared.request.Request.{Request}
use Rattle.lynx_set.specs.Set.{Set}
use Rattle.lynx_weave.specs.Told.{stamp_answered}
use Rattle.lynx_weave.proofs.Gets.{take_next}
use Rattle.lynx_cluster.specs.Answers.{FitsRequest}
use Rattle.lynx_cluster.specs.inner.Submitting.{AreFit, IsFit, seen_after}
use Rattle.lynx_cluster.proofs.Sames.{asked_same}
use Rattle.lynx_cluster.proofs.Submissions.{fit_next, seen_next}
use Rattle.lynx_cluster.proofs.submission.begin_all.Goals as goal

pub loop-request-init : goal.loop-request-init
loop-request-init g c = record {
  fit = subst (AreFit c.args.state.now.here.set c.args.state.now.here.server c.args.seen []) (sym c.requires.none) tt;
  count = ap length c.requires.none;
  seen = ap (seen_after c.args.seen) (sym c.requires.none);
  capacity = refl;
  set = refl;
  server = refl;
  settled = refl;
}

pub push_reserved-requires : goal.push_reserved-requires
push_reserved-requires g c =
    omega (arith, c.loop-request.invariant.count, c.loop-request.invariant.capacity, c.requires.room, c.loop-request-test.true, c.loop-request.auto.request-index-end)

pub loop-request-preserved : goal.loop-request-preserved
loop-request-preserved g c =
    let was = c.loop-request.invariant in
    let set = c.args.state.now.here.set in
    let server = c.args.state.now.here.server in
    let index = c.loop-request.request-index in
    let request = c.request-item.result in
    let answer = c.begin_at-answer.result in
    let before = c.loop-request.answers.items in
    let asked = c.begin_at-answer.ensures in
    let pushed = c.push_reserved.ensures.items in
    let within = c.loop-request-test.true in
    let upto = c.loop-request.auto.request-index-end in
    let more : take (index + 1) c.args.requests.now ≡ take index c.args.requests.now ++ request ∷ [] =
    take_next c.args.requests.now index request
    (slice_get-get_or c.args.requests.now index request (omega (arith, within, upto)) ∙ ap Some (sym c.request-item.is)) in
    let long : length before ≡ length (take index c.args.requests.now) =
    was.count ∙ sym (length-take-le index c.args.requests.now (omega (arith, within, upto))) in
    let one : IsFit set server (seen_after c.args.seen before) request answer = record {
      above = subst (λ (seen : ℕ). Rattle.lynx_cluster.specs.Answers.IsAbove seen answer) was.seen asked.above;
      fits = subst (λ (s : ℕ). FitsRequest set s request answer) was.server (subst (λ (s : Set). FitsRequest s c.loop-request.state.here.server request answer) was.set asked.fits);
      range = asked.range;
    } in
    let same = asked_same (held_terms g.K.Keeper.terms) c.loop-request.state.here request c.loop-request.seen answer c.begin_at-answer.new.state.here
    (λ stops. ap (λ (r : RestingState g.row.K.Denot). r.here) (asked.stopped stops).0) asked.begins in
    record {
      fit = subst (λ (rs : List Request). AreFit set server c.args.seen rs c.push_reserved.new.self.items) (sym more)
          (subst (AreFit set server c.args.seen (take index c.args.requests.now ++ request ∷ [])) (sym pushed)
          (fit_next set server c.args.seen (take index c.args.requests.now) before request answer long was.fit one));
      count = omega (arith, was.count, ap length pushed, Rattle.std.proofs.Common.length-append before (answer ∷ []));
      seen = c.later-seen.ensures ∙ ap (max c.loop-request.seen) c.stamp_of.ensures ∙ ap (λ (n : ℕ). max n (stamp_answered answer)) was.seen
          ∙ sym (seen_next c.args.seen before answer) ∙ ap (seen_after c.args.seen) (sym pushed);
      capacity = c.push_reserved.ensures.capacity ∙ was.capacity;
      set = same.0 ∙ was.set;
      server = same.1 ∙ was.server;
      settled = asked.settled ∙ was.settled;
    }

pub returns-clause-fit : goal.returns-clause-fit
returns-clause-fit g c =
    subst (λ (rs : List Request). AreFit c.args.state.now.here.set c.args.state.now.here.server c.args.seen rs c.loop-request.answers.items)
    (take_all c.loop-request.request-index c.args.requests.now (omega (arith, c.loop-request-test.false, c.loop-request.auto.request-index-end))) c.loop-request.invariant.fit
