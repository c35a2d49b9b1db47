use Rattle.std.proofs.Common.{◌∙◌, ◌++◌, ◌∷◌, [], Some, append_assoc, ap, arith, inl, inr, not, refl, subst, sym}
use Rattle.std.specs.Prelude.{unwrap_or}
use Rattle.lynx_link.specs.declared.parcel.Parcel.TheVariants.{Message}
use Rattle.lynx_worker.specs.Sending.{SendsTo}
use Rattle.std.proofs.lemmas.Bool.{le-ltb, lt-ltb}
use Rattle.lynx_worker.proofs.Advancing.{behind_more}
use Rattle.lynx_worker.proofs.CatchingUp.{before_more, empty, is_mine, is_others, more_behind, none_behind, not_sent, others_by, reached_it, sent_more}
use Rattle.lynx_worker.proofs.route.Route.catch_up.Goals as goal

pub returns-then-due-reached-clause-goes : goal.returns-then-due-reached-clause-goes
returns-then-due-reached-clause-goes g c =
    let (lag, to, all, next, others, went, split, u, v) = c.loop-due.invariant in
    reached_it c.args.self.now.to c.args.reached c.args.owed c.args.ends.now c.args.self.now.lags_at c.in-Some.next (sym c.take.ensures.value ∙ c.in-Some.is)
    c.loop-due.yielded c.loop-due.due-iterator.rest.items split all c.loop-due.ends others went c.in-Some-due.due c.next.new.self.rest.items c.in-Some-due.ensures.steps.0
    (le-ltb c.in-Some-due.due.place c.args.reached c.if-due-reached.true) c.loop-due.self.lags_at lag

pub loop-due-preserved-then-ne : goal.loop-due-preserved-then-ne
loop-due-preserved-then-ne g c =
    let (lag, to, all, next, others, went, split, u, v) = c.loop-due.invariant in (
      lag,
      to,
      before_more c.args.reached c.loop-due.yielded c.in-Some-due.due all (lt-ltb c.in-Some-due.due.place c.args.reached c.if-due-reached.false),
      c.saturating_add-next.ensures ∙ sym (behind_more c.in-Some.next c.loop-due.yielded c.in-Some-due.due),
      others,
      others_by c.args.self.now.to c.loop-due.yielded c.in-Some-due.due c.args.ends.now c.loop-due.ends
          (is_others c.args.self.now.to c.loop-due.self.to c.in-Some-due.due.to (sym c.if-ne.ensures) to) went,
      split ∙ ap (λ l. c.loop-due.yielded ++ l) c.in-Some-due.ensures.steps.0 ∙ sym (append_assoc c.loop-due.yielded (c.in-Some-due.due ∷ []) c.next.new.self.rest.items),
      tt,
      tt,
    )

pub returns-then-not-send-clause-goes : goal.returns-then-not-send-clause-goes
returns-then-not-send-clause-goes g c =
    let (lag, to, all, next, others, went, split, u, v) = c.loop-due.invariant in
    not_sent c.args.self.now.to c.args.reached c.args.owed c.args.ends.now c.args.self.now.lags_at c.in-Some.next (sym c.take.ensures.value ∙ c.in-Some.is)
    c.loop-due.yielded c.loop-due.due-iterator.rest.items split all c.loop-due.ends others went c.in-Some-due.due c.next.new.self.rest.items c.send.new.ends
    c.in-Some-due.ensures.steps.0 (lt-ltb c.in-Some-due.due.place c.args.reached c.if-due-reached.false)
    (is_mine c.args.self.now.to c.loop-due.self.to c.in-Some-due.due.to (sym c.if-ne.ensures) to) c.if-not-send.ensures.sent c.send.new.self.lags_at
    (c.if-not-send.ensures.lags ∙ ap (λ l. Some (unwrap_or l c.in-Some-due.due.place)) lag)

pub loop-due-preserved : goal.loop-due-preserved
loop-due-preserved g c =
    let (lag, to, all, next, others, went, split, u, v) = c.loop-due.invariant in
    let (apart, more) = sent_more c.args.self.now.to c.loop-due.yielded c.in-Some-due.due c.args.ends.now c.loop-due.ends c.send.new.ends
    (is_mine c.args.self.now.to c.loop-due.self.to c.in-Some-due.due.to (sym c.if-ne.ensures) to)
    (subst (λ own. SendsTo c.loop-due.ends own (Message c.in-Some-due.due.message) c.send.new.ends) to c.if-not-send.ensures.sent) others went in (
      c.if-not-send.ensures.lags.1,
      c.send.ensures.to ∙ to,
      before_more c.args.reached c.loop-due.yielded c.in-Some-due.due all (lt-ltb c.in-Some-due.due.place c.args.reached c.if-due-reached.false),
      c.saturating_add-next.ensures ∙ sym (behind_more c.in-Some.next c.loop-due.yielded c.in-Some-due.due),
      apart,
      more,
      split ∙ ap (λ l. c.loop-due.yielded ++ l) c.in-Some-due.ensures.steps.0 ∙ sym (append_assoc c.loop-due.yielded (c.in-Some-due.due ∷ []) c.next.new.self.rest.items),
      tt,
      tt,
    )

pub returns-then-next-reached-clause-goes : goal.returns-then-next-reached-clause-goes
returns-then-next-reached-clause-goes g c =
    let (lag, to, all, next, others, went, split, u, v) = c.loop-due.invariant in
    more_behind c.args.self.now.to c.args.reached c.args.owed c.args.ends.now c.args.self.now.lags_at c.in-Some.next (sym c.take.ensures.value ∙ c.in-Some.is)
    c.loop-due.yielded c.loop-due.due-iterator.rest.items split all c.loop-due.ends others went
    (empty c.loop-due.due-iterator.rest.items (omega (arith, c.loop-due.due-iterator.rest.ok, c.in-None.ensures.steps.0))) c.loop-due.next (ap not c.if-is_none.ensures)
    (lt-ltb c.loop-due.next c.args.reached c.if-next-reached.true) next (Some c.loop-due.next) refl

pub returns-else-is_none-clause-goes : goal.returns-else-is_none-clause-goes
returns-else-is_none-clause-goes g c =
    let (lag, to, all, next, others, went, split, u, v) = c.loop-due.invariant in
    none_behind c.args.self.now.to c.args.reached c.args.owed c.args.ends.now c.args.self.now.lags_at c.in-Some.next (sym c.take.ensures.value ∙ c.in-Some.is)
    c.loop-due.yielded c.loop-due.due-iterator.rest.items split all c.loop-due.ends others went
    (empty c.loop-due.due-iterator.rest.items (omega (arith, c.loop-due.due-iterator.rest.ok, c.in-None.ensures.steps.0))) c.loop-due.next next
    (elim c.else-is_none.either [
      | inl w ↦ inl (le-ltb c.loop-due.next c.args.reached w.1)
      | inr w ↦ inr (ap not (c.is_none.ensures ∙ ap not w))
    ]) c.loop-due.self.lags_at lag
