use Rattle.std.proofs.Common.{◌≡◌, ◌∙◌, ◌++◌, ◌∷◌, [], append_assoc, ap, arith, length, refl, sym, ◌<◌}
use Rattle.lynx_worker.proofs.Advancing.{count_more, sends_counted, sends_next, sends_no_due}
use Rattle.lynx_worker.proofs.route.Flight.offer_again.Goals as goal

pub loop-due-init : goal.loop-due-init
loop-due-init c = (sends_no_due c.args.ends.now, refl, sym c.into_iter-due-iterator.ensures.into_iter_gives.0, tt, tt)

pub returns-then-not-send_due : goal.returns-then-not-send_due
returns-then-not-send_due c =
    let (sends, counted, split, u, v) = c.loop-due.invariant in
    sends_counted c.args.dues.items c.loop-due.yielded c.loop-due.due-iterator.rest.items c.loop-due.count c.args.ends.now c.send_due.new.ends split counted
    (λ server. c.if-not-send_due.ensures server ∙ sends server)

pub loop-due-preserved : goal.loop-due-preserved
loop-due-preserved c =
    let (sends, counted, split, u, v) = c.loop-due.invariant in
    let all : c.args.dues.items ≡ (c.loop-due.yielded ++ c.in-Some.due ∷ []) ++ c.next.new.self.rest.items =
    split ∙ ap (λ l. c.loop-due.yielded ++ l) c.in-Some.ensures.steps.0 ∙ sym (append_assoc c.loop-due.yielded (c.in-Some.due ∷ []) c.next.new.self.rest.items) in
    let small : length c.args.dues.items < 18446744073709551616 =
    omega (arith, c.args.dues.ok, c.into_iter-due-iterator.ensures.into_iter_gives.1, c.into_iter-due-iterator.ensures.into_iter_gives.2) in (
      sends_next c.loop-due.yielded c.in-Some.due c.args.ends.now c.loop-due.ends c.send_due.new.ends sends c.if-not-send_due.ensures,
      count_more c.args.dues.items c.loop-due.yielded c.next.new.self.rest.items c.in-Some.due c.loop-due.count c.saturating_add-count.result all small counted
          c.saturating_add-count.ensures,
      all,
      tt,
      tt,
    )

pub returns : goal.returns
returns c =
    let (sends, counted, split, u, v) = c.loop-due.invariant in
    sends_counted c.args.dues.items c.loop-due.yielded c.loop-due.due-iterator.rest.items c.loop-due.count c.args.ends.now c.loop-due.ends split counted sends
