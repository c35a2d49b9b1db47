use Rattle.std.proofs.Common.{◌≡◌, ◌∙◌, ◌<◌, ◌+◌, [], ◌∷◌, ◌++◌, sym, ap, arith, drop, length}
use Rattle.lynx_worker.proofs.Tellings.{told, stayed}
use Rattle.lynx_worker.proofs.telling.tell.Goals as goal
use Rattle.lynx_worker.proofs.telling.tell.Goals.{then-offer, else-offer}

pub loop-preserved : goal.loop-preserved
loop-preserved g c =
    let (stay, items, tells) = c.loop.invariant in
    let within : c.loop.counter < length c.args.untold.now.items = omega (arith, c.loop-test.true, c.len-end.ensures, c.args.untold.now.ok) in
    let is : c.in-Some.acknowledgement ∷ c.pop_front.new.self.items ≡ drop c.loop.counter c.args.untold.now.items ++ stay = sym c.in-Some.ensures.items ∙ items in
    elim c.if-offer.branch [
      | then-offer w ↦ let (a, b) = told c.args.untold.now.items c.loop.counter (c.loop.counter + 1) stay c.in-Some.acknowledgement c.pop_front.new.self.items c.args.ends.now c.loop.ends
          c.offer.new.ends c.if-offer.untold.items (omega arith) within is tells w.if-offer.ensures (ap (λ q. q.items) w.untold-is) in (stay, a, b)
      | else-offer w ↦ let (a, b) = stayed c.args.untold.now.items c.loop.counter (c.loop.counter + 1) stay c.in-Some.acknowledgement c.pop_front.new.self.items c.args.ends.now c.loop.ends
          c.offer.new.ends c.if-offer.untold.items (omega arith) within is tells w.if-offer.ensures (ap (λ q. q.items) w.untold-is ∙ w.push_back_reserved.ensures.items) in (stay ++ c.in-Some.acknowledgement ∷ [], a, b)
    ]
