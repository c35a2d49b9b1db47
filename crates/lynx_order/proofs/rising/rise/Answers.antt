use Rattle.std.proofs.Common.{◌+◌, slice_get, refl, ap, ◌∙◌, length, arith}
use Rattle.std.proofs.lemmas.Option.{slice_get_read, slice_get_within}
use Rattle.lynx_order.proofs.Certificates.{counted_first, counted_more, get_next, rise_first, rise_more}
use Rattle.lynx_order.proofs.rising.rise.Goals as goal

pub loop-touch-init : goal.loop-touch-init
loop-touch-init c = record {
  counted = counted_first c.args.ranks.now c.args.touches.now c.first-sweep.result c.in-Some.first.now (ap (λ l. slice_get l 0) c.in-Some.ensures.cases.0) c.first-sweep.ensures.own;
  kept = rise_first c.args.ranks.now c.args.touches.now;
}

pub loop-touch-preserved : goal.loop-touch-preserved
loop-touch-preserved c =
    let i = c.loop-touch.touch-index in
    let rest = c.in-Some.rest.now in
    let there = ap (λ l. slice_get l (i + 1)) c.in-Some.ensures.cases.0
    ∙ get_next c.in-Some.first.now rest i c.touch-item.result (slice_get_read rest (length rest) i c.touch-item.result refl c.loop-touch-test.true c.touch-item.is) in
    record {
      counted = counted_more c.args.ranks.now c.args.touches.now i c.loop-touch.sweep c.in-Some-next.next c.touch-item.result there c.in-Some-next.ensures c.loop-touch.invariant.counted;
      kept = rise_more c.args.ranks.now c.args.touches.now i c.loop-touch.sweep c.in-Some-next.next c.touch-item.result there c.in-Some-next.ensures c.loop-touch.invariant.counted
          c.loop-touch.invariant.kept;
    }

pub returns : goal.returns
returns c = λ yes place later one other less at too.
    let inside = slice_get_within c.args.touches.now later other too in
    let whole = c.in-Some.ensures.cases.1 in
    c.loop-touch.invariant.kept place later one other less (omega arith) at too
