use Rattle.std.proofs.Common.{◌+◌, ◌∙◌, Some, None, get_or, sym, ap, subst, arith}
use Rattle.std.proofs.lemmas.Option.{slice_get-get_or}
use Rattle.lynx_weave.specs.inner.Orders.{with_next}
use Rattle.lynx_weave.specs.Servers.{histories_of}
use Rattle.lynx_weave.proofs.Leasts.{IsLeastBelow, least_end, least_walk}
use Rattle.lynx_weave.proofs.order.least_next.Goals as goal

pub loop-number-preserved : goal.loop-number-preserved
loop-number-preserved c = record {
  least =
      let servers = c.args.servers.now in
      let places = c.args.places.now in
      let number = c.loop-number.number in
      let here = c.index-servers-number.result in
      subst (IsLeastBelow (histories_of servers) places (number + 1))
      (sym (c.with_next-least.ensures ∙ ap (with_next c.loop-number.least number) c.entry.ensures))
      (least_walk servers places number (get_or places number 0) here c.loop-number.least
      (slice_get-get_or servers number here (omega arith) ∙ ap Some (sym c.index-servers-number.is))
      (slice_get-get_or places number 0 (omega arith)) c.loop-number.invariant.least);
}

pub returns-in-Some : goal.returns-in-Some
returns-in-Some c =
    least_end c.args.servers.now c.args.places.now c.loop-number.number (Some (c.in-Some.field-0-0, c.in-Some.number)) (omega arith) (omega arith)
    (subst (IsLeastBelow (histories_of c.args.servers.now) c.args.places.now c.loop-number.number) c.in-Some.is c.loop-number.invariant.least)

pub returns-in-None : goal.returns-in-None
returns-in-None c =
    least_end c.args.servers.now c.args.places.now c.loop-number.number None (omega arith) (omega arith)
    (subst (IsLeastBelow (histories_of c.args.servers.now) c.args.places.now c.loop-number.number) c.in-None.is c.loop-number.invariant.least)
