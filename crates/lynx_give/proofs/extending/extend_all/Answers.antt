use Rattle.std.proofs.Common.{◌∙◌, sym, arith}
use Rattle.sqlite.specs.Held.{state}
use Rattle.lynx_give.proofs.Listed.{all_given, none_given, one_given}
use Rattle.lynx_give.proofs.extending.extend_all.Goals as goal

pub loop-number-preserved : goal.loop-number-preserved
loop-number-preserved g c =
    let is = c.loop-number.invariant in
    record {
      below = one_given (λ conn. state g.D.Store conn) c.args.set.now c.args.stores.items c.loop-number.stores.rest.items c.next.new.self.rest.items c.loop-number.number c.at.result
          c.in-Some.store c.in_ok-one.one c.loop-number.given.items c.add.new.stores.items _ _ _ c.in-Some.ensures.items c.at.ensures c.in_ok-add.ensures c.in_ok-one.ensures is.below;
      count = is.count;
      within = omega (arith, c.loop-number-test.true);
    }

pub loop-number-init : goal.loop-number-init
loop-number-init g c = record {
  below = none_given (λ conn. state g.D.Store conn) c.args.set.now c.args.stores.items _ _ (g.W.Write.contents c.args.writer.now) c.into_iter-stores.ensures.rest c.new-given.ensures.items;
  count = c.servers-count.ensures.value ∙ sym c.requires;
  within = omega arith;
}

pub returns : goal.returns
returns g c =
    let is = c.loop-number.invariant in
    let test = c.loop-number-test.false in
    let within = is.within in
    let count = is.count in
    all_given (λ conn. state g.D.Store conn) c.args.set.now c.args.stores.items c.loop-number.stores.rest.items c.loop-number.number c.loop-number.given.items _ _
    (omega (arith, test, within, count)) is.below
