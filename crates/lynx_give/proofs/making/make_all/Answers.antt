use Rattle.std.proofs.Common.{arith}
use Rattle.lynx_give.specs.Given.{IsMade, made_text}
use Rattle.lynx_give.proofs.Listed.{one_more, told_on}
use Rattle.lynx_give.proofs.making.make_all.Goals as goal

pub loop-number-preserved : goal.loop-number-preserved
loop-number-preserved g c =
    let is = c.loop-number.invariant in
    let Goes = IsMade {C = g.row.C.Denot} g.S.Stores.store_terms c.args.folder.now c.args.set.now in
    let store = c.in_ok-store.store in
    record {
      done = one_more Goes c.args.found.items c.loop-number.found.rest.items c.next.new.self.rest.items c.loop-number.number c.at.result c.in-Some.one store
          c.loop-number.made.items c.add.new.stores.items c.in-Some.ensures.items c.at.ensures c.in_ok-store.ensures.made c.in_ok-add.ensures is.done;
      lines = told_on Goes c.args.found.items c.loop-number.found.rest.items (made_text {C = g.row.C.Denot}) c.loop-number.number c.at.result store
          c.loop-number.made.items c.add.new.stores.items _ _ _ is.done c.at.ensures c.in_ok-add.ensures is.lines c.in_ok-store.ensures.told;
      count = is.count;
      within = omega (arith, c.loop-number-test.true);
    }
