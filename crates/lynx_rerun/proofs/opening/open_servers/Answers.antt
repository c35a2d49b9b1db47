use Rattle.std.proofs.Common.{◌≡◌, ◌∙◌, subst, sym, arith}
use Rattle.lynx_rerun.proofs.Opened.{AreOpenedBelow, all_opened, opened_more, opened_none}
use Rattle.lynx_rerun.proofs.opening.open_servers.Goals as goal

pub loop-number-init : goal.loop-number-init
loop-number-init g c =
    let terms = g.K.Keeper.terms in
    let all = c.args.keepers.items in
    record {
      below = subst (AreOpenedBelow terms c.args.set.now all c.into_iter-keepers.result.rest.items 0) (sym c.new-servers.ensures.items)
          (opened_none terms c.args.set.now all c.into_iter-keepers.result.rest.items c.into_iter-keepers.ensures.rest);
      count = c.servers-number-end.ensures.value ∙ sym c.requires;
    }

pub loop-number-preserved : goal.loop-number-preserved
loop-number-preserved g c =
    let is = c.loop-number.invariant in
    record {
      below = opened_more g.K.Keeper.terms c.args.set.now c.args.keepers.items c.loop-number.keepers.rest.items c.next.new.self.rest.items c.loop-number.number c.at.result
          c.loop-number.servers.items c.add.new.servers.items c.in-Some.keeper _ c.in-Some.ensures.items c.at.ensures c.in_ok-opened.ensures c.in_ok-add.ensures is.below;
      count = is.count;
    }

pub returns : goal.returns
returns g c =
    let all : c.loop-number.number ≡ c.args.set.now.servers = omega (arith, c.loop-number-test.false, c.loop-number.auto.number-end, c.servers-number-end.ensures.value) in
    all_opened g.K.Keeper.terms c.args.set.now c.args.keepers.items c.loop-number.keepers.rest.items c.loop-number.number c.loop-number.servers.items all c.loop-number.invariant.below
