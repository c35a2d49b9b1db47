use Rattle.std.proofs.Common.{Err, Ok, ◌+◌, ◌∙◌, sym, subst, arith}
use Rattle.lynx_server.specs.Opening.{Opens}
use Rattle.lynx_weave.proofs.Rebuildings.{first_behind}
use Rattle.lynx_cluster.specs.inner.Opening.{OpensOne}
use Rattle.lynx_cluster.proofs.Openings.{AreOpenedBelow, open_fault, opened_more}
use Rattle.lynx_cluster.proofs.opening.open_all.Goals as goal

pub returns-in-Err-clause-fault : goal.returns-in-Err-clause-fault
returns-in-Err-clause-fault g c =
    let number = c.loop-number.number in
    let first = first_behind c.args.keepers.items c.next.new.self.rest.items number c.in-Some.keeper
    (sym c.loop-number.invariant.rest ∙ c.in-Some.ensures.items) in
    open_fault g.K.Keeper.terms c.args.set.now c.args.keepers.items number c.in-Some.keeper c.in-Err.fault first.0
    (subst (λ n. OpensOne g.K.Keeper.terms c.args.set.now n c.in-Some.keeper (Err c.in-Err.fault)) c.at.ensures c.in-Err.ensures)

pub loop-number-preserved : goal.loop-number-preserved
loop-number-preserved g c =
    let set = c.args.set.now in
    let keepers = c.args.keepers.items in
    let number = c.loop-number.number in
    let first = first_behind c.args.keepers.items c.next.new.self.rest.items number c.in-Some.keeper
    (sym c.loop-number.invariant.rest ∙ c.in-Some.ensures.items) in
    record {
      opened = subst (AreOpenedBelow g.K.Keeper.terms set keepers (number + 1)) (sym c.in_ok-add-in-Ok.ensures)
          (opened_more g.K.Keeper.terms set keepers number c.loop-number.servers.items c.in-Some.keeper c.in-Ok.opened first.0
          (subst (λ n. Opens g.K.Keeper.terms set n c.in-Some.keeper (Ok c.in-Ok.opened)) c.at.ensures c.in-Ok.ensures)
          c.loop-number.invariant.opened);
      rest = sym first.1;
      count = c.loop-number.invariant.count;
      within = omega (arith, c.loop-number-test.true);
    }
