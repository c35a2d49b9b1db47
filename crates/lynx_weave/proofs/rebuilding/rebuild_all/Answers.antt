use Rattle.std.proofs.Common.{◌+◌, ◌∙◌, Err, sym, subst, arith}
use Rattle.lynx_server.specs.Rebuilding.{IsRebuilt}
use Rattle.lynx_weave.specs.Rebuilt.{histories_in}
use Rattle.lynx_weave.specs.inner.Rebuilt.{RebuildsOne}
use Rattle.lynx_weave.proofs.Rebuildings.{AreRebuiltBelow, first_behind, history_at, rebuild_fault, rebuilt_more}
use Rattle.lynx_weave.proofs.rebuilding.rebuild_all.Goals as goal

pub returns-in-Err : goal.returns-in-Err
returns-in-Err c =
    let number = c.loop-number.number in
    let first = first_behind c.args.histories.items c.next.new.self.rest.items number c.in-Some.entries
    (sym c.loop-number.invariant.rest ∙ c.in-Some.ensures.items) in
    record {
      servers = tt;
      fault = rebuild_fault c.args.set.now (histories_in c.args.histories.items) number c.in-Some.entries.items c.in-Err.fault
          (history_at c.args.histories.items number c.in-Some.entries first.0)
          (subst (λ n. RebuildsOne c.args.set.now n c.in-Some.entries.items (Err c.in-Err.fault)) c.at.ensures c.in-Err.ensures);
    }

pub loop-number-preserved : goal.loop-number-preserved
loop-number-preserved c =
    let set = c.args.set.now in
    let number = c.loop-number.number in
    let first = first_behind c.args.histories.items c.next.new.self.rest.items number c.in-Some.entries
    (sym c.loop-number.invariant.rest ∙ c.in-Some.ensures.items) in
    record {
      rebuilt = subst (AreRebuiltBelow set (histories_in c.args.histories.items) (number + 1)) (sym c.in_ok-add-in-Ok.ensures)
          (rebuilt_more set (histories_in c.args.histories.items) number c.loop-number.servers.items c.in-Some.entries.items c.in-Ok.rebuilt
          (history_at c.args.histories.items number c.in-Some.entries first.0)
          (subst (λ n. IsRebuilt set n c.in-Some.entries.items c.in-Ok.rebuilt) c.at.ensures c.in-Ok.ensures)
          c.loop-number.invariant.rebuilt);
      rest = sym first.1;
      count = c.loop-number.invariant.count;
      within = omega (arith, c.loop-number-test.true);
    }
