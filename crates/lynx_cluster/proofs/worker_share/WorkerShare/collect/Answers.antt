use Rattle.std.proofs.Common.{◌≡◌, ℕ, ◌+◌, List, Option, length, sym, ap, subst, arith}
use Rattle.lynx_entry.specs.declared.message.Message.{Message}
use Rattle.lynx_entry.specs.Entry.{History}
use Rattle.lynx_server.specs.Owed.{IsFirstOwed}
use Rattle.lynx_resting.specs.Resting.{settled_part}
use Rattle.lynx_set.specs.Set.{Set}
use Rattle.lynx_worker.specs.declared.steps.Due.{Due}
use Rattle.lynx_cluster.specs.inner.Serving.{AreOwedBetween, IsDueOf}
use Rattle.lynx_cluster.proofs.Owings.{due_more, owed_end, owed_few, owed_within}
use Rattle.lynx_cluster.proofs.worker_share.WorkerShare.collect.Goals as goal

pub returns-in_default-found : goal.returns-in_default-found
returns-in_default-found g c =
    let state = settled_part c.args.state.now in
    let first = subst (λ (found : Option (ℕ × Message)). IsFirstOwed state c.loop.next found) c.in_default-found.is c.in-Ok.ensures in
    let all = ap (λ (history : History). length history) c.settled.ensures.value in
    record {
      owed = (
        all,
        subst (λ (n : ℕ). AreOwedBetween state c.args.from c.loop.dues.items n) (sym all)
            (owed_end state c.args.from c.loop.dues.items c.loop.next (length state.history) c.loop.invariant.owed c.loop.invariant.within first),
      );
    }

pub loop-preserved : goal.loop-preserved
loop-preserved g c =
    let state = settled_part c.args.state.now in
    let place = c.in-Some.place in
    let first = subst (λ (found : Option (ℕ × Message)). IsFirstOwed state c.loop.next found) c.in-Some.is c.in-Ok.ensures in
    let within = owed_within state place c.in-Some.message first.1 in
    let few = owed_few state place c.in-Some.message c.settled.ensures.lawful first.1 in
    let next : c.saturating_add-next.result ≡ place + 1 = let saturated = c.saturating_add-next.ensures in omega (arith, saturated, few) in
    record {
      owed = subst (λ (n : ℕ). AreOwedBetween state c.args.from c.add.new.dues.items n) (sym next)
          (subst (λ (dues : List Due). AreOwedBetween state c.args.from dues (place + 1)) (sym c.in_ok-add.ensures.some)
          (due_more state c.args.from c.loop.dues.items c.loop.next place c.in-Some.message c.in_ok-due.due c.loop.invariant.owed first.0 first.2 first.1
          (subst (λ (set : Set). IsDueOf set place c.in-Some.message c.in_ok-due.due) (sym c.requires.set) c.in_ok-due.ensures.due)));
      within = omega (arith, next, within);
    }
