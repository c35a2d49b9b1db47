use Rattle.std.proofs.Common.{◌≤◌, subst}
use Rattle.std.specs.Prelude.{IfOk}
use Rattle.lynx_names.specs.declared.limits.TheConstants.{MAX_SERVERS}
use Rattle.lynx_set.specs.Set.{Set}
use Rattle.lynx_order.specs.Explained.{CycleIsRight}
use Rattle.lynx_order.proofs.Judged.{accepted_given}
use Rattle.lynx_order.proofs.explaining.explain.Goals as goal

pub returns-clause-accepted : goal.returns-clause-accepted
returns-clause-accepted c =
    let few : c.args.world.now.set.servers ≤ MAX_SERVERS =
    subst (λ (set : Set). set.servers ≤ MAX_SERVERS) c.set-set.ensures.value (subst (λ n. n ≤ MAX_SERVERS) c.servers.ensures.value c.servers.ensures.few) in
    accepted_given c.args.world.now.set c.args.world.now.list c.explain_list.result few c.set-set.ensures.legal
    (subst (λ set. IfOk c.explain_list.result (λ explained. CycleIsRight set c.args.world.now.list explained)) c.set-set.ensures.value c.explain_list.ensures.cycle)
