use Rattle.std.proofs.Common.{◌∙◌, Err, map, length, sym, ap, subst, arith}
use Rattle.std.specs.Prelude.{All}
use Rattle.std.specs.List.{range_with_len}
use Rattle.lynx_world.specs.Servers.{held_of, list_of}
use Rattle.lynx_weave.specs.inner.Judging.{AreAllWellTold, JudgesAll}
use Rattle.lynx_weave.specs.inner.Orders.{IsOrderOf}
use Rattle.lynx_weave.specs.Rebuilt.{told_in}
use Rattle.lynx_weave.specs.Servers.{AreServersOf, histories_of}
use Rattle.lynx_weave.specs.Since.{IsFreshByOld, WeavesSince, counts_at}
use Rattle.lynx_weave.specs.Weaving.{IsWoven, all_told}
use Rattle.lynx_weave.proofs.Counting.{fresh_fits}
use Rattle.lynx_weave.proofs.Servings.{servers_of}
use Rattle.lynx_weave.proofs.Weavings.{judged_fault, none_old, woven}
use Rattle.lynx_weave.proofs.weaving.weave_since.Goals as goal

pub check_senders-requires : goal.check_senders-requires
check_senders-requires c =
    subst (AreServersOf c.args.set.now) (sym c.as_slice-lent.ensures.value)
    (servers_of c.args.set.now c.in_ok-servers.servers.items c.in_ok-servers.ensures.servers.0)

pub returns-in-Err : goal.returns-in-Err
returns-in-Err c =
    let servers = c.in_ok-servers.servers.items in
    let starts = c.args.starts.now in
    let told = told_in c.args.told.now in
    let rebuilt = c.in_ok-servers.ensures.servers in
    subst (λ h. WeavesSince c.args.set.now h starts told (Err c.in-Err.fault)) rebuilt.1
    (judged_fault c.args.set.now servers c.in_ok-order.order.items starts told c.in-Err.fault rebuilt.0
    (subst (λ s. IsOrderOf c.args.set.now s c.in_ok-order.order.items) c.as_slice-lent.ensures.value c.in_ok-order.ensures)
    (subst (λ s. JudgesAll (histories_of s) starts told (Err c.in-Err.fault)) c.as_slice-lent.ensures.value c.in-Err.ensures))

pub counts_of-requires-clause-few : goal.counts_of-requires-clause-few
counts_of-requires-clause-few c server below =
    let few = fresh_fits c.args.set.now c.in_ok-servers.servers.items c.args.starts.now (told_in c.args.told.now) c.in_ok-servers.ensures.servers.0
    (subst (λ s. AreAllWellTold (histories_of s) c.args.starts.now (told_in c.args.told.now)) c.as_slice-lent.ensures.value c.in_default.ensures) server in
    omega arith

pub returns : goal.returns
returns c =
    let set = c.args.set.now in
    let servers = c.in_ok-servers.servers.items in
    let order = c.in_ok-order.order.items in
    let starts = c.args.starts.now in
    let told = told_in c.args.told.now in
    let rebuilt = c.in_ok-servers.ensures.servers in
    let well = subst (λ s. AreAllWellTold (histories_of s) starts told) c.as_slice-lent.ensures.value c.in_default.ensures in
    let world = woven set servers order starts told rebuilt.0
    (subst (λ s. IsOrderOf set s order) c.as_slice-lent.ensures.value c.in_ok-order.ensures) well in
    record {
      world_is = subst (IsWoven set _ told)
          (sym (c.over-world.ensures ∙ ap (λ s. record { set = s; list = list_of servers order; held = held_of servers }) c.in_ok-set.ensures))
          (subst (λ h. IsWoven set h told (record { set = set; list = list_of servers order; held = held_of servers })) rebuilt.1 world);
      none_old = subst (λ h. All (All (λ item. IsFreshByOld h starts item → ⊥)) told) rebuilt.1 (none_old (histories_of servers) starts told well);
      counts_are =
          c.in_ok-counts.ensures
          ∙ ap (λ s. map (counts_at (histories_of s) starts (all_told told)) (range_with_len 0 (length s))) c.as_slice-lent.ensures.value
          ∙ ap (λ n. map (counts_at (histories_of servers) starts (all_told told)) (range_with_len 0 n)) rebuilt.0.many
          ∙ ap (λ h. map (counts_at h starts (all_told told)) (range_with_len 0 set.servers)) rebuilt.1;
    }
