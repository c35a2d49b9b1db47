use Rattle.std.proofs.Common.{◌≡◌, slice_get, Some, sym, subst}
use Rattle.lynx_cluster.specs.Starting.{AreOpened}
use Rattle.lynx_weave.specs.Cuts.{fronts}
use Rattle.lynx_weave.specs.Servers.{histories_of}
use Rattle.lynx_restore.specs.Restored.{AreStored, restored_of, undone_of}
use Rattle.lynx_restore.proofs.restoring.restore.Goals as goal

pub store_all-requires-clause-within : goal.store_all-requires-clause-within
store_all-requires-clause-within g c = λ server count history counted there.
    c.in_ok-counts.ensures.fit.within server count history (subst (λ l. slice_get l server ≡ Some count) c.as_slice-2.ensures.value counted) there

pub returns : goal.returns
returns g c =
    let set = c.args.set.now in
    let servers = c.servers-servers.result.now in
    record {
      servers = servers;
      opened = subst (AreOpened g.K.Keeper.terms set c.args.copies.items) (sym c.servers-servers.ensures) c.in_ok-opened.ensures.opened;
      counts = c.in_ok-counts.counts.items;
      cut = c.in_ok-counts.ensures;
      stored = subst (λ l. AreStored g.L.Keeper.terms g.S.Stores.store_terms c.args.folder.now set (fronts l (histories_of servers))) c.as_slice-2.ensures.value c.in_ok-store_all.ensures;
      told = subst (λ l. c.in_ok-restored.restored.servers.items ≡ restored_of l servers) c.as_slice.ensures.value c.in_ok-restored.ensures.servers;
      undone = subst (λ l. c.in_ok-restored.restored.undone.items ≡ undone_of l servers) c.as_slice.ensures.value c.in_ok-restored.ensures.undone;
    }
