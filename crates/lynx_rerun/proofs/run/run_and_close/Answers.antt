use Rattle.std.proofs.Common.{◌∙◌, ap, length, subst, sym}
use Rattle.lynx_store_files.specs.Closed.{AreClosed}
use Rattle.lynx_rerun.proofs.Calling.{written}
use Rattle.lynx_rerun.proofs.Lines.{run_closed, still_many}
use Rattle.lynx_rerun.proofs.run.run_and_close.Goals as goal

pub end_after-ended-requires : goal.end_after-ended-requires
end_after-ended-requires g c =
    still_many c.run_events-ran.result g.K.Keeper.terms c.args.set.now c.args.events.items c.args.servers.items c.run_events-ran.new.servers.items
    (g.W.Write.contents c.args.writer.now) (g.W.Write.contents c.run_events-ran.new.writer) c.in_ok-keepers.keepers.items c.as_mut_slice.result.now
    c.requires c.run_events-ran.ensures c.in_ok-keepers.ensures c.as_mut_slice.ensures.value

pub returns : goal.returns
returns g c =
    run_closed c.run_events-ran.result g.K.Keeper.terms g.S.Stores.store_terms.closed c.args.set.now c.args.events.items c.args.servers.items c.run_events-ran.new.servers.items
    c.args.options.owed c.in_ok-ending.ending (g.W.Write.contents c.args.writer.now) (g.W.Write.contents c.run_events-ran.new.writer) (g.W.Write.contents c.end_after-ended.new.writer)
    c.in_ok-keepers.keepers.items c.as_mut_slice.result.now c.end_after-ended.new.keepers c.in_ok-ending.ensures.ran c.run_events-ran.ensures c.in_ok-keepers.ensures c.as_mut_slice.ensures.value c.in_ok-ending.ensures.ends
    (subst (AreClosed g.S.Stores.store_terms.closed)
    (written c.in_ok-keepers.keepers.len c.in_ok-keepers.keepers.items c.end_after-ended.new.keepers (c.end_after-ended.ensures.many ∙ ap length c.as_mut_slice.ensures.value)
    (sym (ap length c.as_mut_slice.ensures.value) ∙ c.as_mut_slice.ensures.len))
    c.in_ok-closed.ensures)
