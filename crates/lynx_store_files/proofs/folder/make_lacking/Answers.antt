use Rattle.std.proofs.Common.{◌∙◌, subst, sym}
use Rattle.lynx_store_files.proofs.Folders.{AreKeepersBelow, keepers_more, no_keepers}
use Rattle.lynx_store_files.proofs.folder.make_lacking.Goals as goal

pub loop-number-init : goal.loop-number-init
loop-number-init g c =
    let terms = g.S.Stores.store_terms in
    let all = c.args.found.items in
    record {
      below = subst (AreKeepersBelow terms c.args.folder.now c.args.set.now all c.into_iter-found.result.rest.items 0) (sym c.new-keepers.ensures.items)
          (no_keepers terms c.args.folder.now c.args.set.now all c.into_iter-found.result.rest.items c.into_iter-found.ensures.rest);
      count = c.servers-number-end.ensures.value ∙ sym c.requires;
    }

pub loop-number-preserved : goal.loop-number-preserved
loop-number-preserved g c =
    let is = c.loop-number.invariant in
    record {
      below = keepers_more g.S.Stores.store_terms c.args.folder.now c.args.set.now c.args.found.items c.loop-number.found.rest.items c.next.new.self.rest.items c.loop-number.number
          c.at-server.result c.loop-number.keepers.items c.add.new.keepers.items c.in-Some.one c.in-Ok.keeper c.in-Some.ensures.items c.at-server.ensures c.in-Ok.ensures
          c.in_ok-add-in-Ok.ensures is.below;
      count = is.count;
    }
