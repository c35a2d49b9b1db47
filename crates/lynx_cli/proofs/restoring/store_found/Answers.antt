use Rattle.std.proofs.Common.{◌≡◌, ◌∙◌, subst}
use Rattle.lynx_restore.specs.Longest.{IsRestoredLongest}
use Rattle.lynx_weave.specs.Rebuilt.{histories_in}
use Rattle.lynx_cli.specs.Restores.{room_of}
use Rattle.lynx_cli.proofs.Restored.{moved_so}
use Rattle.lynx_cli.proofs.restoring.store_found.Goals as goal

pub returns : goal.returns
returns g c =
    let room = room_of c.args.folder.now in
    let place : c.as_str.result.now ≡ room = c.as_str.ensures.value ∙ c.in_ok-room.ensures in
    moved_so c.restore_longest-made.result c.moved.result
    (λ restored. IsRestoredLongest g.L.Keeper.terms g.S.Stores.store_terms c.as_str.result.now c.args.found.set (histories_in c.args.found.entries.items) restored)
    (λ restored. IsRestoredLongest g.L.Keeper.terms g.S.Stores.store_terms room c.args.found.set (histories_in c.args.found.entries.items) restored)
    (λ restored is. subst (λ path. IsRestoredLongest g.L.Keeper.terms g.S.Stores.store_terms path c.args.found.set (histories_in c.args.found.entries.items) restored) place is) c.moved.ensures c.restore_longest-made.ensures
