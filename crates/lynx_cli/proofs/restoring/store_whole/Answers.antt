use Rattle.std.proofs.Common.{◌≡◌, ◌∙◌, subst}
use Rattle.lynx_restore.specs.Restored.{IsRestored}
use Rattle.lynx_cli.specs.Restores.{room_of}
use Rattle.lynx_cli.proofs.Restored.{moved_so}
use Rattle.lynx_cli.proofs.restoring.store_whole.Goals as goal

pub returns : goal.returns
returns g c =
    let room = room_of c.args.folder.now in
    let place : c.as_str.result.now ≡ room = c.as_str.ensures.value ∙ c.in_ok-room.ensures in
    moved_so c.restore-made.result c.moved.result
    (λ restored. IsRestored g.K.Keeper.terms g.L.Keeper.terms g.S.Stores.store_terms c.as_str.result.now c.args.copied.set c.args.copied.keepers.items restored)
    (λ restored. IsRestored g.K.Keeper.terms g.L.Keeper.terms g.S.Stores.store_terms room c.args.copied.set c.args.copied.keepers.items restored)
    (λ restored is. subst (λ path. IsRestored g.K.Keeper.terms g.L.Keeper.terms g.S.Stores.store_terms path c.args.copied.set c.args.copied.keepers.items restored) place is) c.moved.ensures c.restore-made.ensures
