use Rattle.sqlite.specs.Held.{state}
use Rattle.lynx_cli.proofs.Restored.{restored_told}
use Rattle.lynx_cli.proofs.restoring.restore_folder.Goals as goal

pub returns : goal.returns
returns g c =
    restored_told g.S.Copies.copied_from g.S.Copies.uncopied (λ conn. state g.C.Store conn) g.K.Keeper.terms g.S.Stores.store_terms c.args.place.from.now
    c.args.place.folder.now c.args.place.longest (g.W.Write.contents c.args.writer.now) (g.W.Write.contents c.write_restored.new.writer)
    c.in_ok-restored.restored c.write_restored.result c.in_ok-restored.ensures c.write_restored.ensures
