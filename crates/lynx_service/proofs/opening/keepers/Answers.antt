use Rattle.std.proofs.Common.{subst, sym}
use Rattle.lynx_service.specs.Failures.{FailsToOpen}
use Rattle.lynx_service.proofs.Failed.{folder_fails}
use Rattle.lynx_service.proofs.opening.keepers.Goals as goal

pub returns-in-Err-clause-fails : goal.returns-in-Err-clause-fails
returns-in-Err-clause-fails g c =
    let terms = g.K.Keeper.terms in
    let stores = g.S.Stores.store_terms in
    let folder = c.args.folder.now in
    subst (FailsToOpen terms stores folder c.args.set.now) (sym c.of_folder.ensures) (folder_fails terms stores folder c.args.set.now c.in-Err.fault c.in-Err.ensures.lost)
