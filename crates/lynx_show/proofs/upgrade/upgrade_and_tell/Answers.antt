use Rattle.std.proofs.lemmas.Result.{err_from_is_err_and}
use Rattle.lynx_show.proofs.upgrade.upgrade_and_tell.Goals as goal

pub returns-in_err-count-clause-same : goal.returns-in_err-count-clause-same
returns-in_err-count-clause-same g c clean =
    let p = err_from_is_err_and c.from_residual.result c.from_residual.ensures.1 in
    rw p.1 (λ unwritten unstored owner count kept was. c.in_err-count.ensures.same clean (λ is. unstored (p.2.2 is)) owner count kept was)
