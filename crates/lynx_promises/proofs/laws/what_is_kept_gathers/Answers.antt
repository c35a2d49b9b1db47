use Rattle.lynx_promises.proofs.Promised.{kept_gathers}
use Rattle.lynx_promises.proofs.laws.what_is_kept_gathers.Goals as goal

pub returns : goal.returns
returns g c = kept_gathers g.K.Keeper.terms
