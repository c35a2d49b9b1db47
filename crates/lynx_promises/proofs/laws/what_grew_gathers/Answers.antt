use Rattle.lynx_promises.proofs.Growing.{grown_gathers}
use Rattle.lynx_promises.proofs.laws.what_grew_gathers.Goals as goal

pub returns : goal.returns
returns g c = grown_gathers g.K.Keeper.terms
