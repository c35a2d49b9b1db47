use Rattle.lynx_promises.proofs.Promised.{headline}
use Rattle.lynx_promises.proofs.laws.headline.Goals as goal

pub returns : goal.returns
returns c = headline
