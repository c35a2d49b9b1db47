use Rattle.lynx_promises.proofs.Growing.{over_growths}
use Rattle.lynx_promises.proofs.laws.over_growths.Goals as goal

pub returns : goal.returns
returns c = over_growths
