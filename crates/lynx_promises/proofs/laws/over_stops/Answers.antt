use Rattle.lynx_promises.proofs.Promised.{over_stops}
use Rattle.lynx_promises.proofs.laws.over_stops.Goals as goal

pub returns : goal.returns
returns c = over_stops
