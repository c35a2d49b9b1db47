use Rattle.lynx_commute.proofs.Commuting.{ChangePlaces-from_no_conflict}
use Rattle.lynx_commute.proofs.laws.hops_without_conflict_change_places.Goals as goal

pub returns : goal.returns
returns c = ChangePlaces-from_no_conflict
