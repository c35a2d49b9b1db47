use Rattle.lynx_codec.proofs.Fronts.{front_stays}
use Rattle.lynx_codec.proofs.laws.a_fault_stays.Goals as goal

pub returns : goal.returns
returns c = front_stays
