use Rattle.lynx_reasons.proofs.Reasons.{one_hop_lem}
use Rattle.lynx_reasons.proofs.laws.one_hop.Goals as goal

pub returns : goal.returns
returns c = one_hop_lem
