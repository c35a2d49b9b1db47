use Rattle.lynx_reasons.proofs.Reasons.{one_origin_lem}
use Rattle.lynx_reasons.proofs.laws.one_origin.Goals as goal

pub returns : goal.returns
returns c = one_origin_lem
