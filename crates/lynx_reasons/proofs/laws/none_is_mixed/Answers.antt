use Rattle.lynx_reasons.proofs.Together.{none_mixed_lem}
use Rattle.lynx_reasons.proofs.laws.none_is_mixed.Goals as goal

pub returns : goal.returns
returns c = none_mixed_lem
