use Rattle.lynx_commute.proofs.Framing.{IsZeroFree-after}
use Rattle.lynx_commute.proofs.laws.hops_keep_zero_free.Goals as goal

pub returns : goal.returns
returns c = IsZeroFree-after
