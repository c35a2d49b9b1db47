use Rattle.lynx_promises.proofs.Promised.{promised}
use Rattle.lynx_promises.proofs.laws.legal_lists_keep_the_promises.Goals as goal

pub returns : goal.returns
returns c = promised
