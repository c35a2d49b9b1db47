use Rattle.lynx_promises.proofs.Alike.{woven_alike}
use Rattle.lynx_promises.proofs.Promised.{woven_promised}
use Rattle.lynx_promises.proofs.laws.woven_worlds_keep_the_promises.Goals as goal

pub returns-clause-promises : goal.returns-clause-promises
returns-clause-promises c = woven_promised

pub returns-clause-requests : goal.returns-clause-requests
returns-clause-requests c = woven_alike
