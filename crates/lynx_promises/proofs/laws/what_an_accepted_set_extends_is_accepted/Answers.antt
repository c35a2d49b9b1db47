use Rattle.lynx_promises.proofs.Narrowed.{extended_accepted}
use Rattle.lynx_promises.proofs.laws.what_an_accepted_set_extends_is_accepted.Goals as goal

pub returns : goal.returns
returns c = extended_accepted
