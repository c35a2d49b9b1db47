use Rattle.lynx_promises.proofs.Again.{alike_for_ever}
use Rattle.lynx_promises.proofs.laws.what_was_answered_is_answered_alike.Goals as goal

pub returns : goal.returns
returns c = alike_for_ever
