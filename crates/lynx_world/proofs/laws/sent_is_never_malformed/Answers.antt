use Rattle.lynx_world.proofs.Answered.{sent_is_never_malformed}
use Rattle.lynx_world.proofs.laws.sent_is_never_malformed.Goals as goal

pub returns : goal.returns
returns c = sent_is_never_malformed
