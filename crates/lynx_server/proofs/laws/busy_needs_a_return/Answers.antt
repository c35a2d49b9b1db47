use Rattle.lynx_server.proofs.Returning.{busy_returns}
use Rattle.lynx_server.proofs.laws.busy_needs_a_return.Goals as goal

pub returns : goal.returns
returns c = busy_returns
