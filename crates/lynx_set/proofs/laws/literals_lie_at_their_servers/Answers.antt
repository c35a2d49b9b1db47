use Rattle.lynx_set.proofs.Literals.{literals_home}
use Rattle.lynx_set.proofs.laws.literals_lie_at_their_servers.Goals as goal

pub returns : goal.returns
returns c = literals_home
