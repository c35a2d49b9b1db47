use Rattle.std.proofs.Common.{arith}
use Rattle.lynx_codec.proofs.Feeds.{found}
use Rattle.lynx_codec.proofs.front.find_front.Goals as goal

pub returns-clause-item : goal.returns-clause-item
returns-clause-item c = found c.args.bytes.now c.read_front.result (λ i. omega (arith, c.type_inv.bytes i)) c.read_front.ensures.exact c.read_front.ensures.size
