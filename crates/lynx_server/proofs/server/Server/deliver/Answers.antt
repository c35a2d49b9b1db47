use Rattle.lynx_server.proofs.Delivering.{delivered-so}
use Rattle.lynx_server.proofs.server.Server.deliver.Goals as goal

pub returns-in-Ok-clause-delivers : goal.returns-in-Ok-clause-delivers
returns-in-Ok-clause-delivers g c = λ runs. delivered-so g.K.Keeper.terms c.args.self.now c.args.message _ _ c.in-Ok.ensures.tried
