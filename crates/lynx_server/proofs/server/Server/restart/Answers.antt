use Rattle.std.proofs.Common.{arith}
use Rattle.std.proofs.lemmas.Result.{err_from_is_err_and}
use Rattle.lynx_server.proofs.server.Server.restart.Goals as goal

pub returns-in_err-set : goal.returns-in_err-set
returns-in_err-set g c =
    let p = err_from_is_err_and c.from_residual.result c.from_residual.ensures.1 in
    rw (p.1, p.2) (
      c.args.self.keeper,
      record {
        read = record {
          sound_before = λ sound. sound;
          stop = λ sound kept keeps. g.met.K.Keeper.settled c.args.self.keeper kept sound keeps;
          counts = omega arith;
        };
        keeps_on = λ sound kept keeps. keeps;
      },
    )
