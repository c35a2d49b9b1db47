use Rattle.lynx_server.proofs.FewResults.{few-given}
use Rattle.lynx_server.proofs.server.Server.begin.Goals as goal

pub returns-in-Ok-clause-few : goal.returns-in-Ok-clause-few
returns-in-Ok-clause-few g c =
    let old = c.args.self.now in
    few-given old.set old.server old.history c.args.request c.args.seen _ c.history.ensures.lawful c.in-Ok.ensures.tried.answer_is
