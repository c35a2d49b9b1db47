use Rattle.std.proofs.Common.{arith}
use Rattle.std.proofs.lemmas.List.{nil_from_length}
use Rattle.lynx_service.proofs.Begun.{all_stopped}
use Rattle.lynx_service.proofs.desk.stop_all.Goals as goal

pub returns : goal.returns
returns c =
    let rest = c.loop-request.request-iterator.rest.items in
    all_stopped c.loop-request.answers.items c.args.requests.items rest (nil_from_length rest (omega (arith, c.loop-request.request-iterator.rest.ok, c.in-None.ensures.steps.0)))
    c.loop-request.invariant.told
