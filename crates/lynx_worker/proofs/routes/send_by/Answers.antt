use Rattle.std.specs.Prelude.{slice_index_or}
use Rattle.std.proofs.lemmas.Option.{slice_get-get_or}
use Rattle.lynx_worker.proofs.Advancing.{sends_nowhere, sends_one}
use Rattle.lynx_worker.proofs.RouteLemmas.{routes_set}
use Rattle.lynx_worker.proofs.routes.send_by.Goals as goal

pub returns-then-index-routes-clause-sends : goal.returns-then-index-routes-clause-sends
returns-then-index-routes-clause-sends g c = sends_nowhere c.args.routes.now c.index-index.result c.args.ends.now c.args.due c.if-index-routes.true c.index-index.ensures.value

pub returns-clause-routes : goal.returns-clause-routes
returns-clause-routes g c =
    let here = c.index-routes-index.result in
    routes_set c.args.routes.now c.index-index.result (slice_index_or c.args.routes.now c.index-index.result here) c.send.new.self
    (slice_get-get_or c.args.routes.now c.index-index.result here c.if-index-routes.false) c.send.ensures.to c.requires

pub returns-clause-sends : goal.returns-clause-sends
returns-clause-sends g c =
    let here = c.index-routes-index.result in
    sends_one c.args.routes.now c.index-index.result (slice_index_or c.args.routes.now c.index-index.result here) c.send.new.self c.args.ends.now c.send.new.ends c.args.due
    c.send.result (slice_get-get_or c.args.routes.now c.index-index.result here c.if-index-routes.false) c.index-index.ensures.value c.requires
    c.send.ensures.sent c.send.ensures.lags
