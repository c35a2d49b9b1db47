use Rattle.std.proofs.lemmas.Result.{err_from_is_err_and}
use Rattle.lynx_names.specs.declared.limits.TheConstants.{MAX_ACTIONS}
use Rattle.lynx_codec.specs.Reading.{repeated, values_at}
use Rattle.lynx_codec.proofs.Loops.{goes_on, ends, is_done}
use Rattle.lynx_codec.proofs.body.Body.lists.Goals as goal

pub returns-in_err-results : goal.returns-in_err-results
returns-in_err-results c =
    let p = err_from_is_err_and c.from_residual-in_err-results.result c.from_residual-in_err-results.ensures.1 in
    rw (p.1, p.2) (ends (values_at MAX_ACTIONS) c.in_err-results.field-0.0 c.loop.lists.items c.args.count c.loop.counter c.loop.self (repeated (values_at MAX_ACTIONS) c.args.count c.args.self.now) c.loop-test.true c.in_err-results.ensures c.loop.invariant)

pub loop-preserved : goal.loop-preserved
loop-preserved c =
    rw c.in_ok-push.ensures.items (goes_on (values_at MAX_ACTIONS) c.loop.lists.items c.args.count c.loop.counter c.loop.self c.in_ok-results.results c.values.new.self (repeated (values_at MAX_ACTIONS) c.args.count c.args.self.now) c.loop-test.true c.in_ok-results.ensures c.loop.invariant)

pub returns : goal.returns
returns c = rw c.from_vec.ensures (is_done (values_at MAX_ACTIONS) c.loop.lists.items c.args.count c.loop.counter c.loop.self (repeated (values_at MAX_ACTIONS) c.args.count c.args.self.now) c.loop-test.false c.loop.invariant)
