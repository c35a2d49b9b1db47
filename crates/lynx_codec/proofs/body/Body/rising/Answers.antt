use Rattle.std.proofs.Common.{add-one}
use Rattle.std.proofs.lemmas.Result.{err_from_is_err_and}
use Rattle.lynx_codec.specs.Reading.{rising_at}
use Rattle.lynx_codec.proofs.Loops.{rising-goes_on, rising-no_server, rising-no_number, rising-is_done}
use Rattle.lynx_codec.proofs.body.Body.rising.Goals as goal

pub returns-in_err-server : goal.returns-in_err-server
returns-in_err-server c =
    let p = err_from_is_err_and c.from_residual-in_err-server.result c.from_residual-in_err-server.ensures.1 in
    rw (p.1, p.2) (rising-no_server c.in_err-server.field-0.0 c.loop.numbers.items c.loop.least c.args.count c.loop.counter c.loop.self (rising_at 0 c.args.count c.args.self.now) c.loop-test.true c.in_err-server.ensures c.loop.invariant)

pub returns-in_err-number : goal.returns-in_err-number
returns-in_err-number c =
    let p = err_from_is_err_and c.from_residual-in_err-number.result c.from_residual-in_err-number.ensures.1 in
    rw (p.1, p.2) (rising-no_number c.in_err-number.field-0.0 c.loop.numbers.items c.loop.least c.args.count c.loop.counter c.loop.self c.in_ok-server.server c.server_from.new.self (rising_at 0 c.args.count c.args.self.now) c.loop-test.true c.in_ok-server.ensures c.in_err-number.ensures c.loop.invariant)

pub loop-preserved : goal.loop-preserved
loop-preserved c =
    rw (c.in_ok-push.ensures.items, c.number-least.ensures.value, add-one) (rising-goes_on c.loop.numbers.items c.loop.least c.args.count c.loop.counter c.loop.self c.in_ok-server.server c.in_ok-number.number c.server_from.new.self c.word.new.self (rising_at 0 c.args.count c.args.self.now) c.loop-test.true c.in_ok-server.ensures c.in_ok-number.ensures c.loop.invariant)

pub returns : goal.returns
returns c = rw c.from_vec.ensures (rising-is_done c.loop.numbers.items c.loop.least c.args.count c.loop.counter c.loop.self (rising_at 0 c.args.count c.args.self.now) c.loop-test.false c.loop.invariant)
