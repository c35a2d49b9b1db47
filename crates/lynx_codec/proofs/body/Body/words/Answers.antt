use Rattle.std.proofs.lemmas.Result.{err_from_is_err_and}
use Rattle.lynx_codec.specs.Reading.{repeated, word_at}
use Rattle.lynx_codec.proofs.Loops.{goes_on, ends, is_done}
use Rattle.lynx_codec.proofs.body.Body.words.Goals as goal

pub returns-in_err-value : goal.returns-in_err-value
returns-in_err-value c =
    let p = err_from_is_err_and c.from_residual-in_err-value.result c.from_residual-in_err-value.ensures.1 in
    rw (p.1, p.2) (ends (word_at) c.in_err-value.field-0.0 c.loop.values.items c.args.count c.loop.counter c.loop.self (repeated (word_at) c.args.count c.args.self.now) c.loop-test.true c.in_err-value.ensures c.loop.invariant)

pub loop-preserved : goal.loop-preserved
loop-preserved c =
    rw c.in_ok-push.ensures.items (goes_on (word_at) c.loop.values.items c.args.count c.loop.counter c.loop.self c.in_ok-value.value c.word.new.self (repeated (word_at) c.args.count c.args.self.now) c.loop-test.true c.in_ok-value.ensures c.loop.invariant)

pub returns : goal.returns
returns c = rw c.from_vec.ensures (is_done (word_at) c.loop.values.items c.args.count c.loop.counter c.loop.self (repeated (word_at) c.args.count c.args.self.now) c.loop-test.false c.loop.invariant)
