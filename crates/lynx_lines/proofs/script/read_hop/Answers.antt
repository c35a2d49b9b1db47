use Rattle.std.proofs.Common.{arith}
use Rattle.lynx_lines.proofs.SpelledLemmas.{one_number}
use Rattle.lynx_lines.proofs.script.read_hop.Goals as goal

pub returns-then-number-gt255 : goal.returns-then-number-gt255
returns-then-number-gt255 c = λ hop small is.
    let same = one_number c.args.word.now c.in_ok-number.number hop c.in_ok-number.ensures.0 (omega arith) c.in_ok-number.ensures.1 is in
    omega (arith, same, c.if-number-gt255.true)
