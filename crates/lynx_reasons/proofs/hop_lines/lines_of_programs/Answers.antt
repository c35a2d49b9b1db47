use Rattle.std.proofs.Common.{ap, ◌∙◌, arith}
use Rattle.lynx_reasons.specs.inner.Counts.{lines_of_program_at}
use Rattle.lynx_reasons.proofs.HopLines.{sum_before, sum_one_more}
use Rattle.lynx_reasons.proofs.hop_lines.lines_of_programs.Goals as goal

pub lines_of_program_at-lines-requires : goal.lines_of_program_at-lines-requires
lines_of_program_at-lines-requires c =
    let lines = lines_of_program_at c.args.set.now in
    let number = c.loop-number.number in
    let same = ap lines c.program_of.ensures in
    let some = sum_before lines number c.args.program (omega (arith, c.loop-number-test.true, c.index-number-end.ensures.value)) in
    omega (arith, same, some, c.requires)

pub overflow_add-lines : goal.overflow_add-lines
overflow_add-lines c =
    let lines = lines_of_program_at c.args.set.now in
    let number = c.loop-number.number in
    let same = c.lines_of_program_at-lines.ensures ∙ ap lines c.program_of.ensures in
    let some = sum_before lines number c.args.program (omega (arith, c.loop-number-test.true, c.index-number-end.ensures.value)) in
    let before = c.loop-number.invariant in
    omega (arith, same, some, before, c.requires)

pub loop-number-preserved : goal.loop-number-preserved
loop-number-preserved c =
    let lines = lines_of_program_at c.args.set.now in
    let number = c.loop-number.number in
    let same = c.lines_of_program_at-lines.ensures ∙ ap lines c.program_of.ensures in
    let more = sum_one_more lines number in
    let before = c.loop-number.invariant in
    omega (arith, same, more, before)
