use Rattle.std.proofs.Common.{arith}
use Rattle.lynx_reasons.proofs.HopLines.{actions_few, line_of-le}
use Rattle.lynx_reasons.proofs.never.action_line.Goals as goal

pub overflow_add-result : goal.overflow_add-result
overflow_add-result c =
    let few = line_of-le c.args.set.now c.requires.text (record { program = c.args.program; hop = c.args.at.hop }) in
    omega (arith, few, c.line_of-hop.ensures)

pub overflow_add-result-2 : goal.overflow_add-result-2
overflow_add-result-2 c =
    let few = line_of-le c.args.set.now c.requires.text (record { program = c.args.program; hop = c.args.at.hop }) in
    let actions = actions_few c.args.set.now c.args.program c.args.at.hop in
    omega (arith, few, actions, c.requires.there, c.line_of-hop.ensures)
