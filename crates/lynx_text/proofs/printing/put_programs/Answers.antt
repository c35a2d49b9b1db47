use Rattle.std.proofs.Common.{ap}
use Rattle.lynx_set.specs.Text.{programs_lines, program_lines}
use Rattle.lynx_text.proofs.Texts.{next_written}
use Rattle.lynx_text.proofs.printing.put_programs.Goals as goal

pub loop-name-preserved : goal.loop-name-preserved
loop-name-preserved c =
    let tables = c.args.tables.now in
    next_written c.put_program.new.out.items c.loop-name.out.items _ (program_lines tables (c.in-Some.name.now, c.in-Some.program.now)) (programs_lines tables c.next.new.self) (programs_lines tables c.loop-name.name-iterator)
    c.loop-name.invariant c.in_ok-put_program.ensures (ap (programs_lines tables) c.in-Some.ensures.steps)
