use Rattle.lynx_set.proofs.Same.{copied-next}
use Rattle.lynx_set.proofs.set.copy_programs.Goals as goal

pub loop-name-preserved-in_ok-insert : goal.loop-name-preserved-in_ok-insert
loop-name-preserved-in_ok-insert c =
    copied-next c.loop-name.copied.entries c.loop-name.name-iterator c.next.new.self c.args.programs.now.entries c.insert.new.self.entries
    c.in-Some.name.now c.in-Some.program.now c.in_ok-copy.field-0 c.loop-name.invariant c.in-Some.ensures.steps c.in_ok-copy.ensures c.len.ensures.unique c.in_ok-insert.ensures.entries

pub loop-name-preserved : goal.loop-name-preserved
loop-name-preserved c =
    copied-next c.loop-name.copied.entries c.loop-name.name-iterator c.next.new.self c.args.programs.now.entries c.insert.new.self.entries
    c.in-Some.name.now c.in-Some.program.now c.in_ok-copy.field-0 c.loop-name.invariant c.in-Some.ensures.steps c.in_ok-copy.ensures c.len.ensures.unique c.in_ok-insert.ensures.entries
