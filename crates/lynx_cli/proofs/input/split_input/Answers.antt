use Rattle.std.proofs.Common.{sym}
use Rattle.lynx_cli.proofs.InputLemmas.{line_read, cut_here, cut_at_end, no_cut}
use Rattle.lynx_cli.proofs.input.split_input.Goals as goal

pub returns-then-is_separator-clause-cut : goal.returns-then-is_separator-clause-cut
returns-then-is_separator-clause-cut c =
    cut_here c.args.input.now c.loop-line.rest.now c.in-Some.line.now c.in-Some.after.now c.loop-line.read c.loop-line.invariant (sym c.in-Some.ensures.value)
    (c.is_separator.ensures.yes c.if-is_separator.true)

pub loop-line-preserved : goal.loop-line-preserved
loop-line-preserved c =
    line_read c.args.input.now c.loop-line.rest.now c.in-Some.line.now c.in-Some.after.now c.loop-line.read c.loop-line.invariant (sym c.in-Some.ensures.value)
    (c.is_separator.ensures.no c.if-is_separator.false)

pub returns-then-is_separator-2-clause-cut : goal.returns-then-is_separator-2-clause-cut
returns-then-is_separator-2-clause-cut c =
    cut_at_end c.args.input.now c.loop-line.rest.now c.loop-line.read c.loop-line.invariant (c.is_separator-2.ensures.yes c.if-is_separator-2.true)

pub returns-else-is_separator-2-clause-none : goal.returns-else-is_separator-2-clause-none
returns-else-is_separator-2-clause-none c =
    no_cut c.args.input.now c.loop-line.rest.now c.loop-line.read c.loop-line.invariant (sym c.in_default.ensures.value) (c.is_separator-2.ensures.no c.if-is_separator-2.false)
