use Rattle.std.proofs.Common.{OnErr, subst}
use Rattle.lynx_entry.specs.declared.event.Outcome.{Outcome}
use Rattle.lynx_lines.specs.Printed.{outcome_text}
use Rattle.lynx_lex.specs.Lines.{with_feed}
use Rattle.lynx_report.specs.Written.{AppendsPart}
use Rattle.lynx_report.proofs.run.run_and_write.Goals as goal

pub returns-clause-part : goal.returns-clause-part
returns-clause-part g c =
    subst (λ (outcome : Outcome). OnErr c.write_outcome.result (AppendsPart (g.W.Write.contents c.args.writer.now) (g.W.Write.contents c.write_outcome.new.writer) (with_feed (outcome_text outcome))))
    c.in_ok-outcome.ensures.outcome c.write_outcome.ensures.part
