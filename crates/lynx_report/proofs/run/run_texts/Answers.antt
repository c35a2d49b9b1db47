use Rattle.std.proofs.Common.{List, ℕ, OnErr, sym, subst}
use Rattle.lynx_report.specs.Options.{WritesPartWith}
use Rattle.lynx_report.proofs.run.run_texts.Goals as goal

pub returns-clause-part : goal.returns-clause-part
returns-clause-part g c =
    subst (λ (text : List ℕ). OnErr c.run_over_set.result (WritesPartWith c.args.options text c.args.script.now (g.W.Write.contents c.args.writer.now) (g.W.Write.contents c.run_over_set.new.writer))) (sym c.in_ok-set.ensures.found.1) c.run_over_set.ensures.part
