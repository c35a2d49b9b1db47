use Rattle.std.proofs.Common.{◌≡◌, Option, subst}
use Rattle.std.specs.Prelude.{IfSome}
use Rattle.lynx_set.specs.Set.{Set}
use Rattle.lynx_report.specs.Refusals.{Accepts}
use Rattle.lynx_cli.proofs.Judged.{judged_done}
use Rattle.lynx_cli.proofs.texts.run_judged.Goals as goal

pub returns-in-Ok-Some-clause-ok : goal.returns-in-Ok-Some-clause-ok
returns-in-Ok-Some-clause-ok g c =
    let told = c.in-Ok-Some.ensures in
    judged_done c.args.options c.args.set.now c.args.script.now c.in-Ok-Some.accepted c.run_read.result (g.W.Write.contents c.args.writer.now) (g.W.Write.contents c.accepted_set.new.writer)
    (g.W.Write.contents c.run_read.new.writer)
    (subst (λ (found : Option Set). IfSome found (Accepts c.args.set.now)) c.in-Ok-Some.field-0-is told.accepted)
    (subst (λ (found : Option Set). IfSome found (λ set. g.W.Write.contents c.accepted_set.new.writer ≡ g.W.Write.contents c.args.writer.now)) c.in-Ok-Some.field-0-is told.unwritten)
    c.run_read.ensures.ok
