use Rattle.std.proofs.Common.{◌≡◌, Option, subst}
use Rattle.std.specs.Prelude.{IfSome}
use Rattle.lynx_set.specs.Set.{Set}
use Rattle.lynx_report.specs.Refusals.{Accepts}
use Rattle.lynx_cli.proofs.Judged.{rerun_judged_done}
use Rattle.lynx_cli.proofs.stored.rerun_judged.Goals as goal

pub returns-in-Ok-Some : goal.returns-in-Ok-Some
returns-in-Ok-Some g c =
    let told = c.in-Ok-Some.ensures in
    rerun_judged_done g.K.Keeper.terms g.S.Stores.store_terms c.args.over.folder.now c.args.options c.args.set.now c.args.script.now c.in-Ok-Some.accepted c.rerun_read.result
    (g.W.Write.contents c.args.writer.now) (g.W.Write.contents c.accepted_set.new.writer) (g.W.Write.contents c.rerun_read.new.writer)
    (subst (λ (found : Option Set). IfSome found (Accepts c.args.set.now)) c.in-Ok-Some.field-0-is told.accepted)
    (subst (λ (found : Option Set). IfSome found (λ set. g.W.Write.contents c.accepted_set.new.writer ≡ g.W.Write.contents c.args.writer.now)) c.in-Ok-Some.field-0-is told.unwritten)
    c.rerun_read.ensures
