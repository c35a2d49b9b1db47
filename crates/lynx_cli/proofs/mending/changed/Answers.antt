use Rattle.std.proofs.Common.{Option, subst, sym}
use Rattle.std.specs.Prelude.{IfOk}
use Rattle.std.proofs.lemmas.Result.{IfOk-weaker}
use Rattle.lynx_draw.specs.declared.shown.Extent.{Extent}
use Rattle.lynx_cli.specs.Mendings.{ShowsChange}
use Rattle.lynx_cli.proofs.mending.changed.Goals as goal

pub returns-in-None : goal.returns-in-None
returns-in-None c =
    subst (λ (shown : Option Extent). IfOk c.print.result (λ bytes. ShowsChange shown c.args.before.now bytes.items)) (sym c.in-None.is)
    (IfOk-weaker c.print.result _ _ (λ bytes is. record { mended = c.args.set.now; changed = c.requires; text = is }) c.print.ensures)
