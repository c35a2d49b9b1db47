use Rattle.std.proofs.Common.{}
use Rattle.sqlite.specs.Held.{state}
use Rattle.lynx_cli.proofs.Histories.{histories_are}
use Rattle.lynx_cli.proofs.Told.{audit_told}
use Rattle.lynx_cli.proofs.auditing.audit_copies.Goals as goal

pub returns : goal.returns
returns g c =
    let copied = c.in_ok-copied.copied in
    audit_told g.S.Copies.copied_from (λ conn. state g.C.Store conn) c.args.folder.now c.audit_kept.result _ copied.set copied.keepers.items _ _
    (λ histories opened. histories_are g.S.Copies.copied_from (λ conn. state g.C.Store conn) c.args.folder.now copied.set _ _ _ _ (λ keeper fine. fine) (λ keeper fine. fine)
    (λ keeper kept keeps. keeps) copied.keepers.items histories c.in_ok-copied.ensures.many c.in_ok-copied.ensures.each opened)
    c.audit_kept.ensures
