use Rattle.std.proofs.Common.{◌≡◌, Option, Result, subst}
use Rattle.std.specs.Prelude.{IfOk, IfSome}
use Rattle.sqlite.specs.Held.{state}
use Rattle.lynx_set.specs.Set.{Set}
use Rattle.lynx_cli.specs.declared.fault.Fault.{Fault}
use Rattle.lynx_cli.proofs.Judged.{extended_so}
use Rattle.lynx_cli.proofs.extending.extend_folder.Goals as goal

pub returns : goal.returns
returns g c =
    let old = g.W.Write.contents c.args.writer.now in
    let mid = g.W.Write.contents c.accepted_set-accepted.new.writer in
    let found = subst (λ (judged : Result (Option Set) Fault). IfOk judged (λ found. IfSome found (λ set. mid ≡ old))) c.in_ok-set.was c.accepted_set-accepted.ensures.unwritten in
    extended_so g.S.Stores.store_terms c.args.folder.now (λ conn. state g.D.Store conn) (g.S.Databases.opened_at c.args.folder.now) g.S.Databases.database_closed c.as_slice-text.result.now c.extend_accepted-done.result old mid _
    (subst (λ (found : Option Set). IfSome found (λ set. mid ≡ old)) c.in-Some.is found) c.extend_accepted-done.ensures
