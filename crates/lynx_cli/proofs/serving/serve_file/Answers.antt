use Rattle.std.proofs.Common.{◌≡◌, Option, Result, subst}
use Rattle.std.specs.Prelude.{IfOk, IfSome}
use Rattle.lynx_set.specs.Set.{Set}
use Rattle.lynx_cli.specs.declared.fault.Fault.{Fault}
use Rattle.lynx_cli.proofs.Judged.{served_so}
use Rattle.lynx_cli.proofs.serving.serve_file.Goals as goal

pub returns : goal.returns
returns g c =
    let old = g.W.Write.contents c.args.writer.now in
    let mid = g.W.Write.contents c.accepted_set-accepted.new.writer in
    let found = subst (λ (judged : Result (Option Set) Fault). IfOk judged (λ found. IfSome found (λ set. mid ≡ old))) c.in_ok-set.was c.accepted_set-accepted.ensures.unwritten in
    served_so _ _ _ _ c.as_slice-text.result.now c.serve_set.result old mid _
    (subst (λ (found : Option Set). IfSome found (λ set. mid ≡ old)) c.in-Some.is found) c.serve_set.ensures
