use Rattle.std.proofs.Common.{List, inr, refl, subst}
use Rattle.lynx_report.specs.Owed.{owed_lines}
use Rattle.lynx_report.specs.Written.{AppendsPart}
use Rattle.lynx_report.specs.declared.owed.OwedHop.{OwedHop}
use Rattle.lynx_report.proofs.RunLemmas.{at_err}
use Rattle.lynx_report.proofs.owed.write_owed.Goals as goal

pub returns-clause-part : goal.returns-clause-part
returns-clause-part g c =
    let owed = c.in_ok-owed.owed.items in
    at_err c.write_each_owed.result
    (λ part. inr (owed_lines owed, (owed, c.in_ok-owed.ensures, refl), subst (λ (hops : List OwedHop). AppendsPart (g.W.Write.contents c.args.writer.now) (g.W.Write.contents c.write_each_owed.new.writer) (owed_lines hops)) c.as_slice.ensures.value part))
    c.write_each_owed.ensures.part
