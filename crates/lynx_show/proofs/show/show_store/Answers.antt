use Rattle.std.proofs.Common.{◌≡◌, Result, Ok, Err, IfErr, subst, ◌∙◌}
use Rattle.std.specs.Io.KnownBytes.{Appends}
use Rattle.lynx_keep.specs.Kept.{kept_in}
use Rattle.lynx_lines.specs.Written.{AppendsPart}
use Rattle.lynx_show.specs.declared.fault.ShowFault.{ShowFault}
use Rattle.lynx_show.specs.declared.fault.ShowFault.TheVariants.{Write}
use Rattle.lynx_show.proofs.show.show_store.Goals as goal

on_write : {X P : Type 0} (r : Result X ShowFault) → P → IfErr r (λ fault. fault ≡ Write → P)
on_write (Ok done) holds = tt
on_write (Err fault) holds = λ _. holds

pub returns-clause-ok : goal.returns-clause-ok
returns-clause-ok g c clean =
    let held = c.in_ok-held.held in
    let old = g.W.Write.contents c.args.writer.now in
    let new = g.W.Write.contents c.write_bytes.new.writer in
    let written = subst (Appends old new) (c.as_slice.ensures.value ∙ c.in_ok-text.ensures.ok) c.in_ok-write_bytes.ensures.all in
    (held.set, held.server, kept_in held.loaded, c.in_ok-held.ensures.ok clean, c.in_ok-text.ensures.tables, written)

pub returns-in_err-write_bytes-clause-part : goal.returns-in_err-write_bytes-clause-part
returns-in_err-write_bytes-clause-part g c clean =
    let held = c.in_ok-held.held in
    let old = g.W.Write.contents c.args.writer.now in
    let new = g.W.Write.contents c.write_bytes.new.writer in
    let written = subst (AppendsPart old new) (c.as_slice.ensures.value ∙ c.in_ok-text.ensures.ok) c.in_err-write_bytes.ensures.part in
    on_write c.from_residual-in_err-write_bytes.result (held.set, held.server, kept_in held.loaded, c.in_ok-held.ensures.ok clean, c.in_ok-text.ensures.tables, written)
