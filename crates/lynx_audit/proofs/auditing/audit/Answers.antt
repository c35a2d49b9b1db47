use Rattle.std.proofs.Common.{◌++◌, ◌∙◌, ap, subst}
use Rattle.std.specs.Io.KnownBytes.{Appends}
use Rattle.lynx_service.specs.Services.{last_lines}
use Rattle.lynx_weave.specs.Rebuilt.{histories_in}
use Rattle.lynx_audit.specs.Sizes.{cells_lines, entries_lines}
use Rattle.lynx_audit.proofs.Audited.{audited}
use Rattle.lynx_audit.proofs.auditing.audit.Goals as goal

pub returns-clause-ok : goal.returns-clause-ok
returns-clause-ok g c =
    let histories = histories_in c.in_ok-histories.histories.items in
    let world = c.in_ok-world.world in
    let explained = c.in-Ok.explained in
    let cells = c.in_ok-put_cells.ensures.0 in
    let entries = c.in_ok-sizes.ensures ∙ ap (λ hs. entries_lines (histories_in hs)) c.as_slice.ensures.value in
    let sizes = c.in_ok-put_cells.ensures.2 ∙ ap (λ lines. lines ++ cells_lines world.set cells) entries in
    let whole = c.as_slice-3.ensures.value ∙ c.in_ok-extend_from_slice.ensures.items
    ∙ ap (λ lines. lines ++ c.as_slice-2.result.now) c.in-Ok.ensures.words.1
    ∙ ap (λ more. last_lines explained ++ more) c.as_slice-2.ensures.value in
    audited g.K.Keeper.terms c.args.set.now c.args.keepers.items histories world explained c.put_cells.new.text.items
    (g.W.Write.contents c.args.writer.now) (g.W.Write.contents c.write_bytes.new.writer)
    c.in_ok-histories.ensures.ok c.in_ok-world.ensures.ok c.in-Ok.ensures.words.0
    (record { cells = cells; all = c.in_ok-put_cells.ensures.1; lines_are = sizes })
    (subst (Appends (g.W.Write.contents c.args.writer.now) (g.W.Write.contents c.write_bytes.new.writer)) whole c.in_ok-write_bytes.ensures.all)
