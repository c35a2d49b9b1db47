use Rattle.std.proofs.Common.{rules, ◌≡◌, true, false, subst, sym}
use Rattle.std.specs.Prelude.{IfOk}
use Rattle.sqlite.specs.Held.{state}
use Rattle.lynx_cli.specs.Restores.{RestoresBy}
use Rattle.lynx_cli.proofs.restoring.restore_by.Goals as goal

pub returns-then-place : goal.returns-then-place
returns-then-place g c =
    let longest : c.args.place.longest ≡ true = search rules in
    subst (λ asked. IfOk c.restore_found.result (RestoresBy g.S.Copies.copied_from g.S.Copies.uncopied (λ conn. state g.C.Store conn) g.K.Keeper.terms
    g.S.Stores.store_terms c.args.place.from.now c.args.place.folder.now asked)) (sym longest) c.restore_found.ensures

pub returns-else-place : goal.returns-else-place
returns-else-place g c =
    let whole : c.args.place.longest ≡ false = search rules in
    subst (λ asked. IfOk c.restore_whole.result (RestoresBy g.S.Copies.copied_from g.S.Copies.uncopied (λ conn. state g.C.Store conn) g.K.Keeper.terms
    g.S.Stores.store_terms c.args.place.from.now c.args.place.folder.now asked)) (sym whole) c.restore_whole.ensures
