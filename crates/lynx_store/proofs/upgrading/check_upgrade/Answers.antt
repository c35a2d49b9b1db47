use Rattle.std.proofs.Common.{◌≡◌, Err, length, ap, ◌∙◌}
use Rattle.std.proofs.lemmas.Result.{err_from_is_err_and}
use Rattle.sqlite.specs.Held.{state}
use Rattle.lynx_keep.specs.Kept.{kept_in}
use Rattle.lynx_store.specs.declared.fault.StoreFault.TheVariants.{Damaged}
use Rattle.lynx_store.specs.Stored.{version_for}
use Rattle.lynx_store.proofs.Upgraded.{told_can, told_may}
use Rattle.lynx_store.proofs.upgrading.check_upgrade.Goals as goal

pub returns-clause-ok : goal.returns-clause-ok
returns-clause-ok g c clean =
    let held = c.in_ok-held.held in
    let added = c.in_ok-added_to.ensures in
    let may = told_may held.set (kept_in held.loaded) _ added.acts added.first added.tables added.apart in
    (held.server, held.set, length held.loaded.entries.items, kept_in held.loaded, c.in_ok-held.ensures.ok clean, may)

pub returns-in_err-held-clause-damaged : goal.returns-in_err-held-clause-damaged
returns-in_err-held-clause-damaged g c clean =
    let p = err_from_is_err_and c.from_residual.result c.from_residual.ensures.1 in
    rw (p.1, p.2) (λ is server chains count kept can.
    let own : c.in_err-held.field-0.0 ≡ Damaged = let e = is in cc in
    c.in_err-held.ensures.damaged clean (ap Err own) server chains can.server_of count kept can.few can.keeps)

pub returns-in_err-added_to-clause-damaged : goal.returns-in_err-added_to-clause-damaged
returns-in_err-added_to-clause-damaged g c clean =
    let p = err_from_is_err_and c.from_residual-in_err-added_to.result c.from_residual-in_err-added_to.ensures.1 in
    rw (p.1, p.2) (λ is server chains count kept can.
    let own : c.in_err-added_to.field-0.0 ≡ Damaged = let e = is in cc in
    let held = c.in_ok-held.held in
    let all = told_can (state g.S.Store c.args.conn.now) held.server server held.set chains (kept_in held.loaded) kept count c.in_ok-held.ensures.set can (c.in_ok-held.ensures.all clean) in
    c.in_err-added_to.ensures.damaged (ap Err own) all.0 all.1 all.2)

pub returns-in_err-added_to-clause-other : goal.returns-in_err-added_to-clause-other
returns-in_err-added_to-clause-other g c clean =
    let p = err_from_is_err_and c.from_residual-in_err-added_to.result c.from_residual-in_err-added_to.ensures.1 in
    rw (p.1, p.2) (λ is owner count kept was.
    ap (λ own. own.version) (c.in_ok-held.ensures.all clean owner count kept was).0 ∙ ap version_for (c.in_err-added_to.ensures.other is))
