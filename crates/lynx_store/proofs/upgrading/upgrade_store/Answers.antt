use Rattle.std.proofs.Common.{◌≡◌, Err, length, ap, sym, subst, ◌∙◌, arith}
use Rattle.std.proofs.lemmas.Result.{err_from_is_err_and}
use Rattle.sqlite.specs.Held.{state}
use Rattle.lynx_keep.specs.Kept.{kept_in}
use Rattle.lynx_store.specs.declared.fault.StoreFault.TheVariants.{Damaged}
use Rattle.lynx_store.specs.Premise.{IsUndisturbed}
use Rattle.lynx_store.specs.Stored.{IsKept, owner_for, version_for}
use Rattle.lynx_store.specs.Upgrades.{IsSecond, Upgrades, second_of}
use Rattle.lynx_store.proofs.Upgraded.{leaves_second, second_kept, told_can, told_may, upgrades}
use Rattle.lynx_store.proofs.upgrading.upgrade_store.Goals as goal

pub returns-in_err-held-clause-same : goal.returns-in_err-held-clause-same
returns-in_err-held-clause-same g c clean =
    let p = err_from_is_err_and c.from_residual.result c.from_residual.ensures.1 in
    rw (p.1, p.2) (c.in_err-held.ensures.same clean)

pub returns-in_err-added-clause-other : goal.returns-in_err-added-clause-other
returns-in_err-added-clause-other g c clean =
    let p = err_from_is_err_and c.from_residual-in_err-added.result c.from_residual-in_err-added.ensures.1 in
    rw (p.1, p.2) (λ is owner count kept was.
    ap (λ own. own.version) (c.in_ok-held.ensures.all clean owner count kept was).0 ∙ ap version_for (c.in_err-added.ensures.other is))

pub returns-in-Ok-clause-ok : goal.returns-in-Ok-clause-ok
returns-in-Ok-clause-ok g c clean =
    let old = state g.S.Store c.args.conn.now in
    let mid = state g.S.Store c.inspect.new.conn in
    let new = state g.S.Store c.upgrade_tables.new.conn in
    let mid_clean : IsUndisturbed mid = omega (arith, clean, c.upgrade_tables.ensures.clean) in
    let held = c.in_ok-held.held in
    let set = c.as_slice.ensures.value ∙ c.in_ok-added.ensures.set in
    let acts = c.as_slice-2.ensures.value ∙ c.in_ok-added.ensures.acts in
    let may = told_may held.set (kept_in held.loaded) _ c.in_ok-added.ensures.acts c.in_ok-added.ensures.first c.in_ok-added.ensures.tables c.in_ok-added.ensures.apart in
    let second : IsKept new (owner_for held.server (second_of held.set)) (length held.loaded.entries.items) (kept_in held.loaded) =
    second_kept old mid new held.server held.set (kept_in held.loaded) (length held.loaded.entries.items) _ _ _ c.version_text-version.ensures set acts
    may (c.in_ok-held.ensures.ok mid_clean) (c.in_ok-held.ensures.all mid_clean) (c.in-Ok.ensures.ok clean) in
    let counted : c.len.result ≡ length held.loaded.entries.items = omega (arith, c.len.ensures) in
    subst (Upgrades old new) (sym counted) (upgrades old mid new held.server held.set (kept_in held.loaded) (length held.loaded.entries.items) _ _ _ c.version_text-version.ensures set acts
    may (c.in_ok-held.ensures.ok mid_clean) (c.in_ok-held.ensures.all mid_clean) second)

pub returns-in-Ok-clause-second : goal.returns-in-Ok-clause-second
returns-in-Ok-clause-second g c clean =
    let old = state g.S.Store c.args.conn.now in
    let mid = state g.S.Store c.inspect.new.conn in
    let new = state g.S.Store c.upgrade_tables.new.conn in
    let mid_clean : IsUndisturbed mid = omega (arith, clean, c.upgrade_tables.ensures.clean) in
    let held = c.in_ok-held.held in
    let set = c.as_slice.ensures.value ∙ c.in_ok-added.ensures.set in
    let acts = c.as_slice-2.ensures.value ∙ c.in_ok-added.ensures.acts in
    let may = told_may held.set (kept_in held.loaded) _ c.in_ok-added.ensures.acts c.in_ok-added.ensures.first c.in_ok-added.ensures.tables c.in_ok-added.ensures.apart in
    let second : IsKept new (owner_for held.server (second_of held.set)) (length held.loaded.entries.items) (kept_in held.loaded) =
    second_kept old mid new held.server held.set (kept_in held.loaded) (length held.loaded.entries.items) _ _ _ c.version_text-version.ensures set acts
    may (c.in_ok-held.ensures.ok mid_clean) (c.in_ok-held.ensures.all mid_clean) (c.in-Ok.ensures.ok clean) in
    let counted : c.len.result ≡ length held.loaded.entries.items = omega (arith, c.len.ensures) in
    subst (IsSecond new) (sym counted) (held.server, held.set, kept_in held.loaded, second, c.in_ok-added.ensures.tables)

pub returns-in-Ok-clause-stop : goal.returns-in-Ok-clause-stop
returns-in-Ok-clause-stop g c clean =
    let old = state g.S.Store c.args.conn.now in
    let mid = state g.S.Store c.inspect.new.conn in
    let new = state g.S.Store c.upgrade_tables.new.conn in
    let mid_clean : IsUndisturbed mid = omega (arith, clean, c.upgrade_tables.ensures.clean) in
    let held = c.in_ok-held.held in
    let set = c.as_slice.ensures.value ∙ c.in_ok-added.ensures.set in
    let acts = c.as_slice-2.ensures.value ∙ c.in_ok-added.ensures.acts in
    let may = told_may held.set (kept_in held.loaded) _ c.in_ok-added.ensures.acts c.in_ok-added.ensures.first c.in_ok-added.ensures.tables c.in_ok-added.ensures.apart in
    leaves_second old mid new held.server held.set (kept_in held.loaded) (length held.loaded.entries.items) _ _ _ c.version_text-version.ensures set acts
    may (c.in_ok-held.ensures.ok mid_clean) (c.in_ok-held.ensures.all mid_clean) (c.upgrade_tables.ensures.stop clean)
    (c.inspect.ensures.stop mid_clean) (λ db up may. g.met.S.Store.settled c.args.conn.now.store db up may)

pub returns-clause-stop : goal.returns-clause-stop
returns-clause-stop g c clean =
    let old = state g.S.Store c.args.conn.now in
    let mid = state g.S.Store c.inspect.new.conn in
    let new = state g.S.Store c.upgrade_tables.new.conn in
    let mid_clean : IsUndisturbed mid = omega (arith, clean, c.upgrade_tables.ensures.clean) in
    let held = c.in_ok-held.held in
    let set = c.as_slice.ensures.value ∙ c.in_ok-added.ensures.set in
    let acts = c.as_slice-2.ensures.value ∙ c.in_ok-added.ensures.acts in
    let may = told_may held.set (kept_in held.loaded) _ c.in_ok-added.ensures.acts c.in_ok-added.ensures.first c.in_ok-added.ensures.tables c.in_ok-added.ensures.apart in
    leaves_second old mid new held.server held.set (kept_in held.loaded) (length held.loaded.entries.items) _ _ _ c.version_text-version.ensures set acts
    may (c.in_ok-held.ensures.ok mid_clean) (c.in_ok-held.ensures.all mid_clean) (c.upgrade_tables.ensures.stop clean)
    (c.inspect.ensures.stop mid_clean) (λ db up may. g.met.S.Store.settled c.args.conn.now.store db up may)

pub returns-in_err-held-clause-damaged : goal.returns-in_err-held-clause-damaged
returns-in_err-held-clause-damaged g c clean =
    let p = err_from_is_err_and c.from_residual.result c.from_residual.ensures.1 in
    rw (p.1, p.2) (λ is server chains count kept can.
    let own : c.in_err-held.field-0.0 ≡ Damaged = let e = is in cc in
    c.in_err-held.ensures.damaged clean (ap Err own) server chains can.server_of count kept can.few can.keeps)

pub returns-in_err-added-clause-damaged : goal.returns-in_err-added-clause-damaged
returns-in_err-added-clause-damaged g c clean =
    let p = err_from_is_err_and c.from_residual-in_err-added.result c.from_residual-in_err-added.ensures.1 in
    rw (p.1, p.2) (λ is server chains count kept can.
    let own : c.in_err-added.field-0.0 ≡ Damaged = let e = is in cc in
    let held = c.in_ok-held.held in
    let all = told_can (state g.S.Store c.args.conn.now) held.server server held.set chains (kept_in held.loaded) kept count c.in_ok-held.ensures.set can (c.in_ok-held.ensures.all clean) in
    c.in_err-added.ensures.damaged (ap Err own) all.0 all.1 all.2)
