use Rattle.std.proofs.Common.{◌≡◌, Err, length, ap, sym, subst, arith}
use Rattle.std.proofs.lemmas.Result.{err_from_is_err_and}
use Rattle.sqlite.specs.Held.{state}
use Rattle.lynx_keep.specs.Kept.{kept_in}
use Rattle.lynx_store.specs.declared.fault.StoreFault.TheVariants.{Damaged, OtherSet, OtherVersion}
use Rattle.lynx_store.specs.Extensions.{IsExtendable}
use Rattle.lynx_store.specs.Stored.{IsKept, owner_for}
use Rattle.lynx_store.proofs.Extensions.{extendable, foreign, later_version, tells_old, told_may}
use Rattle.lynx_store.proofs.extending.check_extend.Goals as goal

pub returns-in_err-found-clause-damaged : goal.returns-in_err-found-clause-damaged
returns-in_err-found-clause-damaged g c clean =
    let p = err_from_is_err_and c.from_residual.result c.from_residual.ensures.1 in
    rw (p.1, p.2) (λ is chains count kept can.
    let own : c.in_err-found.field-0.0 ≡ Damaged = let e = is in cc in
    c.in_err-found.ensures.damaged clean (ap Err own) c.args.server chains can.keeps.server_of count kept can.few can.keeps.keeps)

pub returns-in_err-gift_of-clause-version : goal.returns-in_err-gift_of-clause-version
returns-in_err-gift_of-clause-version g c clean =
    let p = err_from_is_err_and c.from_residual-in_err-gift_of.result c.from_residual-in_err-gift_of.ensures.1 in
    rw (p.1, p.2) (λ is.
    let own : c.in_err-gift_of.field-0.0 ≡ OtherVersion = let e = is in cc in
    let held = c.in_ok-found.found in
    later_version (state g.S.Store c.args.conn.now) held.server held.set (kept_in held.loaded) c.in_ok-found.ensures.set (c.in_ok-found.ensures.all clean) c.args.set.now
    (c.in_err-gift_of.ensures.version (ap Err own)))

pub returns-in_err-gift_of-clause-other : goal.returns-in_err-gift_of-clause-other
returns-in_err-gift_of-clause-other g c clean =
    let p = err_from_is_err_and c.from_residual-in_err-gift_of.result c.from_residual-in_err-gift_of.ensures.1 in
    rw (p.1, p.2) (λ is.
    let own : c.in_err-gift_of.field-0.0 ≡ OtherSet = let e = is in cc in
    let held = c.in_ok-found.found in
    foreign (state g.S.Store c.args.conn.now) held.server held.set (kept_in held.loaded) c.in_ok-found.ensures.set (c.in_ok-found.ensures.all clean) c.args.server c.args.set.now
    (c.in_err-gift_of.ensures.other (ap Err own)))

pub returns-in_err-gift_of-clause-damaged : goal.returns-in_err-gift_of-clause-damaged
returns-in_err-gift_of-clause-damaged g c clean =
    let p = err_from_is_err_and c.from_residual-in_err-gift_of.result c.from_residual-in_err-gift_of.ensures.1 in
    rw (p.1, p.2) (λ is chains count kept can.
    let own : c.in_err-gift_of.field-0.0 ≡ Damaged = let e = is in cc in
    let held = c.in_ok-found.found in
    let may = told_may (state g.S.Store c.args.conn.now) held.server held.set (kept_in held.loaded) c.in_ok-found.ensures.set (c.in_ok-found.ensures.all clean)
    c.args.set.now c.args.server chains count kept can in
    c.in_err-gift_of.ensures.damaged (ap Err own) may.0 may.1)

pub returns-clause-ok : goal.returns-clause-ok
returns-clause-ok g c clean =
    let old = state g.S.Store c.args.conn.now in
    let new = state g.S.Store c.inspect.new.conn in
    let held = c.in_ok-found.found in
    let counted : c.len.result ≡ length held.loaded.entries.items = omega (arith, c.len.ensures) in
    subst (λ n. IsExtendable old new n c.args.set.now c.len.result) c.in_ok-gift_of.ensures.server
    (extendable old held.server held.set (kept_in held.loaded) c.in_ok-found.ensures.set (c.in_ok-found.ensures.all clean) new c.args.set.now c.len.result c.in_ok-gift_of.ensures.may
    (subst (λ n. IsKept new (owner_for held.server held.set) n (kept_in held.loaded)) (sym counted) (c.in_ok-found.ensures.ok clean)))

pub returns-clause-told : goal.returns-clause-told
returns-clause-told g c clean =
    let held = c.in_ok-found.found in
    tells_old (state g.S.Store c.args.conn.now) held.server held.set (kept_in held.loaded) c.in_ok-found.ensures.set (c.in_ok-found.ensures.all clean) c.args.set.now
    (record { entries = c.len.result; servers = c.servers.result; was_same = c.is_same.result }) c.is_same.ensures c.servers.ensures.value
