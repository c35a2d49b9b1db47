use Rattle.std.proofs.Common.{◌≡◌, Err, length, true, false, ap, sym, subst, refl, arith}
use Rattle.std.proofs.lemmas.Result.{err_from_is_err_and}
use Rattle.sqlite.specs.Held.{state}
use Rattle.lynx_keep.specs.Kept.{kept_in}
use Rattle.lynx_set.specs.Set.{Set}
use Rattle.lynx_store.specs.declared.fault.StoreFault.TheVariants.{Damaged, OtherSet, OtherVersion}
use Rattle.lynx_store.specs.Extensions.{ExtendsStore, IsOfSet}
use Rattle.lynx_store.specs.Premise.{IsUndisturbed}
use Rattle.lynx_store.specs.Stored.{IsKept, owner_for}
use Rattle.lynx_store.proofs.Extensions.{extends_store, foreign, given_kept, later_version, leaves_extended, left_so, of_set, tells_old, told_may}
use Rattle.lynx_store.proofs.extending.extend_store.Goals as goal

pub returns-in_err-held-clause-kept : goal.returns-in_err-held-clause-kept
returns-in_err-held-clause-kept g c clean =
    let p = err_from_is_err_and c.from_residual.result c.from_residual.ensures.1 in
    rw (p.1, p.2) (c.in_err-held.ensures.same clean)

pub returns-in_err-held-clause-damaged : goal.returns-in_err-held-clause-damaged
returns-in_err-held-clause-damaged g c clean =
    let p = err_from_is_err_and c.from_residual.result c.from_residual.ensures.1 in
    rw (p.1, p.2) (λ is chains count kept can.
    let own : c.in_err-held.field-0.0 ≡ Damaged = let e = is in cc in
    c.in_err-held.ensures.damaged clean (ap Err own) c.args.server chains can.keeps.server_of count kept can.few can.keeps.keeps)

pub returns-in_err-gift-clause-version : goal.returns-in_err-gift-clause-version
returns-in_err-gift-clause-version g c clean =
    let p = err_from_is_err_and c.from_residual-in_err-gift.result c.from_residual-in_err-gift.ensures.1 in
    rw (p.1, p.2) (λ is.
    let own : c.in_err-gift.field-0.0 ≡ OtherVersion = let e = is in cc in
    let held = c.in_ok-held.held in
    later_version (state g.S.Store c.args.conn.now) held.server held.set (kept_in held.loaded) c.in_ok-held.ensures.set (c.in_ok-held.ensures.all clean) c.args.set.now
    (c.in_err-gift.ensures.version (ap Err own)))

pub returns-in_err-gift-clause-other : goal.returns-in_err-gift-clause-other
returns-in_err-gift-clause-other g c clean =
    let p = err_from_is_err_and c.from_residual-in_err-gift.result c.from_residual-in_err-gift.ensures.1 in
    rw (p.1, p.2) (λ is.
    let own : c.in_err-gift.field-0.0 ≡ OtherSet = let e = is in cc in
    let held = c.in_ok-held.held in
    foreign (state g.S.Store c.args.conn.now) held.server held.set (kept_in held.loaded) c.in_ok-held.ensures.set (c.in_ok-held.ensures.all clean) c.args.server c.args.set.now
    (c.in_err-gift.ensures.other (ap Err own)))

pub returns-in_err-gift-clause-damaged : goal.returns-in_err-gift-clause-damaged
returns-in_err-gift-clause-damaged g c clean =
    let p = err_from_is_err_and c.from_residual-in_err-gift.result c.from_residual-in_err-gift.ensures.1 in
    rw (p.1, p.2) (λ is chains count kept can.
    let own : c.in_err-gift.field-0.0 ≡ Damaged = let e = is in cc in
    let held = c.in_ok-held.held in
    let may = told_may (state g.S.Store c.args.conn.now) held.server held.set (kept_in held.loaded) c.in_ok-held.ensures.set (c.in_ok-held.ensures.all clean)
    c.args.set.now c.args.server chains count kept can in
    c.in_err-gift.ensures.damaged (ap Err own) may.0 may.1)

pub returns-then-is_same-clause-ok : goal.returns-then-is_same-clause-ok
returns-then-is_same-clause-ok g c clean =
    let old = state g.S.Store c.args.conn.now in
    let new = state g.S.Store c.inspect.new.conn in
    let held = c.in_ok-held.held in
    let same : held.set ≡ c.args.set.now = c.is_same.ensures.0 c.if-is_same.true in
    let counted : c.len-entries.result ≡ length held.loaded.entries.items = omega (arith, c.len-entries.ensures) in
    let now = subst (λ (s : Set). IsKept new (owner_for held.server s) c.len-entries.result (kept_in held.loaded)) same
    (subst (λ n. IsKept new (owner_for held.server held.set) n (kept_in held.loaded)) (sym counted) (c.in_ok-held.ensures.ok clean)) in
    subst (λ n. ExtendsStore old new n c.args.set.now c.len-entries.result) c.in_ok-gift.ensures.server
    (extends_store old held.server held.set (kept_in held.loaded) c.in_ok-held.ensures.set (c.in_ok-held.ensures.all clean) new c.args.set.now c.len-entries.result c.in_ok-gift.ensures.may now)

pub returns-then-is_same-clause-told : goal.returns-then-is_same-clause-told
returns-then-is_same-clause-told g c clean =
    let held = c.in_ok-held.held in
    let same : held.set ≡ c.args.set.now = c.is_same.ensures.0 c.if-is_same.true in
    tells_old (state g.S.Store c.args.conn.now) held.server held.set (kept_in held.loaded) c.in_ok-held.ensures.set (c.in_ok-held.ensures.all clean) c.args.set.now
    (record { entries = c.len-entries.result; servers = c.servers-servers.result; was_same = true }) (λ _. same, λ _. refl) c.servers-servers.ensures.value

pub returns-then-is_same-clause-of : goal.returns-then-is_same-clause-of
returns-then-is_same-clause-of g c clean =
    let new = state g.S.Store c.inspect.new.conn in
    let held = c.in_ok-held.held in
    let same : held.set ≡ c.args.set.now = c.is_same.ensures.0 c.if-is_same.true in
    let counted : c.len-entries.result ≡ length held.loaded.entries.items = omega (arith, c.len-entries.ensures) in
    let now = subst (λ (s : Set). IsKept new (owner_for held.server s) c.len-entries.result (kept_in held.loaded)) same
    (subst (λ n. IsKept new (owner_for held.server held.set) n (kept_in held.loaded)) (sym counted) (c.in_ok-held.ensures.ok clean)) in
    subst (λ n. IsOfSet new n c.args.set.now c.len-entries.result) c.in_ok-gift.ensures.server
    (of_set new held.server held.set c.args.set.now (kept_in held.loaded) c.len-entries.result c.in_ok-held.ensures.set c.in_ok-gift.ensures.may.extends now)

pub returns-in_err-give-clause-kept : goal.returns-in_err-give-clause-kept
returns-in_err-give-clause-kept g c clean =
    let p = err_from_is_err_and c.from_residual-in_err-give.result c.from_residual-in_err-give.ensures.1 in
    rw (p.1, p.2) (λ unstored. absurd (unstored c.in_err-give.ensures.err))

pub returns-in_err-give-clause-stop : goal.returns-in_err-give-clause-stop
returns-in_err-give-clause-stop g c clean =
    let old = state g.S.Store c.args.conn.now in
    let mid = state g.S.Store c.inspect.new.conn in
    let new = state g.S.Store c.give.new.conn in
    let mid_clean : IsUndisturbed mid = omega (arith, clean, c.give.ensures.clean) in
    let held = c.in_ok-held.held in
    let gift = c.in_ok-gift.gift in
    leaves_extended old held.server held.set (kept_in held.loaded) c.in_ok-held.ensures.set (c.in_ok-held.ensures.all mid_clean) new c.args.set.now c.in_ok-gift.ensures.may
    (left_so old mid new held.server (length held.loaded.entries.items) held.set c.args.set.now (kept_in held.loaded) gift.set.items gift.acts c.in_ok-gift.ensures.set c.in_ok-gift.ensures.acts
    (c.in_ok-held.ensures.ok mid_clean) (c.give.ensures.stop clean) (c.inspect.ensures.stop mid_clean))
    (λ db up may. g.met.S.Store.settled c.args.conn.now.store db up may)

pub returns-clause-ok : goal.returns-clause-ok
returns-clause-ok g c clean =
    let old = state g.S.Store c.args.conn.now in
    let mid = state g.S.Store c.inspect.new.conn in
    let new = state g.S.Store c.give.new.conn in
    let mid_clean : IsUndisturbed mid = omega (arith, clean, c.give.ensures.clean) in
    let held = c.in_ok-held.held in
    let gift = c.in_ok-gift.gift in
    let counted : c.len-entries.result ≡ length held.loaded.entries.items = omega (arith, c.len-entries.ensures) in
    let now = given_kept mid new held.server (length held.loaded.entries.items) held.set c.args.set.now (kept_in held.loaded) gift.set.items gift.acts c.in_ok-gift.ensures.set
    c.in_ok-gift.ensures.acts (c.in_ok-held.ensures.ok mid_clean) (c.in_ok-give.ensures.ok clean) in
    subst (λ n. ExtendsStore old new n c.args.set.now c.len-entries.result) c.in_ok-gift.ensures.server
    (extends_store old held.server held.set (kept_in held.loaded) c.in_ok-held.ensures.set (c.in_ok-held.ensures.all mid_clean) new c.args.set.now c.len-entries.result c.in_ok-gift.ensures.may
    (subst (λ n. IsKept new (owner_for held.server c.args.set.now) n (kept_in held.loaded)) (sym counted) now))

pub returns-clause-told : goal.returns-clause-told
returns-clause-told g c clean =
    let mid = state g.S.Store c.inspect.new.conn in
    let mid_clean : IsUndisturbed mid = omega (arith, clean, c.give.ensures.clean) in
    let held = c.in_ok-held.held in
    tells_old (state g.S.Store c.args.conn.now) held.server held.set (kept_in held.loaded) c.in_ok-held.ensures.set (c.in_ok-held.ensures.all mid_clean) c.args.set.now
    (record { entries = c.len-entries.result; servers = c.servers-servers.result; was_same = false })
    (λ never. cc, λ same. absurd (let yes = c.is_same.ensures.1 same in let no = c.if-is_same.false in cc)) c.servers-servers.ensures.value

pub returns-clause-of : goal.returns-clause-of
returns-clause-of g c clean =
    let mid = state g.S.Store c.inspect.new.conn in
    let new = state g.S.Store c.give.new.conn in
    let mid_clean : IsUndisturbed mid = omega (arith, clean, c.give.ensures.clean) in
    let held = c.in_ok-held.held in
    let gift = c.in_ok-gift.gift in
    let counted : c.len-entries.result ≡ length held.loaded.entries.items = omega (arith, c.len-entries.ensures) in
    let now = given_kept mid new held.server (length held.loaded.entries.items) held.set c.args.set.now (kept_in held.loaded) gift.set.items gift.acts c.in_ok-gift.ensures.set
    c.in_ok-gift.ensures.acts (c.in_ok-held.ensures.ok mid_clean) (c.in_ok-give.ensures.ok clean) in
    subst (λ n. IsOfSet new n c.args.set.now c.len-entries.result) c.in_ok-gift.ensures.server
    (of_set new held.server held.set c.args.set.now (kept_in held.loaded) c.len-entries.result c.in_ok-held.ensures.set c.in_ok-gift.ensures.may.extends
    (subst (λ n. IsKept new (owner_for held.server c.args.set.now) n (kept_in held.loaded)) (sym counted) now))

pub returns-clause-stop : goal.returns-clause-stop
returns-clause-stop g c clean =
    let old = state g.S.Store c.args.conn.now in
    let mid = state g.S.Store c.inspect.new.conn in
    let new = state g.S.Store c.give.new.conn in
    let mid_clean : IsUndisturbed mid = omega (arith, clean, c.give.ensures.clean) in
    let held = c.in_ok-held.held in
    let gift = c.in_ok-gift.gift in
    leaves_extended old held.server held.set (kept_in held.loaded) c.in_ok-held.ensures.set (c.in_ok-held.ensures.all mid_clean) new c.args.set.now c.in_ok-gift.ensures.may
    (left_so old mid new held.server (length held.loaded.entries.items) held.set c.args.set.now (kept_in held.loaded) gift.set.items gift.acts c.in_ok-gift.ensures.set c.in_ok-gift.ensures.acts
    (c.in_ok-held.ensures.ok mid_clean) (c.give.ensures.stop clean) (c.inspect.ensures.stop mid_clean))
    (λ db up may. g.met.S.Store.settled c.args.conn.now.store db up may)
