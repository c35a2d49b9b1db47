use Rattle.std.proofs.Common.{◌≡◌, Err, refl, sym, ap, subst, ◌∙◌, arith}
use Rattle.sqlite.specs.Held.{state}
use Rattle.lynx_keep.specs.Kept.{kept_in}
use Rattle.lynx_sql.proofs.ReadLemmas.{if_ok}
use Rattle.lynx_store.specs.Stored.{Tells, contents_of, owner_for, version_for}
use Rattle.lynx_store.proofs.Kept.{err_of, every_err, goes_on, placed}
use Rattle.lynx_store.proofs.RowsRead.{one_owner, one_state, shows_a_version}
use Rattle.lynx_store.proofs.inspecting.inspect.Goals as goal

pub returns-in-Ok-clause-ok : goal.returns-in-Ok-clause-ok
returns-in-Ok-clause-ok g c clean =
    if_ok c.told_by.result (λ held tells. record {
      tables = c.in-Ok.ensures.back clean (contents_of (owner_for held.server held.set) (kept_in held.loaded)) tells.cells
          (placed (version_for held.set.version) held.loaded.entries.items tells.formed) tells.shown;
      counted = refl;
      formed = tells.formed;
    }) c.told_by.ensures.ok

pub returns-in-Ok-clause-all : goal.returns-in-Ok-clause-all
returns-in-Ok-clause-all g c clean =
    if_ok c.told_by.result (λ held tells owner count kept was.
    let shown = c.in-Ok.ensures.ok clean (contents_of owner kept) was.tables in
    let same : owner ≡ owner_for held.server held.set = one_owner c.in-Ok.rows owner (owner_for held.server held.set) kept (kept_in held.loaded) shown tells.shown in
    (same, one_state c.in-Ok.rows owner kept (kept_in held.loaded) was.formed shown (subst (λ own. Tells c.in-Ok.rows own (kept_in held.loaded)) (sym same) tells)))
    c.told_by.ensures.ok

pub returns-in-Ok-clause-same : goal.returns-in-Ok-clause-same
returns-in-Ok-clause-same g c clean =
    every_err c.told_by.result (λ fault unlike. goes_on (state g.S.Store c.args.conn.now) (state g.S.Store c.read_rows.new.conn) (c.in-Ok.ensures.kept clean))

pub returns-in-Ok-clause-other : goal.returns-in-Ok-clause-other
returns-in-Ok-clause-other g c clean =
    err_of c.told_by.result (λ fault at is owner count kept was.
    let shown = (c.in-Ok.ensures.ok clean (contents_of owner kept) was.tables).title in
    shows_a_version c.in-Ok.rows.title.items owner shown (c.told_by.ensures.other (at ∙ ap Err is)))

pub returns-in-Ok-clause-damaged : goal.returns-in-Ok-clause-damaged
returns-in-Ok-clause-damaged g c clean is server chains of count kept few was =
    let tells : Tells c.in-Ok.rows (owner_for server chains) kept = record {
      cells = c.in-Ok.ensures.formed clean (contents_of (owner_for server chains) kept) was.tables;
      shown = c.in-Ok.ensures.ok clean (contents_of (owner_for server chains) kept) was.tables;
      formed = was.formed;
    } in
    c.told_by.ensures.damaged is server chains kept of (omega (arith, few, was.counted)) tells
