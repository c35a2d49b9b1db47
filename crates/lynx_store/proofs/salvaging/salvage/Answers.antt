use Rattle.std.proofs.Common.{Err, ap, ◌∙◌, arith}
use Rattle.sqlite.specs.Held.{state}
use Rattle.lynx_sql.proofs.ReadLemmas.{if_ok}
use Rattle.lynx_store.specs.Stored.{contents_of, owner_for}
use Rattle.lynx_store.proofs.Kept.{err_of, goes_on}
use Rattle.lynx_store.proofs.RowsRead.{all_shown, one_heading, shows_a_version}
use Rattle.lynx_store.proofs.salvaging.salvage.Goals as goal

pub returns-in-Ok-clause-all : goal.returns-in-Ok-clause-all
returns-in-Ok-clause-all g c clean =
    if_ok c.salvaged_from.result (λ held found owner count kept few was.
    let shown = c.in-Ok.ensures.ok clean (contents_of owner kept) was.tables in (
      one_heading c.in-Ok.rows.title.items owner (owner_for held.server held.set) shown.title found.title,
      all_shown c.in-Ok.rows.entries.items kept.entries held.entries.items was.formed (omega (arith, few, was.counted)) shown.entries found.longest,
    ))
    c.salvaged_from.ensures.ok

pub returns-in-Ok-clause-same : goal.returns-in-Ok-clause-same
returns-in-Ok-clause-same g c clean other =
    goes_on (state g.S.Store c.args.conn.now) (state g.S.Store c.read_rows.new.conn) (c.in-Ok.ensures.kept clean)

pub returns-in-Ok-clause-damaged : goal.returns-in-Ok-clause-damaged
returns-in-Ok-clause-damaged g c clean is server chains of count kept few was =
    c.salvaged_from.ensures.damaged is server chains of (c.in-Ok.ensures.ok clean (contents_of (owner_for server chains) kept) was.tables).title

pub returns-in-Ok-clause-other : goal.returns-in-Ok-clause-other
returns-in-Ok-clause-other g c clean =
    err_of c.salvaged_from.result (λ fault at is owner count kept was.
    let shown = (c.in-Ok.ensures.ok clean (contents_of owner kept) was.tables).title in
    shows_a_version c.in-Ok.rows.title.items owner shown (c.salvaged_from.ensures.other (at ∙ ap Err is)))
