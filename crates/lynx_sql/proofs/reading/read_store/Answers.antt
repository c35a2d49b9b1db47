use Rattle.std.proofs.Common.{IsTrue, rules, inl, inr, sym, ◌∙◌}
use Rattle.sqlite.specs.Held.{state}
use Rattle.lynx_sql.specs.Tables.{IsStoreSchema}
use Rattle.lynx_sql.proofs.ReadLemmas.{plain_in, leaves_as_before, if_ok, on_if_ok}
use Rattle.lynx_sql.proofs.AfterQuery.{same_tables, is_store}
use Rattle.lynx_sql.proofs.reading.read_store.Goals as goal

pub returns-clause-shown : goal.returns-clause-shown
returns-clause-shown g c clean =
    let auto : IsTrue c.is_autocommit.result = search rules in
    let found : IsStoreSchema c.schema.result.now = c.is_store.ensures.0 (search rules) in
    let has : IsStoreSchema (state g.S.Store c.args.conn.now).now.schema = record { version = found.version; is = sym c.schema.ensures.value ∙ found.is } in
    if_ok c.query_all.result (λ rows shown. (c.schema.ensures.live, c.is_autocommit.ensures.settled auto, has, shown)) (c.query_all.ensures.ok clean)

pub returns-clause-store : goal.returns-clause-store
returns-clause-store g c clean =
    on_if_ok c.query_all.result (λ rows it. is_store g.S.Store c.args.conn.now c.query_all.new.self c.args.text.now rows.items c.requires it) (returns-clause-shown g c clean)

pub returns-clause-same : goal.returns-clause-same
returns-clause-same g c clean =
    on_if_ok c.query_all.result (λ rows it. same_tables g.S.Store c.args.conn.now c.query_all.new.self c.args.text.now rows.items c.requires it) (returns-clause-shown g c clean)

pub returns-clause-stop : goal.returns-clause-stop
returns-clause-stop g c clean db may =
    let old = state g.S.Store c.args.conn.now in
    let found : IsStoreSchema c.schema.result.now = c.is_store.ensures.0 (search rules) in
    let has : IsStoreSchema old.now.schema = record { version = found.version; is = sym c.schema.ensures.value ∙ found.is } in
    let new = state g.S.Store c.query_all.new.self in
    let plain = plain_in old c.args.text.now has c.requires in
    elim ((leaves_as_before c.args.text.now _ old new plain c.query_all.ensures.survives).crash clean db may) [ inl before ↦ before | inr none ↦ absurd none ]
