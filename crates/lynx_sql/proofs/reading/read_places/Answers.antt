use Rattle.std.proofs.Common.{◌≡◌, rules, ap, sym, ◌∙◌}
use Rattle.sqlite.specs.Effect.{Database as Found}
use Rattle.sqlite.specs.Held.{state}
use Rattle.lynx_sql.specs.declared.version.StoreVersion.TheVariants.{Two}
use Rattle.lynx_sql.specs.Tables.{store_schema}
use Rattle.lynx_sql.specs.Texts.{places_text}
use Rattle.lynx_sql.proofs.ReadLemmas.{if_ok, on_if_ok}
use Rattle.lynx_sql.proofs.CommitLemmas.{on_ok}
use Rattle.lynx_sql.proofs.ActsRead.{places_answer, places_only_read, places_shown}
use Rattle.lynx_sql.proofs.AfterQuery.{unchanged, acts_kept}
use Rattle.lynx_sql.proofs.KeptBack.{keeps_over}
use Rattle.lynx_sql.proofs.reading.read_places.Goals as goal

pub read_store-requires : goal.read_store-requires
read_store-requires g c = places_only_read (state g.S.Store c.args.conn.now) (sym c.schema.ensures.value ∙ c.is_second.ensures.0 (search rules))

pub returns-clause-version : goal.returns-clause-version
returns-clause-version g c clean =
    let second : (state g.S.Store c.args.conn.now).now.schema ≡ store_schema Two = sym c.schema.ensures.value ∙ c.is_second.ensures.0 (search rules) in
    on_ok c.read_store.result (λ same. (second, ap (λ (d : Found). d.schema) same.0 ∙ second)) (c.read_store.ensures.same clean)

pub returns-clause-ok : goal.returns-clause-ok
returns-clause-ok g c clean =
    let second : (state g.S.Store c.args.conn.now).now.schema ≡ store_schema Two = sym c.schema.ensures.value ∙ c.is_second.ensures.0 (search rules) in
    if_ok c.read_store.result (λ rows. places_shown _ _ rows.items second) (c.read_store.ensures.shown clean)

pub returns-clause-back : goal.returns-clause-back
returns-clause-back g c clean =
    let second : (state g.S.Store c.args.conn.now).now.schema ≡ store_schema Two = sym c.schema.ensures.value ∙ c.is_second.ensures.0 (search rules) in
    if_ok c.read_store.result (λ rows it.
    acts_kept g.S.Store c.args.conn.now c.read_store.new.conn places_text rows.items (places_only_read (state g.S.Store c.args.conn.now) second) it
    (g.met.S.Rising.rises c.args.conn.now.store) second (places_answer _ _ rows.items second it)) (c.read_store.ensures.shown clean)

pub returns-clause-kept : goal.returns-clause-kept
returns-clause-kept g c clean =
    let second : (state g.S.Store c.args.conn.now).now.schema ≡ store_schema Two = sym c.schema.ensures.value ∙ c.is_second.ensures.0 (search rules) in
    on_if_ok c.read_store.result (λ rows it contents.
    let same = unchanged g.S.Store c.args.conn.now c.read_store.new.conn places_text rows.items (places_only_read (state g.S.Store c.args.conn.now) second) it in
    keeps_over _ _ contents same.0.is_open (same.0.now_is, same.0.committed_is)) (c.read_store.ensures.shown clean)
