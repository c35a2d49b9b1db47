use Rattle.std.proofs.Common.{◌≡◌, rules}
use Rattle.sqlite.specs.State.{HasCleanDisk}
use Rattle.sqlite.specs.Held.{state}
use Rattle.lynx_sql.specs.Contents.{title_of, titled}
use Rattle.lynx_sql.specs.Tables.{no_schema}
use Rattle.lynx_sql.proofs.CommitLemmas.{on_ok}
use Rattle.lynx_sql.proofs.CreateLemmas.{store_made}
use Rattle.lynx_sql.proofs.TransactionLemmas.{HasMade, clean_before, survives_both, committed, stopped}
use Rattle.lynx_sql.proofs.making.make_store.Goals as goal

there : (g : _) (c : goal.After-conn-2-1 g) → HasCleanDisk (state g.S.Store c.commit.new.self.0) → (state g.S.Store c.args.conn.now).now.schema ≡ no_schema
    → HasMade (state g.S.Store c.write_title.new.tx.conn.now) (titled c.args.tables (title_of c.args.version.now c.args.server.now c.args.set.now))
there g c clean has =
    let one = c.make_tables.new.tx.conn.now in
    let last = c.write_title.new.tx.conn.now in
    let last_clean = clean_before (state g.S.Store last) _ _ c.commit.ensures.survives clean in
    let one_clean = clean_before (state g.S.Store one) _ _ c.write_title.ensures.survives last_clean in
    store_made g.S.Store c.args.conn.now c.transaction-tx.result.conn.now one last c.args.tables (title_of c.args.version.now c.args.server.now c.args.set.now) c.transaction-tx.ensures.begun
    (c.in_ok-make_tables.ensures.ok one_clean) (λ inside has. c.in_ok-write_title.ensures.ok last_clean inside c.args.tables has) has

pub returns-clause-ok : goal.returns-clause-ok
returns-clause-ok g c clean has =
    let same : c.commit.new.self.0 ≡ c.conn-2-1.given.0 = search rules in
    let end_clean : HasCleanDisk (state g.S.Store c.commit.new.self.0) = search rules in
    on_ok c.commit.result (λ done.
    committed g.S.Store c.args.conn.now c.transaction-tx.result.conn.now c.write_title.new.tx.conn.now c.commit.new.self.0 c.conn-2-1.given.0 c.transaction-tx.ensures.begun same _
    (there g c end_clean has) done.1) (c.commit.ensures.ok end_clean)

pub returns-clause-stop : goal.returns-clause-stop
returns-clause-stop g c clean has =
    let same : c.commit.new.self.0 ≡ c.conn-2-1.given.0 = search rules in
    let end_clean : HasCleanDisk (state g.S.Store c.commit.new.self.0) = search rules in
    stopped g.S.Store c.args.conn.now c.transaction-tx.result.conn.now c.write_title.new.tx.conn.now c.commit.new.self.0 c.conn-2-1.given.0 c.transaction-tx.ensures.begun same _
    (there g c end_clean has) (survives_both _ _ _ c.make_tables.ensures.survives c.write_title.ensures.survives) c.commit.ensures.survives clean
