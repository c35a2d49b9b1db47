use Rattle.std.proofs.Common.{IsTrue, ap, ◌≡◌, ◌∙◌, length, rules}
use Rattle.sqlite.specs.State.{HasCleanDisk}
use Rattle.sqlite.specs.Held.{state}
use Rattle.lynx_sql.specs.Acts.{AreNext, version_of}
use Rattle.lynx_sql.specs.Contents.{Contents, bodies_in, with_bodies}
use Rattle.lynx_sql.specs.Tables.{store_schema}
use Rattle.lynx_sql.specs.Steps.{Keeps}
use Rattle.lynx_sql.proofs.BatchLemmas.{all_made}
use Rattle.lynx_sql.proofs.CommitLemmas.{on_ok}
use Rattle.lynx_sql.proofs.CellChanges.{changes_applied}
use Rattle.lynx_sql.proofs.TransactionLemmas.{HasMade, clean_before, survives_both, committed, stopped}
use Rattle.lynx_sql.proofs.batch.write_entries.Goals as goal

there : (g : _) (c : goal.After-conn-2-1 g) → HasCleanDisk (state g.S.Store c.commit.new.self.0) → AreNext c.args.acts.now c.args.place (length c.args.bodies.now)
    → (before : Contents) → Keeps (state g.S.Store c.args.conn.now) before → version_of before.acted ≡ c.args.version → c.args.place ≡ length before.bodies
    → HasMade (state g.S.Store c.note_acts.new.tx.conn.now) (with_bodies before (bodies_in c.args.bodies.now) c.args.changes.now c.args.acts.now)
there g c clean next before keeps is at =
    let mid = c.insert_entries.new.tx.conn.now in
    let late = c.write_cells.new.tx.conn.now in
    let last = c.note_acts.new.tx.conn.now in
    let last_clean = clean_before (state g.S.Store last) _ _ c.commit.ensures.survives clean in
    let late_clean = clean_before (state g.S.Store late) _ _ c.note_acts.ensures.survives last_clean in
    let mid_clean = clean_before (state g.S.Store mid) _ _ c.write_cells.ensures.survives late_clean in
    let auto : IsTrue c.is_autocommit.result = search rules in
    all_made g.S.Store c.args.conn.now c.transaction-tx.result.conn.now mid late last c.transaction-tx.ensures.begun c.args.version (keeps.schema ∙ ap store_schema is)
    c.args.place c.args.bodies.now c.args.changes.now c.args.acts.now next
    (λ up on has. c.in_ok-insert_entries.ensures.ok mid_clean on up c.args.version has)
    (λ up on has. changes_applied (state g.S.Store mid) (state g.S.Store late) c.list.result.now c.args.changes.now c.list.ensures (c.in_ok-write_cells.ensures.ok late_clean on up c.args.version has))
    (λ up on has. c.in_ok-note_acts.ensures.ok last_clean on up has)
    before keeps (c.is_autocommit.ensures.settled auto keeps.is_open) at

pub returns-clause-ok : goal.returns-clause-ok
returns-clause-ok g c clean next =
    let same : c.commit.new.self.0 ≡ c.conn-2-1.given.0 = search rules in
    let end_clean : HasCleanDisk (state g.S.Store c.commit.new.self.0) = search rules in
    on_ok c.commit.result (λ done before keeps is at.
    committed g.S.Store c.args.conn.now c.transaction-tx.result.conn.now c.note_acts.new.tx.conn.now c.commit.new.self.0 c.conn-2-1.given.0 c.transaction-tx.ensures.begun same _
    (there g c end_clean next before keeps is at) done.1) (c.commit.ensures.ok end_clean)

pub returns-clause-stop : goal.returns-clause-stop
returns-clause-stop g c clean next before keeps is at =
    let same : c.commit.new.self.0 ≡ c.conn-2-1.given.0 = search rules in
    let end_clean : HasCleanDisk (state g.S.Store c.commit.new.self.0) = search rules in
    let first = survives_both _ _ _ c.insert_entries.ensures.survives c.write_cells.ensures.survives in
    stopped g.S.Store c.args.conn.now c.transaction-tx.result.conn.now c.note_acts.new.tx.conn.now c.commit.new.self.0 c.conn-2-1.given.0 c.transaction-tx.ensures.begun same _
    (there g c end_clean next before keeps is at) (survives_both _ _ _ first c.note_acts.ensures.survives) c.commit.ensures.survives clean
