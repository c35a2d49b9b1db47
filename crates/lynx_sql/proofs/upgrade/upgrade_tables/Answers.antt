use Rattle.std.proofs.Common.{◌≡◌, IsTrue, None, length, rules}
use Rattle.sqlite.specs.State.{HasCleanDisk}
use Rattle.sqlite.specs.Held.{state}
use Rattle.lynx_sql.specs.declared.version.StoreVersion.TheVariants.{Two}
use Rattle.lynx_sql.specs.Acts.{ArePlaced}
use Rattle.lynx_sql.specs.Contents.{Contents, upgraded}
use Rattle.lynx_sql.specs.Steps.{Keeps}
use Rattle.lynx_sql.proofs.CommitLemmas.{on_ok}
use Rattle.lynx_sql.proofs.UpgradeLemmas.{upgrade_made}
use Rattle.lynx_sql.proofs.TransactionLemmas.{HasMade, clean_before, survives_both, committed, stopped}
use Rattle.lynx_sql.proofs.upgrade.upgrade_tables.Goals as goal

there : (g : _) (c : goal.After-conn-2-1 g) → HasCleanDisk (state g.S.Store c.commit.new.self.0)
    → (before : Contents) → Keeps (state g.S.Store c.args.conn.now) before → before.acted ≡ None → ArePlaced c.args.acts.now (length before.bodies)
    → HasMade (state g.S.Store c.retitle.new.tx.conn.now) (upgraded before c.args.version.now c.args.set.now c.args.acts.now)
there g c clean before keeps none placed =
    let mid = c.add_acted.new.tx.conn.now in
    let last = c.retitle.new.tx.conn.now in
    let last_clean = clean_before (state g.S.Store last) _ _ c.commit.ensures.survives clean in
    let mid_clean = clean_before (state g.S.Store mid) _ _ c.retitle.ensures.survives last_clean in
    let auto : IsTrue c.is_autocommit.result = search rules in
    upgrade_made g.S.Store c.args.conn.now c.transaction-tx.result.conn.now mid last c.transaction-tx.ensures.begun c.args.version.now c.args.set.now c.args.acts.now
    (c.in_ok-add_acted.ensures.ok mid_clean) (λ inside has. c.in_ok-retitle.ensures.ok last_clean inside Two has)
    before keeps none placed (c.is_autocommit.ensures.settled auto keeps.is_open)

pub returns-clause-ok : goal.returns-clause-ok
returns-clause-ok g c clean =
    let same : c.commit.new.self.0 ≡ c.conn-2-1.given.0 = search rules in
    let end_clean : HasCleanDisk (state g.S.Store c.commit.new.self.0) = search rules in
    on_ok c.commit.result (λ done before keeps none placed.
    committed g.S.Store c.args.conn.now c.transaction-tx.result.conn.now c.retitle.new.tx.conn.now c.commit.new.self.0 c.conn-2-1.given.0 c.transaction-tx.ensures.begun same _
    (there g c end_clean before keeps none placed) done.1) (c.commit.ensures.ok end_clean)

pub returns-clause-stop : goal.returns-clause-stop
returns-clause-stop g c clean before keeps none placed =
    let same : c.commit.new.self.0 ≡ c.conn-2-1.given.0 = search rules in
    let end_clean : HasCleanDisk (state g.S.Store c.commit.new.self.0) = search rules in
    stopped g.S.Store c.args.conn.now c.transaction-tx.result.conn.now c.retitle.new.tx.conn.now c.commit.new.self.0 c.conn-2-1.given.0 c.transaction-tx.ensures.begun same _
    (there g c end_clean before keeps none placed) (survives_both _ _ _ c.add_acted.ensures.survives c.retitle.ensures.survives) c.commit.ensures.survives clean
