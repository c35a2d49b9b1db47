use Rattle.std.proofs.Common.{◌≡◌, IsTrue, rules}
use Rattle.sqlite.specs.State.{HasCleanDisk}
use Rattle.sqlite.specs.Held.{state}
use Rattle.lynx_sql.specs.Contents.{Contents, retitled}
use Rattle.lynx_sql.specs.Steps.{Keeps}
use Rattle.lynx_sql.proofs.CommitLemmas.{on_ok}
use Rattle.lynx_sql.proofs.UpgradeLemmas.{retitle_made}
use Rattle.lynx_sql.proofs.TransactionLemmas.{HasMade, clean_before, committed, stopped}
use Rattle.lynx_sql.proofs.upgrade.retitle_tables.Goals as goal

there : (g : _) (c : goal.After-conn-2-1 g) → HasCleanDisk (state g.S.Store c.commit.new.self.0) → (before : Contents) → Keeps (state g.S.Store c.args.conn.now) before
    → HasMade (state g.S.Store c.set_text.new.tx.conn.now) (retitled before c.args.set.now)
there g c clean before keeps =
    let last = c.set_text.new.tx.conn.now in
    let last_clean = clean_before (state g.S.Store last) _ _ c.commit.ensures.survives clean in
    let auto : IsTrue c.is_autocommit.result = search rules in
    retitle_made g.S.Store c.args.conn.now c.transaction-tx.result.conn.now last c.transaction-tx.ensures.begun c.args.set.now
    (λ version inside has. c.in_ok-set_text.ensures.ok last_clean inside version has)
    before keeps (c.is_autocommit.ensures.settled auto keeps.is_open)

pub returns-clause-ok : goal.returns-clause-ok
returns-clause-ok g c clean =
    let same : c.commit.new.self.0 ≡ c.conn-2-1.given.0 = search rules in
    let end_clean : HasCleanDisk (state g.S.Store c.commit.new.self.0) = search rules in
    on_ok c.commit.result (λ done before keeps.
    committed g.S.Store c.args.conn.now c.transaction-tx.result.conn.now c.set_text.new.tx.conn.now c.commit.new.self.0 c.conn-2-1.given.0 c.transaction-tx.ensures.begun same _
    (there g c end_clean before keeps) done.1) (c.commit.ensures.ok end_clean)

pub returns-clause-stop : goal.returns-clause-stop
returns-clause-stop g c clean before keeps =
    let same : c.commit.new.self.0 ≡ c.conn-2-1.given.0 = search rules in
    let end_clean : HasCleanDisk (state g.S.Store c.commit.new.self.0) = search rules in
    stopped g.S.Store c.args.conn.now c.transaction-tx.result.conn.now c.set_text.new.tx.conn.now c.commit.new.self.0 c.conn-2-1.given.0 c.transaction-tx.ensures.begun same _
    (there g c end_clean before keeps) c.set_text.ensures.survives c.commit.ensures.survives clean
