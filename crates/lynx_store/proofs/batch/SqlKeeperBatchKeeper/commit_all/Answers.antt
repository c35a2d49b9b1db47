use Rattle.std.proofs.Common.{◌∙◌, ap, arith}
use Rattle.sqlite.specs.Held.{state}
use Rattle.lynx_sql.specs.Contents.{bodies_in}
use Rattle.lynx_store.specs.Heading.{owner_in}
use Rattle.lynx_store.proofs.Batches.{kept_with_all, left_with_all}
use Rattle.lynx_store.proofs.batch.SqlKeeperBatchKeeper.commit_all.Goals as goal

pub returns-in-Ok-clause-ok : goal.returns-in-Ok-clause-ok
returns-in-Ok-clause-ok g c clean =
    kept_with_all (state g.S.Store c.args.self.now.conn) (state g.S.Store c.write_entries.new.conn) (owner_in c.args.self.now.heading) c.args.self.now.count
    c.args.entries.now c.as_slice.result.now c.args.changes.now c.as_slice-2.result.now (ap bodies_in c.as_slice.ensures.value ∙ c.in_ok-bodies.ensures.encodings)
    c.in_ok-bodies.ensures.formed (c.as_slice-2.ensures.value ∙ c.in_ok-acts.ensures)
    c.in-Some.count (omega (arith, c.in-Some.ensures.some)) (c.in-Ok.ensures.ok clean)

pub returns-in-Ok-clause-stop : goal.returns-in-Ok-clause-stop
returns-in-Ok-clause-stop g c clean =
    left_with_all (state g.S.Store c.args.self.now.conn) (state g.S.Store c.write_entries.new.conn) (owner_in c.args.self.now.heading) c.args.self.now.count
    c.args.entries.now c.as_slice.result.now c.args.changes.now c.as_slice-2.result.now (ap bodies_in c.as_slice.ensures.value ∙ c.in_ok-bodies.ensures.encodings)
    c.in_ok-bodies.ensures.formed (c.as_slice-2.ensures.value ∙ c.in_ok-acts.ensures)
    (c.write_entries.ensures.stop clean) (λ db up may. g.met.S.Store.settled c.args.self.now.conn.store db up may)

pub returns-clause-stop : goal.returns-clause-stop
returns-clause-stop g c clean =
    let noted = c.fail-in-Err.ensures.noted in
    rw noted (left_with_all (state g.S.Store c.args.self.now.conn) (state g.S.Store c.write_entries.new.conn) (owner_in c.args.self.now.heading) c.args.self.now.count
    c.args.entries.now c.as_slice.result.now c.args.changes.now c.as_slice-2.result.now (ap bodies_in c.as_slice.ensures.value ∙ c.in_ok-bodies.ensures.encodings)
    c.in_ok-bodies.ensures.formed (c.as_slice-2.ensures.value ∙ c.in_ok-acts.ensures)
    (c.write_entries.ensures.stop (rw noted at clean)) (λ db up may. g.met.S.Store.settled c.args.self.now.conn.store db up may))
