use Rattle.std.proofs.Common.{◌∙◌}
use Rattle.sqlite.specs.Held.{state}
use Rattle.lynx_store.specs.Heading.{owner_in}
use Rattle.lynx_store.proofs.ActLemmas.{at_place}
use Rattle.lynx_store.proofs.Kept.{kept_with, left_with}
use Rattle.lynx_store.proofs.keeper.SqlKeeperKeeper.commit.Goals as goal

pub returns-in-Ok-clause-ok : goal.returns-in-Ok-clause-ok
returns-in-Ok-clause-ok g c clean =
    kept_with (state g.S.Store c.args.self.now.conn) (state g.S.Store c.write_entry.new.conn) (owner_in c.args.self.now.heading) c.args.self.now.count
    c.args.entry.now c.as_slice.result.now c.args.changes.now c.act_at-acted.result (c.as_slice.ensures.value ∙ c.in_ok-body.ensures.encoding) c.act_at-acted.ensures
    (c.in-Ok.ensures.ok clean (at_place c.args.self.now.count c.args.entry.now c.act_at-acted.result c.act_at-acted.ensures)) c.in_ok-body.ensures.formed

pub returns-in-Ok-clause-stop : goal.returns-in-Ok-clause-stop
returns-in-Ok-clause-stop g c clean =
    left_with (state g.S.Store c.args.self.now.conn) (state g.S.Store c.write_entry.new.conn) (owner_in c.args.self.now.heading) c.args.self.now.count
    c.args.entry.now c.as_slice.result.now c.args.changes.now c.act_at-acted.result (c.as_slice.ensures.value ∙ c.in_ok-body.ensures.encoding) c.act_at-acted.ensures
    (c.write_entry.ensures.stop clean (at_place c.args.self.now.count c.args.entry.now c.act_at-acted.result c.act_at-acted.ensures)) (λ db up may. g.met.S.Store.settled c.args.self.now.conn.store db up may)

pub returns-clause-stop : goal.returns-clause-stop
returns-clause-stop g c clean =
    let noted = c.fail-in-Err.ensures.noted in
    rw noted (left_with (state g.S.Store c.args.self.now.conn) (state g.S.Store c.write_entry.new.conn) (owner_in c.args.self.now.heading) c.args.self.now.count
    c.args.entry.now c.as_slice.result.now c.args.changes.now c.act_at-acted.result (c.as_slice.ensures.value ∙ c.in_ok-body.ensures.encoding) c.act_at-acted.ensures
    (c.write_entry.ensures.stop (rw noted at clean) (at_place c.args.self.now.count c.args.entry.now c.act_at-acted.result c.act_at-acted.ensures)) (λ db up may. g.met.S.Store.settled c.args.self.now.conn.store db up may))
