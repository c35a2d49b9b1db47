use Rattle.std.proofs.Common.{rules}
use Rattle.std.specs.Prelude.{IsErrOf}
use Rattle.lynx_keep.specs.declared.fault.KeepFault.TheVariants.{Memory as WantOfMemory}
use Rattle.lynx_store.specs.Heading.{owner_in}
use Rattle.lynx_store.specs.Laws.{leaves_kept}
use Rattle.lynx_store.proofs.keeper.SqlKeeperKeeper.load.Goals as goal

pub returns-in-Err-Memory-clause-memory : goal.returns-in-Err-Memory-clause-memory
returns-in-Err-Memory-clause-memory g c clean is kept keeps =
    let wanted : IsErrOf c.read.result WantOfMemory = search rules in
    c.read.ensures.memory clean wanted c.args.self.now.count kept keeps

pub returns-in_default-clause-stop : goal.returns-in_default-clause-stop
returns-in_default-clause-stop g c clean kept keeps =
    let noted = c.fail.ensures.noted in
    rw noted (leaves_kept (g.S.Store.recovers c.read.new.conn.store) (g.S.Store.view c.args.self.now.conn.store).committed (owner_in c.args.self.now.heading) kept kept
    (λ db may. g.met.S.Store.settled c.args.self.now.conn.store db keeps.tables.is_open (c.read.ensures.stop (rw noted at clean) db may))
    keeps.tables.tables)

pub returns-in-Ok-try_from-clause-stop : goal.returns-in-Ok-try_from-clause-stop
returns-in-Ok-try_from-clause-stop g c clean kept keeps =
    leaves_kept (g.S.Store.recovers c.read.new.conn.store) (g.S.Store.view c.args.self.now.conn.store).committed (owner_in c.args.self.now.heading) kept kept
    (λ db may. g.met.S.Store.settled c.args.self.now.conn.store db keeps.tables.is_open (c.read.ensures.stop clean db may))
    keeps.tables.tables

pub returns-in-Err-Memory-clause-stop : goal.returns-in-Err-Memory-clause-stop
returns-in-Err-Memory-clause-stop g c clean kept keeps =
    leaves_kept (g.S.Store.recovers c.read.new.conn.store) (g.S.Store.view c.args.self.now.conn.store).committed (owner_in c.args.self.now.heading) kept kept
    (λ db may. g.met.S.Store.settled c.args.self.now.conn.store db keeps.tables.is_open (c.read.ensures.stop clean db may))
    keeps.tables.tables

pub returns-in-Err-Failed-clause-stop : goal.returns-in-Err-Failed-clause-stop
returns-in-Err-Failed-clause-stop g c clean kept keeps =
    let noted = c.fail-in-Err-Failed.ensures.noted in
    rw noted (leaves_kept (g.S.Store.recovers c.read.new.conn.store) (g.S.Store.view c.args.self.now.conn.store).committed (owner_in c.args.self.now.heading) kept kept
    (λ db may. g.met.S.Store.settled c.args.self.now.conn.store db keeps.tables.is_open (c.read.ensures.stop (rw noted at clean) db may))
    keeps.tables.tables)
