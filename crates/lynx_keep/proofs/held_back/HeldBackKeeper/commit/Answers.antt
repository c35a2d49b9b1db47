use Rattle.lynx_keep.proofs.Held.{rests_behind, untouched_front, waits_behind}
use Rattle.lynx_keep.proofs.held_back.HeldBackKeeper.commit.Goals as goal

pub returns-in-Ok-clause-ok : goal.returns-in-Ok-clause-ok
returns-in-Ok-clause-ok g c sound before behind =
    waits_behind g.K.Keeper.terms c.args.self.now c.hold.new.self before c.args.entry.now c.args.changes.now c.hold.ensures.inner
    c.in-Ok.ensures.waiting c.in-Ok.ensures.changes behind

pub returns-in-Ok-clause-rests : goal.returns-in-Ok-clause-rests
returns-in-Ok-clause-rests g c before sound settled rests =
    rests_behind g.K.Keeper.terms c.args.self.now c.hold.new.self settled before c.args.entry.now c.args.changes.now c.hold.ensures.inner
    c.in-Ok.ensures.waiting c.in-Ok.ensures.changes rests

pub returns-in-Ok-clause-stop : goal.returns-in-Ok-clause-stop
returns-in-Ok-clause-stop g c sound before behind =
    untouched_front g.K.Keeper.terms g.met.K.Keeper.settled c.args.self.now c.hold.new.self.inner before _ c.hold.ensures.inner sound behind

pub returns-in-Err-clause-stop : goal.returns-in-Err-clause-stop
returns-in-Err-clause-stop g c sound before behind =
    untouched_front g.K.Keeper.terms g.met.K.Keeper.settled c.args.self.now c.hold.new.self.inner before _ c.hold.ensures.inner sound behind
