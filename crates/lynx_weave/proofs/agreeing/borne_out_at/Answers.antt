use Rattle.std.proofs.Common.{sym, subst}
use Rattle.lynx_weave.specs.inner.Judging.{IsSolePlace}
use Rattle.lynx_weave.specs.Told.{bears}
use Rattle.lynx_weave.proofs.Agreements.{place_by, place_none}
use Rattle.lynx_weave.proofs.agreeing.borne_out_at.Goals as goal

pub returns-in-Some : goal.returns-in-Some
returns-in-Some c =
    subst (IsSolePlace (bears c.args.item.now) c.args.here.now.history) (sym c.then_some.ensures)
    (place_by c.args.here.now.set c.args.here.now.server c.args.here.now.history c.args.item.now c.in-Some.place c.bears_at.result
    c.history.ensures.lawful c.in-Some.ensures.0 c.in-Some.ensures.1 c.bears_at.ensures)

pub returns-in-None : goal.returns-in-None
returns-in-None c = place_none c.args.item.now c.args.here.now.history c.in-None.ensures
