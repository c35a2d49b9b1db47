use Rattle.std.proofs.Common.{◌≡◌, subst, sym}
use Rattle.sqlite.specs.Held.{state}
use Rattle.lynx_store.specs.Stored.{IsKept}
use Rattle.lynx_cli.proofs.auditing.keeper_of.Goals as goal

pub returns-in-Ok : goal.returns-in-Ok
returns-in-Ok g c =
    record {
      copy = c.in_ok-copy.copy;
      from = c.in_ok-copy.ensures;
      keeps = λ fine before kept was. c.in-Ok.ensures.same fine before kept
          (subst (λ owner. IsKept (state g.C.Store c.in_ok-copy.copy) owner before kept) (sym c.in-Ok.ensures.owner) was);
    }
