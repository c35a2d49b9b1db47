use Rattle.std.proofs.Common.{ℕ, [], length, ap, refl, subst, sym}
use Rattle.std.specs.FinMap as map
use Rattle.lynx_keep.specs.HeldBack.{Holding}
use Rattle.lynx_server.specs.Keeping.{kept_of}
use Rattle.lynx_server.specs.Serving.{Serving}
use Rattle.lynx_resting.specs.Resting.{Rests}
use Rattle.lynx_resting.proofs.Fronts.{rests_whole}
use Rattle.lynx_resting.proofs.resting.Resting.new.Goals as goal

pub invariant_of-result : goal.invariant_of-result
invariant_of-result g c =
    let terms = g.K.Keeper.terms in
    let old = c.args.server in
    let here : Serving (Holding g.row.K.Denot) = record {
      set = old.set;
      server = old.server;
      history = old.history;
      held = old.held;
      is_stopped = old.is_stopped;
      opened = old.opened;
      acknowledged = old.acknowledged;
      keeper = record { inner = old.keeper; waiting = []; changes = map.empty; faults = 0 };
    } in
    let rests = subst (λ (n : ℕ). Rests terms c.hold_back.result n) (ap length (sym c.history-settled.ensures.value))
    (subst (λ (s : Serving (Holding g.row.K.Denot)). Rests terms s (length old.history)) (sym c.hold_back.ensures)
    (rests_whole terms here
    (λ runs sound. subst (λ (k : g.row.K.Denot). terms.keeps k (kept_of old.set old.history)) c.keeper.ensures.value
    (c.keeper.ensures.kept runs (subst terms.sound (sym c.keeper.ensures.value) sound))) refl refl)) in
    record { rests = rests; mirrors = tt }
