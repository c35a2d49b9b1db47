use Rattle.std.proofs.Common.{◌≡◌, ap, arith, subst, sym}
use Rattle.lynx_keep.specs.Kept.{HasRisen}
use Rattle.lynx_keep.proofs.Held.{kept_nothing}
use Rattle.lynx_server.specs.Keeping.{kept_of}
use Rattle.lynx_server.proofs.server.Server.hold_back.Goals as goal

pub invariant_of-result : goal.invariant_of-result
invariant_of-result g c =
    let books = c.self.inside.register in
    let before = c.self.invariant in
    let terms = g.K.Keeper.terms in
    let holding = c.new.result in
    let inner : terms.counted holding.inner ≡ terms.counted c.self.inside.keeper = ap terms.counted c.new.ensures.inner in
    let count = c.faults.ensures in
    let bound = c.faults.type_inv in
    let none = c.new.ensures.faults in
    record {
      free = before.free;
      kept = λ runs sound. kept_nothing terms holding (kept_of books.set books.history) c.new.ensures.waiting c.new.ensures.unchanged
          (subst (λ (k : g.row.K.Denot). terms.keeps k (kept_of books.set books.history)) (sym c.new.ensures.inner)
          (before.kept runs (subst terms.sound c.new.ensures.inner sound)));
      opened_before = let low = before.opened_before in omega (arith, low, inner, count, bound, none);
      stopped = λ stops. let rose : HasRisen c.self.inside.opened (terms.counted c.self.inside.keeper) = before.stopped stops in omega (arith, rose, inner, count, bound, none);
      markable = before.markable;
    }
