use Rattle.std.proofs.Common.{◌≡◌, ◌∙◌, ℕ, ap, arith, length, take, sym}
use Rattle.std.proofs.Math.Seq.{take-length}
use Rattle.lynx_resting.proofs.Fronts.{mirror_moved}
use Rattle.lynx_resting.proofs.resting.Resting.make_mirror.Goals as goal

-- nothing waits, so that the front is all that the server did
pub invariant_of-self : goal.invariant_of-self
invariant_of-self g c =
    let here = c.self.inside.server in
    let settled = c.self.inside.settled in
    let all : settled ≡ length here.history =
    (let low = c.self.invariant.rests.within in let high = c.if-self-history.false in let is = ap length c.history-2.ensures.value in omega (arith, low, high, is)) in
    record {
      rests = c.self.invariant.rests;
      mirrors = mirror_moved (sym c.set.ensures) (sym c.server.ensures)
          (ap (λ (n : ℕ). take n here.history) all ∙ take-length here.history ∙ sym c.history-3.ensures.value) c.in_ok-new.ensures.ok c.in_ok-mirror.ensures;
    }
