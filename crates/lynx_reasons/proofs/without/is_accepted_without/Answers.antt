use Rattle.std.proofs.Common.{subst, sym}
use Rattle.lynx_graph.specs.Acceptance.{IsAccepted}
use Rattle.lynx_reasons.specs.Culprits.{set_without}
use Rattle.lynx_reasons.proofs.LeftOnes.{accepted_tabled, accepted_untabled}
use Rattle.lynx_reasons.proofs.without.is_accepted_without.Goals as goal

pub returns : goal.returns
returns c =
    let left = set_without c.args.set.now c.args.culprit.now in (
      λ is. accepted_tabled left (subst IsAccepted c.in_ok-left.ensures (c.is_accepted.ensures.0 is)),
      λ accepted. c.is_accepted.ensures.1 (subst IsAccepted (sym c.in_ok-left.ensures) (accepted_untabled left accepted)),
    )
