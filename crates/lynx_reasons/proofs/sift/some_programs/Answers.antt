use Rattle.std.proofs.Common.{◌≡◌, ◌∙◌, ℕ, refl, sym, subst}
use Rattle.std.specs.Prelude.{Any}
use Rattle.std.proofs.lemmas.List.Elements.{All-push}
use Rattle.lynx_graph.specs.declared.meeting.Place.{Place}
use Rattle.lynx_reasons.specs.inner.Sifts.{AreOfAbroad}
use Rattle.lynx_reasons.proofs.sift.some_programs.Goals as goal
use Rattle.lynx_reasons.proofs.sift.some_programs.Goals.{then-len-lt4+then-not-contains+in_ok-push, else-len-lt4}

pub loop-hop-preserved : goal.loop-hop-preserved
loop-hop-preserved c =
    let hops = c.args.hops.now in
    elim c.if-len-lt4.branch [
      | then-len-lt4+then-not-contains+in_ok-push w ↦
          subst (AreOfAbroad hops) (sym (w.programs-is ∙ w.in_ok-push.ensures.ok))
          (All-push (λ (program : ℕ). Any (λ (hop : Place). hop.program ≡ program) hops) c.loop-hop.programs c.hop-item.result.program c.loop-hop.invariant
          (c.loop-hop.hop-index, c.hop-item.result, c.loop-hop-test.true, sym c.hop-item.is, refl))
      | else-len-lt4 w ↦ subst (AreOfAbroad hops) (sym w.programs-is) c.loop-hop.invariant
    ]
