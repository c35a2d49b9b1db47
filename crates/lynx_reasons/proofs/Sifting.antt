-- What is noted of a hop that reaches abroad is so.
use Rattle.std.proofs.Common.{◌≡◌, ℕ, List, subst}
use Rattle.std.specs.Prelude.{All, Any, Contains}
use Rattle.std.proofs.lemmas.List.Elements.{All-weaker}
use Rattle.lynx_set.specs.Set.{Set}
use Rattle.lynx_graph.specs.Blocks.{Meets}
use Rattle.lynx_graph.specs.declared.meeting.Place.{Place}
use Rattle.lynx_late.specs.Abroad.{hops_abroad}
use Rattle.lynx_late.proofs.Late.{abroad_meets}
use Rattle.lynx_reasons.specs.inner.Sifts.{AreOfAbroad, MeetsProgram}

pub end_meets : (set : Set) (place : Place) (hops : List Place) (programs : List ℕ) → hops ≡ hops_abroad set place → AreOfAbroad hops programs → All (MeetsProgram set place) programs
end_meets set place hops programs is are = All-weaker (λ program. Any (λ hop. hop.program ≡ program) hops) (MeetsProgram set place) by programs are
  where
    by : (program : ℕ) → Any (λ (hop : Place). hop.program ≡ program) hops → MeetsProgram set place program
    by program any =
        let has : Contains hops any.1 = (any.0, any.2, any.3) in
        let meets : Meets set place any.1 = abroad_meets set place any.1 (subst (λ (all : List Place). Contains all any.1) is has) in
        (any.1.hop, subst (λ (p : ℕ). Meets set place (record { program = p; hop = any.1.hop })) any.4 meets)
