use Rattle.std.proofs.Common.{◌≡◌, ◌∙◌, false, sym, ⊎_elim}
use Rattle.std.specs.Prelude.{IsTrue}
use Rattle.std.proofs.lemmas.Bool.{true_from_ne_false}
use Rattle.std.proofs.lemmas.Result.{IfOk-weaker}
use Rattle.lynx_graph.specs.Acceptance.{IsAccepted}
use Rattle.lynx_graph.specs.Walks.{NoWalkOffends}
use Rattle.lynx_reasons.specs.Culprits.{set_without}
use Rattle.lynx_reasons.proofs.Renumbered.{late_by_sift}
use Rattle.lynx_reasons.proofs.sift.Sift.lets_through.Goals as goal

pub returns : goal.returns
returns c =
    let set = c.args.set.now in
    let culprit = c.args.culprit.now in
    let left = set_without set culprit in
    let late = late_by_sift set culprit c.args.self.now c.requires (sym c.leaves_late.ensures ∙ c.if-not-leaves_late.false) in
    IfOk-weaker c.leaves_none_mixed.result (λ none. none ≡ false → NoWalkOffends left → ⊥) (λ lets. IsAccepted left → IsTrue lets)
    (λ none mixed accepted. true_from_ne_false none (λ is. ⊎_elim (λ walks. mixed is walks) late accepted)) c.leaves_none_mixed.ensures
