use Rattle.std.proofs.Common.{◌≡◌, ◌∙◌, ◌+◌, ◌++◌, [], ◌∷◌, ℕ, zero, suc, List, All, ap, arith, map, subst, sym}
use Rattle.std.proofs.lemmas.List.{map-append}
use Rattle.std.proofs.lemmas.List.Elements.{All-push}
use Rattle.std.specs.List.{range_with_len}
use Rattle.sqlite.specs.Held.{state}
use Rattle.lynx_store.specs.declared.inspecting.Inspected.{Inspected}
use Rattle.lynx_cli.specs.Looks.{IsHeld}
use Rattle.lynx_cli.proofs.looking.stores_of.Goals as goal

-- one number more
further : (first n last : ℕ) → first + n ≡ last → range_with_len first (suc n) ≡ range_with_len first n ++ last ∷ []
further first zero last at = ap (λ (m : ℕ). m ∷ []) (omega (arith, at))
further first (suc n) last at = ap (λ (later : List ℕ). first ∷ later) (further (first + 1) n last (omega (arith, at)))

pub loop-number-preserved : goal.loop-number-preserved
loop-number-preserved g c =
    let server_of : Inspected → ℕ = λ held. held.server in
    let number = c.loop-number.number in
    let before = c.loop-number.stores.items in
    let held = c.in_ok-held.held in
    let more = c.in_ok-add.ensures in
    let same : number + 1 ≡ suc number = omega arith in
    let own : held.server ≡ number = c.in_ok-held.ensures.server ∙ c.at.ensures in (
      subst (All (IsHeld g.S.Copies.copied_from (λ conn. state g.C.Store conn) c.args.folder.now c.args.set.now)) (sym more)
          (All-push (IsHeld g.S.Copies.copied_from (λ conn. state g.C.Store conn) c.args.folder.now c.args.set.now) before held c.loop-number.invariant.0 c.in_ok-held.ensures.held),
      ap (map server_of) more
          ∙ map-append server_of before (held ∷ [])
          ∙ ap (λ (servers : List ℕ). servers ++ held.server ∷ []) c.loop-number.invariant.1
          ∙ ap (λ (server : ℕ). range_with_len 0 number ++ server ∷ []) own
          ∙ sym (further 0 number number (omega arith))
          ∙ ap (range_with_len 0) (sym same),
    )
