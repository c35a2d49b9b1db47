use Rattle.std.proofs.Common.{◌∙◌, ap, arith, get_or, inl, inr, refl, sym, slice_get, Some}
use Rattle.std.proofs.lemmas.Grind.{get_or_default_zero}
use Rattle.std.proofs.lemmas.Option.{get_or_from_slice_get, slice_get_read, slice_get_within}
use Rattle.lynx_order.proofs.Certified.{below_or}
use Rattle.lynx_order.proofs.ranks.inverts.Goals as goal

pub returns-then-not-leads_to : goal.returns-then-not-leads_to
returns-then-not-leads_to c =
    let numbers = c.args.numbers.now in
    let place = c.loop-place.place in
    let there = slice_get_read numbers _ place (get_or numbers place 0) refl c.loop-place-test.true (sym (get_or_default_zero numbers place _ c.loop-place-test.true)) in
    (λ never. cc, λ all. sym c.if-not-leads_to.true ∙ c.leads_to.ensures.1 (all place _ there))

pub loop-place-preserved : goal.loop-place-preserved
loop-place-preserved c = λ k number less there. elim (below_or k c.loop-place.place less) [
  | inl below ↦ c.loop-place.invariant k number below there
  | inr same ↦
      ap (slice_get c.args.inverse.now) (sym (get_or_from_slice_get c.args.numbers.now k number 0 there))
      ∙ ap (λ n. slice_get c.args.inverse.now (get_or c.args.numbers.now n 0)) same
      ∙ c.leads_to.ensures.0 c.if-not-leads_to.false ∙ ap Some (sym same)
]

pub returns : goal.returns
returns c = (
  λ yes place number there.
      let inside = slice_get_within c.args.numbers.now place number there in
      c.loop-place.invariant place number (omega (arith, inside, c.loop-place-test.false)) there,
  λ all. refl,
)
