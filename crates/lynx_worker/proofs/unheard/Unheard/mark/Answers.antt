use Rattle.std.proofs.Common.{◌∙◌, ℕ, Some, slice_set, true, ap, refl, subst, sym}
use Rattle.std.proofs.lemmas.Option.{slice_get-get_or}
use Rattle.lynx_worker.specs.declared.unheard.Sent.{Sent}
use Rattle.lynx_worker.specs.Unheard.{StayUnheardBut}
use Rattle.lynx_worker.proofs.Unheards.{marked}
use Rattle.lynx_worker.proofs.unheard.Unheard.mark.Goals as goal

pub returns-then-sent-place-clause-stay : goal.returns-then-sent-place-clause-stay
returns-then-sent-place-clause-stay c =
    let old = c.args.self.now.sent.items in
    let before = c.in-Some.sent.now in
    let there = slice_get-get_or old c.args.index before c.in-Some.ensures.item.3.0 ∙ ap Some (sym c.in-Some.ensures.value) in
    let after : Sent = record { place = before.place; is_heard = true } in
    subst (λ (place : ℕ). StayUnheardBut place old (slice_set old c.args.index after)) c.if-sent-place.true (marked old c.args.index before after there refl).0

pub returns-then-sent-place-clause-none_new : goal.returns-then-sent-place-clause-none_new
returns-then-sent-place-clause-none_new c =
    let old = c.args.self.now.sent.items in
    let before = c.in-Some.sent.now in
    let there = slice_get-get_or old c.args.index before c.in-Some.ensures.item.3.0 ∙ ap Some (sym c.in-Some.ensures.value) in
    let after : Sent = record { place = before.place; is_heard = true } in
    (marked old c.args.index before after there refl).1
