-- What stays unheard of where a message is sent or acknowledged.
use Rattle.std.proofs.Common.{◌≡◌, ◌∙◌, ℕ, zero, suc, false, true, List, [], ◌∷◌, ◌++◌, slice_set, Some, inl, inr, refl, sym, ap}
use Rattle.std.specs.Prelude.{slice_get}
use Rattle.lynx_worker.specs.declared.unheard.Sent.{Sent}
use Rattle.lynx_worker.specs.Unheard.{IsUnheard, StayUnheard, StayUnheardBut}

-- one was sent
pub went_noted : (old : List Sent) (place : ℕ) → IsUnheard (old ++ (record { place = place; is_heard = false }) ∷ []) place
went_noted [] place = inl (refl, refl)
went_noted (first ∷ others) place = inr (went_noted others place)

pub went_stay : (old : List Sent) (sent : Sent) → StayUnheard old (old ++ sent ∷ [])
went_stay [] sent place unheard = absurd unheard
went_stay (first ∷ others) sent place (inl here) = inl here
went_stay (first ∷ others) sent place (inr later) = inr (went_stay others sent place later)

-- one was acknowledged
pub marked : (old : List Sent) (i : ℕ) (before after : Sent) → slice_get old i ≡ Some before → after.is_heard ≡ true →
    StayUnheardBut before.place old (slice_set old i after) × StayUnheard (slice_set old i after) old
marked [] i before after there heard = absurd cc
marked (first ∷ others) zero before after there heard =
    let same : first ≡ before = cc in (
      (λ place other unheard. elim unheard [
        | inl here ↦ absurd (other (sym here.0 ∙ ap (λ (s : Sent). s.place) same))
        | inr later ↦ inr later
      ]),
      (λ place unheard. elim unheard [
        | inl here ↦ absurd (let both = sym heard ∙ here.1 in cc)
        | inr later ↦ inr later
      ]),
    )
marked (first ∷ others) (suc i) before after there heard =
    let (stay, none) = marked others i before after there heard in (
      (λ place other unheard. elim unheard [
        | inl here ↦ inl here
        | inr later ↦ inr (stay place other later)
      ]),
      (λ place unheard. elim unheard [
        | inl here ↦ inl here
        | inr later ↦ inr (none place later)
      ]),
    )
