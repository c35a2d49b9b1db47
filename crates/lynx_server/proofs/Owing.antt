-- What is owed, place by place.
use Rattle.std.proofs.Common.{◌≡◌, ◌≤◌, ◌<◌, ◌∙◌, ◌+◌, ◌⊎◌, ℕ, Some, None, slice_get, length, sym, ap, subst, arith, inl, inr}
use Rattle.std.proofs.lemmas.Option.{none-some}
use Rattle.std.proofs.lemmas.Bool.{cases_lt}
use Rattle.lynx_entry.specs.declared.entry.Entry.{Entry}
use Rattle.lynx_entry.specs.declared.message.Message.{Message}
use Rattle.lynx_server.specs.Owed.{IsOwed, OwesNothingBetween, owed_by}
use Rattle.lynx_server.specs.Serving.{Serving}

owes_not : {K : Type 0} (serving : Serving K) (place : ℕ) (entry : Entry) (message : Message) → slice_get serving.history place ≡ Some entry →
    owed_by serving place entry ≡ None → IsOwed serving place message → ⊥
owes_not serving place entry message there nothing owed =
    let same : Some entry ≡ Some owed.entry = sym there ∙ owed.there in
    let alike : entry ≡ owed.entry = cc in
    none-some message (sym nothing ∙ ap (owed_by serving place) alike ∙ owed.owed)

-- an entry that owes nothing adds nothing
pub nothing_more : {K : Type 0} (serving : Serving K) (from place : ℕ) (entry : Entry) → OwesNothingBetween serving from place →
    slice_get serving.history place ≡ Some entry → owed_by serving place entry ≡ None → OwesNothingBetween serving from (place + 1)
nothing_more serving from place entry before there nothing other lower upper message owed =
    by_place (cases_lt other place)
  where
    by_place : (other < place) ⊎ (place ≤ other) → ⊥
    by_place (inl earlier) = before other lower earlier message owed
    by_place (inr later) =
        let here : other ≡ place = omega (arith, later, upper) in
        owes_not serving place entry message there nothing (subst (λ p. IsOwed serving p message) here owed)

-- past the end nothing is owed
pub nothing_past : {K : Type 0} (serving : Serving K) (from place : ℕ) → OwesNothingBetween serving from place → length serving.history ≤ place →
    OwesNothingBetween serving from (length serving.history)
nothing_past serving from place before past other lower upper message owed =
    before other lower (omega (arith, upper, past)) message owed
