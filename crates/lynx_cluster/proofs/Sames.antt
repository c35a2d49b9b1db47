-- What a begin leaves as it is at a server.
use Rattle.std.proofs.Common.{◌≡◌, ◌⊎◌, ℕ, Bool, true, false, inl, inr, refl, ap}
use Rattle.lynx_cluster.specs.Answers.{IsLeft}
use Rattle.lynx_entry.specs.declared.answer.Answer.{Answer}
use Rattle.lynx_entry.specs.declared.answer.Answer.TheVariants.{Begun, Refused, Clash, UnknownProgram, WrongOrigin, ArgCount, OutsideRange, WrongShard, Full, Busy, Stopped, Memory}
use Rattle.lynx_entry.specs.declared.request.Request.{Request}
use Rattle.lynx_keep.specs.Kept.{Terms}
use Rattle.lynx_server.specs.Serving.{Begins, Serving}

-- set and server
abbrev AreSame : {K : Type 0} → Serving K → Serving K → Type 0
AreSame old new = (new.set ≡ old.set) × (new.server ≡ old.server)

begins_same : {K : Type 0} (terms : Terms K) (old : Serving K) (request : Request) (seen : ℕ) (given : Answer) (new : Serving K) →
    Begins terms old request seen given new → AreSame old new
begins_same terms old request seen (Begun chain stamp results again) new b = (b.becomes.set_is, b.becomes.server_is)
begins_same terms old request seen (Refused need stamp again) new b = (b.becomes.set_is, b.becomes.server_is)
begins_same terms old request seen Clash new b = (b.becomes.set_is, b.becomes.server_is)
begins_same terms old request seen UnknownProgram new b = (b.becomes.set_is, b.becomes.server_is)
begins_same terms old request seen WrongOrigin new b = (b.becomes.set_is, b.becomes.server_is)
begins_same terms old request seen ArgCount new b = (b.becomes.set_is, b.becomes.server_is)
begins_same terms old request seen OutsideRange new b = (b.becomes.set_is, b.becomes.server_is)
begins_same terms old request seen WrongShard new b = (b.becomes.set_is, b.becomes.server_is)
begins_same terms old request seen Full new b = (b.becomes.set_is, b.becomes.server_is)
begins_same terms old request seen Busy new b = (b.becomes.set_is, b.becomes.server_is)
begins_same terms old request seen Stopped new b = (b.set_is, b.server_is)
begins_same terms old request seen Memory new b = (b.set_is, b.server_is)

left_same : {K : Type 0} (terms : Terms K) (old : Serving K) (request : Request) (seen : ℕ) (given : Answer) (new : Serving K) →
    IsLeft terms old request seen given new → AreSame old new
left_same terms old request seen given new left = elim left [
  | inl none ↦ (ap (λ (s : Serving _). s.set) none.1, ap (λ (s : Serving _). s.server) none.1)
  | inr served ↦ begins_same terms old request seen given new served.begins
]

-- whether the server had stopped or not
pub asked_same : {K : Type 0} (terms : Terms K) (old : Serving K) (request : Request) (seen : ℕ) (given : Answer) (new : Serving K) →
    (old.is_stopped ≡ true → new ≡ old) → (old.is_stopped ≡ false → IsLeft terms old request seen given new) → (new.set ≡ old.set) × (new.server ≡ old.server)
asked_same terms old request seen given new stopped runs = by old.is_stopped stopped runs
  where
    by : (b : Bool) → (b ≡ true → new ≡ old) → (b ≡ false → IsLeft terms old request seen given new) → AreSame old new
    by true same left = (ap (λ (s : Serving _). s.set) (same refl), ap (λ (s : Serving _). s.server) (same refl))
    by false same left = left_same terms old request seen given new (left refl)
