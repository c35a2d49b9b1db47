-- A server of which nobody is told more than is settled.
use Rattle.std.specs.Prelude.{◌≡◌, ◌≤◌, ℕ, IfSome, Option, false, length, take, refl}
use Rattle.std.specs.Arc.{arc_value}
use Rattle.std.specs.declared.sync.Arc.{Arc}
use Rattle.std.specs.Coded.{Coded, code_by, coded×, coded_ℕ}
use Rattle.lynx_entry.specs.Entry.{History}
use Rattle.lynx_keep.specs.Kept.{Terms}
use Rattle.lynx_keep.specs.HeldBack.{Holding, RestsBehind, holding_code}
use Rattle.lynx_server.specs.Keeping.{kept_of}
use Rattle.lynx_server.specs.Serving.{Serving, serving_code}
use Rattle.lynx_resting.specs.declared.mark.Mark.{Mark}
use Rattle.lynx_resting.specs.Mirrors.{IsMirrorOf, MirrorState}

-- a server, and how many of its entries are settled
pub record RestingState (K : Type 0) : Type 0 where
  pub here : Serving (Holding K)
  pub settled : ℕ

abbrev pub resting_code : {K : Type 0} → Coded K → Coded (RestingState K)
resting_code {K} keeper =
    code_by (Serving (Holding K) × ℕ) (coded× (serving_code (holding_code keeper)) coded_ℕ)
    (λ r. (r.here, r.settled)) (λ p. record { here = p.0; settled = p.1 }) (λ _. refl)

-- the entries that are settled
abbrev pub settled_front : {K : Type 0} → RestingState K → History
settled_front resting = take resting.settled resting.here.history

-- the server as it was when these were all its entries
abbrev pub settled_part : {K : Type 0} → RestingState K → Serving (Holding K)
settled_part resting = record resting.here { history = settled_front resting }

-- While the server runs, the keeper under it keeps just the settled front, and all that the server
-- did is that with what waits: so a stop leaves the front.
pub record Rests {K : Type 0} (terms : Terms K) (here : Serving (Holding K)) (settled : ℕ) :
    Type 0 where
  pub within : settled ≤ length here.history
  pub rests : here.is_stopped ≡ false → terms.sound here.keeper.inner
      → RestsBehind terms here.keeper (kept_of here.set (take settled here.history))
      (kept_of here.set here.history)

-- the copy of the cells for readers, if there is one, is of the first entries that are settled
abbrev pub Mirrors : {K Z : Type 0} → Serving (Holding K) → ℕ → Option (Arc MirrorState Z) → Type 0
Mirrors here settled mirror =
    IfSome mirror (λ shared. IsMirrorOf here.set here.server (take settled here.history)
    (arc_value shared))

-- what lies behind the lock of a server
pub record IsResting {K Z : Type 0} (terms : Terms K) (here : Serving (Holding K)) (settled : ℕ)
    (mirror : Option (Arc MirrorState Z)) : Type 0 where
  pub rests : Rests terms here settled
  pub mirrors : Mirrors here settled mirror

-- how much is settled, and whether it stopped
abbrev pub mark_of : {K : Type 0} → RestingState K → Mark
mark_of resting = record { settled = resting.settled; is_stopped = resting.here.is_stopped }
