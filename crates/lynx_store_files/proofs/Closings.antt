-- Keepers that are let go one after another.
use Rattle.std.proofs.Common.{◌≡◌, ◌≤◌, ◌+◌, ℕ, zero, suc, Bool, false, List, [], ◌∷◌, drop, length, slice_get, Some, Result, Ok, Err, sym, ap, ◌∙◌, subst, arith}
use Rattle.std.specs.Prelude.{OnOk, is_ok, min}
use Rattle.std.specs.List.{AllByRecursion}
use Rattle.std.proofs.lemmas.Option.{slice_get_within}
use Rattle.lynx_names.specs.declared.limits.TheConstants.{MAX_SERVERS}
use Rattle.lynx_store_files.specs.Closed.{FailsAt}

-- what stands first behind so many
first_behind : {X : Type 0} (xs rest : List X) (place : ℕ) (first : X) → drop place xs ≡ first ∷ rest → (slice_get xs place ≡ Some first) × (drop (place + 1) xs ≡ rest)
first_behind {X} xs rest place first is = let both = by xs place is in (both.0, ap (λ n. drop n xs) (next place) ∙ both.1)
  where
    next : (n : ℕ) → n + 1 ≡ suc n
    next n = omega arith

    by : (ys : List X) (n : ℕ) → drop n ys ≡ first ∷ rest → (slice_get ys n ≡ Some first) × (drop (suc n) ys ≡ rest)
    by [] zero at = cc
    by [] (suc n) at = cc
    by (y ∷ ys) zero at = (cc, cc)
    by (y ∷ ys) (suc n) at = by ys n at

-- so many are behind, and these are left
abbrev pub IsAt : {X : Type 0} → List X → List X → ℕ → Type 0
IsAt all rest number = length all ≤ MAX_SERVERS → (rest ≡ drop number all) × (number ≤ length all)

-- one more is behind
pub at_next : {X : Type 0} (all rest left : List X) (number next : ℕ) (x : X) → rest ≡ x ∷ left → next ≡ min (number + 1) 255 → IsAt all rest number → IsAt all left next
at_next all rest left number next x items next_is at few =
    let is = at few in
    let first = first_behind all left number x (sym is.0 ∙ items) in
    let within = slice_get_within all number x first.0 in
    let one_more : next ≡ number + 1 = omega (arith, next_is, within, few) in
    (sym (ap (λ n. drop n all) one_more ∙ first.1), omega (arith, one_more, within))

-- the one that is let go now, and isn't well, is that of this server
pub fails_now : {K : Type 0} (Closed : K → Bool → Type 0) (all rest left : List K) (number server : ℕ) (keeper : K) → rest ≡ keeper ∷ left → server ≡ min number 15 →
    IsAt all rest number → Closed keeper false → FailsAt Closed all server
fails_now Closed all rest left number server keeper items server_is at failed few =
    let is = at few in
    let first = first_behind all left number keeper (sym is.0 ∙ items) in
    let within = slice_get_within all number keeper first.0 in
    let same : server ≡ number = omega (arith, server_is, within, few) in
    (keeper, ap (slice_get all) same ∙ first.0, failed)

-- what holds of all once it holds of those that are left: it holds of one more
pub one_more : {X E : Type 0} (P : X → Type 0) (all rest left : List X) (x : X) (done : Result (Unit {0}) E) → rest ≡ x ∷ left → P x →
    OnOk done (AllByRecursion P rest → AllByRecursion P all) → OnOk done (AllByRecursion P left → AllByRecursion P all)
one_more P all rest left x (Ok value) items holds is = λ are. is (subst (AllByRecursion P) (sym items) (holds, are))
one_more P all rest left x (Err fault) items holds is = tt

-- of a fault nothing is said where a result is well
pub not_ok : {T E : Type 0} (P : Type 0) (result : Result T E) → is_ok result ≡ false → OnOk result P
not_ok P (Ok value) is = absurd (cc)
not_ok P (Err fault) is = tt
