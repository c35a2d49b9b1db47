-- Numbers below a bound that pass a test.
use Rattle.std.proofs.Common.{◌≡◌, ℕ, zero, suc, ◌<◌, Bool, true, ⊎_elim, subst, arith}
use Rattle.std.proofs.lemmas.Bool.{cases_lt, false≢true, or_cases, or_left, or_right}
use Rattle.lynx_reasons.specs.Begins.{some_below}

-- one that passes is found
pub some_below-from : (bound : ℕ) (passes : ℕ → Bool) (number : ℕ) → number < bound → passes number ≡ true → some_below bound passes ≡ true
unfolding some_below
some_below-from zero passes number below here = absurd (omega (arith, below))
some_below-from (suc bound) passes number below here =
    ⊎_elim (λ earlier. or_right (passes bound) _ (some_below-from bound passes number earlier here))
    (λ last. let same : number ≡ bound = omega (arith, last, below) in or_left _ (some_below bound passes) (subst (λ (n : ℕ). passes n ≡ true) same here))
    (cases_lt number bound)

-- and where one is found, there is one
pub some_below-true : (bound : ℕ) (passes : ℕ → Bool) → some_below bound passes ≡ true → (number : ℕ) × (number < bound) × (passes number ≡ true)
unfolding some_below
some_below-true zero passes found = absurd (false≢true found)
some_below-true (suc bound) passes found =
    ⊎_elim (λ last. (bound, omega arith, last))
    (λ earlier. let it = some_below-true bound passes earlier in (it.0, omega (arith, it.1), it.2))
    (or_cases (passes bound) (some_below bound passes) found)
