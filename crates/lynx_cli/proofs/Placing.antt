-- What holds of each place of a list.
use Rattle.std.proofs.Common.{◌≡◌, ◌<◌, ◌+◌, ◌++◌, [], ◌∷◌, ℕ, zero, suc, List, Option, Some, None, ap, arith, length, map, refl, slice_get, subst, sym}
use Rattle.std.specs.Prelude.{IfSome}
use Rattle.std.proofs.lemmas.Option.{none-some, same_Some}

-- a list with one more behind it
pub one_longer : {A : Type 0} (xs : List A) (x : A) → length (xs ++ x ∷ []) ≡ length xs + 1
one_longer [] x = refl
one_longer (y ∷ ys) x = let shorter = one_longer ys x in omega (arith, shorter)

-- what is seen of each member is as many
pub as_many : {A B : Type 0} (f : A → B) (xs : List A) → length (map f xs) ≡ length xs
as_many f [] = refl
as_many f (x ∷ xs) = let shorter = as_many f xs in omega (arith, shorter)

-- what holds of each place of a list, where one more stands behind it
pub each_more : {A : Type 0} (P : ℕ → A → Type 0) (xs : List A) (x : A) (n : ℕ) → length xs ≡ n →
    ((i : ℕ) → IfSome (slice_get xs i) (P i)) → P n x → (i : ℕ) → IfSome (slice_get (xs ++ x ∷ []) i) (P i)
each_more P [] x n many each new zero = subst (λ m. P m x) (sym many) new
each_more P [] x n many each new (suc i) = tt
each_more P (y ∷ ys) x n many each new zero = each 0
each_more P (y ∷ ys) x zero many each new (suc i) = absurd (omega (arith, many))
each_more P (y ∷ ys) x (suc n) many each new (suc i) =
    each_more (λ k. P (suc k)) ys x n (omega (arith, many)) (λ k. each (suc k)) new i

-- what holds of each place, by what is seen there
pub each_seen : {A B : Type 0} (P : ℕ → B → Type 0) (f : A → B) (xs : List A) → ((i : ℕ) → IfSome (slice_get xs i) (λ x. P i (f x))) →
    (i : ℕ) (y : B) → slice_get (map f xs) i ≡ Some y → P i y
each_seen P f [] each i y at = absurd (none-some y at)
each_seen P f (x ∷ xs) each zero y at = subst (P 0) (same_Some (f x) y at) (each 0)
each_seen P f (x ∷ xs) each (suc i) y at = each_seen (λ k. P (suc k)) f xs (λ k. each (suc k)) i y at

-- a place within a list has something
pub there : {A : Type 0} (xs : List A) (i : ℕ) → i < length xs → (x : A) × (slice_get xs i ≡ Some x)
there [] i inside = absurd (omega (arith, inside))
there (x ∷ xs) zero inside = (x, refl)
there (x ∷ xs) (suc i) inside = there xs i (omega (arith, inside))
