-- What stands at the places of lists.
use Rattle.std.proofs.Common.{◌≡◌, ℕ, zero, suc, ◌+◌, ◌<◌, ◌≤◌, Bool, true, false, cond, find, List, [], ◌∷◌, ◌++◌, take, length, slice_get, Option, Some, None, inl, inr, refl, sym, ap, ◌∙◌, arith}
use Rattle.std.specs.Prelude.{IsNone}
use Rattle.lynx_world.proofs.Members.{IsIn}

-- a place within a list has an item
pub item : {X : Type 0} (xs : List X) (i : ℕ) → i < length xs → (x : X) × (slice_get xs i ≡ Some x)
item [] i within = absurd (omega arith)
item (x ∷ xs) zero within = (x, refl)
item (x ∷ xs) (suc i) within = item xs i (omega arith)

pub none_is : {X : Type 0} (o : Option X) → IsNone o → o ≡ None
none_is None is = refl
none_is (Some x) is = cc

-- what isn't found is at no place
pub found_none : {X : Type 0} (test : X → Bool) (xs : List X) (i : ℕ) (x : X) → find test xs ≡ None → slice_get xs i ≡ Some x → test x ≡ true → ⊥
found_none test [] i x none there passes = cc
found_none {X} test (first ∷ xs) i x none there passes = by (test first) refl none i there (λ j rest at. found_none test xs j x rest at passes)
  where
    by : (b : Bool) → test first ≡ b → cond b (Some first) (find test xs) ≡ None → (j : ℕ) → slice_get (first ∷ xs) j ≡ Some x →
        ((k : ℕ) → find test xs ≡ None → slice_get xs k ≡ Some x → ⊥) → ⊥
    by true is some j at rest = cc
    by false is some zero at rest =
        let same : first ≡ x = cc in
        let no : test x ≡ false = ap test (sym same) ∙ is in
        let both = sym no ∙ passes in cc
    by false is some (suc k) at rest = rest k some at

-- what is found passes
pub found_passes : {X : Type 0} (test : X → Bool) (xs : List X) (x : X) → find test xs ≡ Some x → test x ≡ true
found_passes test [] x found = cc
found_passes {X} test (first ∷ xs) x found = by (test first) refl found (found_passes test xs x)
  where
    by : (b : Bool) → test first ≡ b → cond b (Some first) (find test xs) ≡ Some x → (find test xs ≡ Some x → test x ≡ true) → test x ≡ true
    by true is there rest = let same : first ≡ x = cc in ap test (sym same) ∙ is
    by false is there rest = rest there

-- .. and stands somewhere
pub found_at : {X : Type 0} (test : X → Bool) (xs : List X) (x : X) → find test xs ≡ Some x → (i : ℕ) × (slice_get xs i ≡ Some x)
found_at test [] x found = cc
found_at {X} test (first ∷ xs) x found = by (test first) found (found_at test xs x)
  where
    by : (b : Bool) → cond b (Some first) (find test xs) ≡ Some x → (find test xs ≡ Some x → (i : ℕ) × (slice_get xs i ≡ Some x)) →
        (i : ℕ) × (slice_get (first ∷ xs) i ≡ Some x)
    by true there rest = (zero, there)
    by false there rest = let later = rest there in (suc later.0, later.1)

-- the first items of a list
pub get_take : {X : Type 0} (xs : List X) (n i : ℕ) → i < n → slice_get (take n xs) i ≡ slice_get xs i
get_take xs zero i below = absurd (omega arith)
get_take [] (suc n) i below = refl
get_take (x ∷ xs) (suc n) zero below = refl
get_take (x ∷ xs) (suc n) (suc i) below = get_take xs n i (omega arith)

-- with one more
pub take_next : {X : Type 0} (xs : List X) (n : ℕ) (x : X) → slice_get xs n ≡ Some x → take (n + 1) xs ≡ take n xs ++ x ∷ []
take_next xs n x is = ap (λ m. take m xs) (succ n) ∙ by xs n is
  where
    succ : (m : ℕ) → m + 1 ≡ suc m
    succ m = omega arith

    by : (ys : List _) (m : ℕ) → slice_get ys m ≡ Some x → take (suc m) ys ≡ take m ys ++ x ∷ []
    by [] m at = cc
    by (y ∷ ys) zero at = let same : y ≡ x = cc in ap (λ z. z ∷ []) same
    by (y ∷ ys) (suc m) at = ap (λ zs. y ∷ zs) (by ys m at)

pub take_whole : {X : Type 0} (xs : List X) (n : ℕ) → length xs ≤ n → take n xs ≡ xs
take_whole [] zero all = refl
take_whole [] (suc n) all = refl
take_whole (x ∷ xs) zero all = absurd (omega arith)
take_whole (x ∷ xs) (suc n) all = ap (λ ys. x ∷ ys) (take_whole xs n (omega arith))

-- what is in a list stands at a place, and the other way round
pub place_in : {X : Type 0} (x : X) (xs : List X) → IsIn x xs → (i : ℕ) × (slice_get xs i ≡ Some x)
place_in x [] never = absurd never
place_in x (y ∷ xs) (inl same) = (zero, ap Some same)
place_in x (y ∷ xs) (inr later) = let rest = place_in x xs later in (suc rest.0, rest.1)

pub in_place : {X : Type 0} (x : X) (xs : List X) (i : ℕ) → slice_get xs i ≡ Some x → IsIn x xs
in_place x [] i is = cc
in_place x (y ∷ xs) zero is = inl cc
in_place x (y ∷ xs) (suc i) is = inr (in_place x xs i is)
