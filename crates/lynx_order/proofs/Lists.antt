-- What is in lists that are joined, and what stands before what in them.
use Rattle.std.proofs.Common.{◌≡◌, List, [], ◌∷◌, ◌++◌, inl, inr, ◌⊎◌, refl, sym, ap, subst}
use Rattle.lynx_order.specs.Lists.{IsIn, AreDifferent, StandsBefore}

-- ---- one value and the rest

-- where a value stands in a list
pub record Split {X : Type 0} (x : X) (xs : List X) : Type 0 where
  pub before : List X
  pub behind : List X
  pub whole : xs ≡ before ++ x ∷ behind

pub split : {X : Type 0} (x : X) (xs : List X) → IsIn x xs → Split x xs
split x [] never = absurd never
split x (y ∷ ys) (inl same) = record { before = []; behind = ys; whole = ap (λ z. z ∷ ys) same }
split x (y ∷ ys) (inr later) =
    let rest = split x ys later in
    record { before = y ∷ rest.before; behind = rest.behind; whole = ap (λ zs. y ∷ zs) rest.whole }

pub in-left : {X : Type 0} (x : X) (xs ys : List X) → IsIn x xs → IsIn x (xs ++ ys)
in-left x [] ys never = absurd never
in-left x (y ∷ xs) ys (inl same) = inl same
in-left x (y ∷ xs) ys (inr later) = inr (in-left x xs ys later)

pub in-right : {X : Type 0} (x : X) (xs ys : List X) → IsIn x ys → IsIn x (xs ++ ys)
in-right x [] ys there = there
in-right x (y ∷ xs) ys there = inr (in-right x xs ys there)

pub in-either : {X : Type 0} (x : X) (xs ys : List X) → IsIn x (xs ++ ys) → IsIn x xs ⊎ IsIn x ys
in-either x [] ys there = inr there
in-either x (y ∷ xs) ys (inl same) = inl (inl same)
in-either x (y ∷ xs) ys (inr later) = elim (in-either x xs ys later) [ inl left ↦ inl (inr left) | inr right ↦ inr right ]

pub in-insert : {X : Type 0} (y x : X) (xs ys : List X) → IsIn y (xs ++ ys) → IsIn y (xs ++ x ∷ ys)
in-insert y x xs ys there =
    elim (in-either y xs ys there) [ inl left ↦ in-left y xs (x ∷ ys) left | inr right ↦ in-right y xs (x ∷ ys) (inr right) ]

pub in-rest : {X : Type 0} (y x : X) (xs ys : List X) → IsIn y (xs ++ x ∷ ys) → (x ≡ y) ⊎ IsIn y (xs ++ ys)
in-rest y x xs ys there = elim (in-either y xs (x ∷ ys) there) [
  | inl left ↦ inr (in-left y xs ys left)
  | inr right ↦ elim right [ inl same ↦ inl same | inr later ↦ inr (in-right y xs ys later) ]
]

pub in-seam : {X : Type 0} (x : X) (xs ys : List X) → IsIn x (xs ++ x ∷ ys)
in-seam x xs ys = in-right x xs (x ∷ ys) (inl refl)

-- ---- each once

pub different-without : {X : Type 0} (x : X) (xs ys : List X) → AreDifferent (xs ++ x ∷ ys) → AreDifferent (xs ++ ys)
different-without x [] ys once = once.1
different-without x (y ∷ xs) ys once = (λ there. once.0 (in-insert y x xs ys there), different-without x xs ys once.1)

pub different-seam : {X : Type 0} (x : X) (xs ys : List X) → AreDifferent (xs ++ x ∷ ys) → ¬ IsIn x (xs ++ ys)
different-seam x [] ys once = once.0
different-seam x (y ∷ xs) ys once = λ there. elim there [
  | inl same ↦ once.0 (subst (λ z. IsIn z (xs ++ x ∷ ys)) (sym same) (in-seam x xs ys))
  | inr later ↦ different-seam x xs ys once.1 later
]

-- lists of different values with none in common
pub different-append : {X : Type 0} (xs ys : List X) → AreDifferent xs → AreDifferent ys → ((x : X) → IsIn x xs → ¬ IsIn x ys) → AreDifferent (xs ++ ys)
different-append [] ys one two apart = two
different-append (x ∷ xs) ys one two apart = (
  λ there. elim (in-either x xs ys there) [ inl left ↦ one.0 left | inr right ↦ apart x (inl refl) right ],
  different-append xs ys one.1 two (λ y there. apart y (inr there)),
)

-- ---- what stands before what

pub before-first : {X : Type 0} (a b : X) (xs : List X) → StandsBefore a b xs → IsIn a xs
before-first a b [] never = absurd never
before-first a b (x ∷ xs) (inl here) = inl here.0
before-first a b (x ∷ xs) (inr later) = inr (before-first a b xs later)

pub before-second : {X : Type 0} (a b : X) (xs : List X) → StandsBefore a b xs → IsIn b xs
before-second a b [] never = absurd never
before-second a b (x ∷ xs) (inl here) = inr here.1
before-second a b (x ∷ xs) (inr later) = inr (before-second a b xs later)

pub before-insert : {X : Type 0} (a b x : X) (xs ys : List X) → StandsBefore a b (xs ++ ys) → StandsBefore a b (xs ++ x ∷ ys)
before-insert a b x [] ys before = inr before
before-insert a b x (y ∷ xs) ys (inl here) = inl (here.0, in-insert b x xs ys here.1)
before-insert a b x (y ∷ xs) ys (inr later) = inr (before-insert a b x xs ys later)

pub before-left : {X : Type 0} (a b : X) (xs ys : List X) → StandsBefore a b xs → StandsBefore a b (xs ++ ys)
before-left a b [] ys never = absurd never
before-left a b (x ∷ xs) ys (inl here) = inl (here.0, in-left b xs ys here.1)
before-left a b (x ∷ xs) ys (inr later) = inr (before-left a b xs ys later)

pub before-right : {X : Type 0} (a b : X) (xs ys : List X) → StandsBefore a b ys → StandsBefore a b (xs ++ ys)
before-right a b [] ys before = before
before-right a b (x ∷ xs) ys before = inr (before-right a b xs ys before)

-- a value of the one list stands before each of the other
pub before-across : {X : Type 0} (a b : X) (xs ys : List X) → IsIn a xs → IsIn b ys → StandsBefore a b (xs ++ ys)
before-across a b [] ys never there = absurd never
before-across a b (x ∷ xs) ys (inl same) there = inl (same, in-right b xs ys there)
before-across a b (x ∷ xs) ys (inr later) there = inr (before-across a b xs ys later there)
