-- Two lists of the same acts, in which acts that collide stand in one order, run alike.
use Rattle.std.proofs.Common.{◌≡◌, List, [], ◌∷◌, ◌++◌, inl, inr, refl, sym, subst}
use Rattle.lynx_order.specs.Lists.{IsIn, AreDifferent, StandsBefore}
use Rattle.lynx_order.proofs.Lists.{split, in-insert, in-rest, different-without, different-seam, before-first, before-second, before-insert, before-across}

-- each act goes well where it stands, and the last state is this one
abbrev pub Runs : {X S : Type 0} → (X → S → Type 0) → (X → S → S) → S → List X → S → Type 0
Runs goes_well next last [] state = state ≡ last
Runs goes_well next last (x ∷ xs) state = goes_well x state × Runs goes_well next last xs (next x state)

-- what two acts that don't collide do in the other order
pub record Swapped {X S : Type 0} (goes_well : X → S → Type 0) (next : X → S → S) (a x : X) (state : S) : Type 0 where
  pub second_first : goes_well x state
  pub first_second : goes_well a (next x state)
  pub same : next x (next a state) ≡ next a (next x state)

-- acts that don't collide may change places
abbrev pub MaySwap : {X S : Type 0} → (X → S → Type 0) → (X → S → S) → (X → X → Type 0) → Type 0
MaySwap {X} {S} goes_well next Collides =
    (a x : X) (state : S) → (Collides a x → ⊥) → goes_well a state → goes_well x (next a state) → Swapped goes_well next a x state

-- the same acts, each once, of which those that collide stand in the second list as in the first
pub record IsReordered {X : Type 0} (Collides : X → X → Type 0) (xs ys : List X) : Type 0 where
  pub there : (x : X) → IsIn x xs → IsIn x ys
  pub back : (x : X) → IsIn x ys → IsIn x xs
  pub once : AreDifferent xs
  pub once_too : AreDifferent ys
  pub in_order : (a b : X) → StandsBefore a b xs → Collides a b → StandsBefore a b ys

-- an act moves before those that it doesn't collide with
to_front : {X S : Type 0} (goes_well : X → S → Type 0) (next : X → S → S) (Collides : X → X → Type 0) → MaySwap goes_well next Collides →
    (last : S) (x : X) (before behind : List X) → ((a : X) → IsIn a before → Collides a x → ⊥) → (state : S) →
    Runs goes_well next last (before ++ x ∷ behind) state → Runs goes_well next last (x ∷ (before ++ behind)) state
to_front goes_well next Collides may last x [] behind free state runs = runs
to_front goes_well next Collides may last x (a ∷ before) behind free state runs =
    let rest = to_front goes_well next Collides may last x before behind (λ b there. free b (inr there)) (next a state) runs.1 in
    let swapped = may a x state (free a (inl refl)) runs.0 rest.0 in
    (swapped.second_first, (swapped.first_second, subst (Runs goes_well next last (before ++ behind)) swapped.same rest.1))

-- nothing is in a list whose values are all in the empty one
none_left : {X : Type 0} (xs : List X) → ((x : X) → IsIn x xs → ⊥) → xs ≡ []
none_left [] none = refl
none_left (x ∷ xs) none = absurd (none x (inl refl))

-- the acts before the one that is to be first don't collide with it
collision_free : {X : Type 0} (Collides : X → X → Type 0) (x : X) (before behind ys : List X) → IsReordered Collides (before ++ x ∷ behind) (x ∷ ys) →
    (a : X) → IsIn a before → Collides a x → ⊥
collision_free Collides x before behind ys is a there collide = elim (is.in_order a x (before-across a x before (x ∷ behind) there (inl refl)) collide) [
  | inl here ↦ is.once_too.0 here.1
  | inr later ↦ is.once_too.0 (before-second a x ys later)
]

-- what is left without it is reordered too
without : {X : Type 0} (Collides : X → X → Type 0) (x : X) (before behind ys : List X) → IsReordered Collides (before ++ x ∷ behind) (x ∷ ys) →
    IsReordered Collides (before ++ behind) ys
without Collides x before behind ys is =
    let none = different-seam x before behind is.once in
    record {
      there = λ y there. elim (is.there y (in-insert y x before behind there)) [
        | inl same ↦ absurd (none (subst (λ z. IsIn z (before ++ behind)) (sym same) there))
        | inr later ↦ later
      ];
      back = λ y there. elim (in-rest y x before behind (is.back y (inr there))) [
        | inl same ↦ absurd (is.once_too.0 (subst (λ z. IsIn z ys) (sym same) there))
        | inr rest ↦ rest
      ];
      once = different-without x before behind is.once;
      once_too = is.once_too.1;
      in_order = λ a b stands collide. elim (is.in_order a b (before-insert a b x before behind stands) collide) [
        | inl here ↦ absurd (none (subst (λ z. IsIn z (before ++ behind)) (sym here.0) (before-first a b (before ++ behind) stands)))
        | inr later ↦ later
      ];
    }

-- the reordered list runs to the same end
pub reordered : {X S : Type 0} (goes_well : X → S → Type 0) (next : X → S → S) (Collides : X → X → Type 0) → MaySwap goes_well next Collides →
    (last : S) (xs ys : List X) → IsReordered Collides xs ys → (state : S) → Runs goes_well next last xs state → Runs goes_well next last ys state
reordered goes_well next Collides may last xs [] is state runs =
    subst (λ l. Runs goes_well next last l state) (none_left xs is.there) runs
reordered {X} {S} goes_well next Collides may last xs (x ∷ ys) is state runs =
    let at = split x xs (is.back x (inl refl)) in
    let whole : IsReordered Collides (at.before ++ x ∷ at.behind) (x ∷ ys) = subst (λ l. IsReordered Collides l (x ∷ ys)) at.whole is in
    let front = to_front goes_well next Collides may last x at.before at.behind (collision_free Collides x at.before at.behind ys whole) state
    (subst (λ l. Runs goes_well next last l state) at.whole runs) in
    (front.0, reordered goes_well next Collides may last (at.before ++ at.behind) ys (without Collides x at.before at.behind ys whole) (next x state) front.1)
