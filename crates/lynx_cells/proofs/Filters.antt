-- Filters of a list change places.
use Rattle.std.specs.Prelude.{◌≡◌, Bool, true, false, cond, List, [], ◌∷◌, filter, refl}
use Rattle.std.proofs.Common.{ap, ◌∙◌, sym}

filter-add : {X : Type 0} (p : X → Bool) (x : X) (xs : List X) (b : Bool) → filter p (cond b (x ∷ xs) xs) ≡ cond b (filter p (x ∷ xs)) (filter p xs)
filter-add p x xs true = refl
filter-add p x xs false = refl

both_ways : {X : Type 0} (x : X) (xs : List X) (a b : Bool) → cond a (cond b (x ∷ xs) xs) xs ≡ cond b (cond a (x ∷ xs) xs) xs
both_ways x xs true b = elim b as (λ b. cond true (cond b (x ∷ xs) xs) xs ≡ cond b (cond true (x ∷ xs) xs) xs) [ true ↦ refl | false ↦ refl ]
both_ways x xs false b = elim b as (λ b. cond false (cond b (x ∷ xs) xs) xs ≡ cond b (cond false (x ∷ xs) xs) xs) [ true ↦ refl | false ↦ refl ]

-- what passes both tests does so in either order
pub filters_swap : {X : Type 0} (p q : X → Bool) (xs : List X) → filter p (filter q xs) ≡ filter q (filter p xs)
filters_swap p q [] = refl
filters_swap p q (x ∷ xs) =
    filter-add p x (filter q xs) (q x)
    ∙ ap (λ l. cond (q x) (cond (p x) (x ∷ l) l) l) (filters_swap p q xs)
    ∙ both_ways x (filter q (filter p xs)) (q x) (p x)
    ∙ sym (filter-add q x (filter p xs) (p x))
