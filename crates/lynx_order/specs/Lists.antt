-- What is in a list, once, and what stands before what.
use Rattle.std.specs.Prelude.{◌≡◌, List, [], ◌∷◌, ◌⊎◌}

-- the value is in the list
abbrev pub IsIn : {X : Type 0} → X → List X → Type 0
IsIn x [] = ⊥
IsIn x (y ∷ ys) = (y ≡ x) ⊎ IsIn x ys

-- each value is in the list once
abbrev pub AreDifferent : {X : Type 0} → List X → Type 0
AreDifferent [] = Unit {0}
AreDifferent (x ∷ xs) = (¬ IsIn x xs) × AreDifferent xs

-- the first value stands in the list before the second
abbrev pub StandsBefore : {X : Type 0} → X → X → List X → Type 0
StandsBefore first second [] = ⊥
StandsBefore first second (x ∷ xs) = ((x ≡ first) × IsIn second xs) ⊎ StandsBefore first second xs
