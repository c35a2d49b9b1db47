-- Which values stand in a list.
use Rattle.std.proofs.Common.{◌≡◌, Bool, true, false, cond, List, [], ◌∷◌, Some, find, inl, inr, ◌⊎◌, refl, sym, ap, ◌∙◌}

-- the value is in the list
abbrev pub IsIn : {X : Type 0} → X → List X → Type 0
IsIn x [] = ⊥
IsIn x (y ∷ ys) = (y ≡ x) ⊎ IsIn x ys

-- what is found is in the list, and passes the test
pub found_in : {X : Type 0} (test : X → Bool) (xs : List X) (x : X) → find test xs ≡ Some x → IsIn x xs × (test x ≡ true)
found_in test [] x found = cc
found_in {X} test (first ∷ xs) x found = by (test first) refl found (found_in test xs x)
  where
    by : (b : Bool) → test first ≡ b → cond b (Some first) (find test xs) ≡ Some x →
        (find test xs ≡ Some x → IsIn x xs × (test x ≡ true)) → IsIn x (first ∷ xs) × (test x ≡ true)
    by true is found later = let same : first ≡ x = cc in (inl same, ap test (sym same) ∙ is)
    by false is found later = let rest = later found in (inr rest.0, rest.1)
