-- Equal options, and equal lists.
use Rattle.std.proofs.Common.{◌≡◌, List, ◌∷◌, Option, Some, None}

pub first_is : {X : Type 0} (a b : X) (xs ys : List X) → a ∷ xs ≡ b ∷ ys → a ≡ b
first_is a b xs ys e = cc

pub rest_is : {X : Type 0} (a b : X) (xs ys : List X) → a ∷ xs ≡ b ∷ ys → xs ≡ ys
rest_is a b xs ys e = cc

pub some_is : {X : Type 0} (x y : X) → Some x ≡ Some y → x ≡ y
some_is x y e = cc

pub none_some : {X : Type 0} {x : X} → None ≡ Some x → ⊥
none_some e = cc

pub some_none : {X : Type 0} {x : X} → Some x ≡ None → ⊥
some_none e = cc
