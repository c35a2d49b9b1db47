-- What lists contain that were made from others.
use Rattle.std.proofs.Common.{◌≡◌, zero, suc, Bool, true, false, cond, List, [], ◌∷◌, map, filter, inl, inr, refl, sym, subst, ⊎_elim, arith}
use Rattle.std.specs.Prelude.{◌⊎◌, Contains}
use Rattle.std.specs.List.{flat_map}
use Rattle.std.proofs.lemmas.Bool.{false≢true}
use Rattle.std.proofs.lemmas.List.Elements.{All-contains, All-contains_itself, All-filter, Contains-append_cases, Contains-append_left, Contains-append_right, filter_passes}

pub Contains-here : {X : Type 0} (x : X) (xs : List X) → Contains (x ∷ xs) x
Contains-here x xs = (0, omega arith, refl)

pub Contains-later : {X : Type 0} (y x : X) (xs : List X) → Contains xs x → Contains (y ∷ xs) x
Contains-later y x xs has = let below = has.1 in (suc has.0, omega arith, has.2)

Contains-cases : {X : Type 0} (y x : X) (xs : List X) → Contains (y ∷ xs) x → (y ≡ x) ⊎ Contains xs x
Contains-cases y x xs (zero, below, is) = inl is
Contains-cases y x xs (suc k, below, is) = inr (k, omega (arith, below), is)

-- ---- lists end to end

pub flat_map-contains : {X Y : Type 0} (f : X → List Y) (xs : List X) (y : Y) → Contains (flat_map f xs) y → (x : X) × Contains xs x × Contains (f x) y
flat_map-contains f [] y has = absurd (omega (arith, has.1))
flat_map-contains {X} {Y} f (x ∷ xs) y has = ⊎_elim here (λ found. later (flat_map-contains f xs y found)) (Contains-append_cases (f x) (flat_map f xs) y has)
  where
    here : Contains (f x) y → (z : X) × Contains (x ∷ xs) z × Contains (f z) y
    here found = (x, Contains-here x xs, found)

    later : (z : X) × Contains xs z × Contains (f z) y → (z : X) × Contains (x ∷ xs) z × Contains (f z) y
    later rest = (rest.0, Contains-later x rest.0 xs rest.1, rest.2)

pub contains-flat_map : {X Y : Type 0} (f : X → List Y) (xs : List X) (x : X) (y : Y) → Contains xs x → Contains (f x) y → Contains (flat_map f xs) y
contains-flat_map f [] x y there has = absurd (omega (arith, there.1))
contains-flat_map {X} {Y} f (z ∷ xs) x y there has = ⊎_elim here (λ rest. later (contains-flat_map f xs x y rest has)) (Contains-cases z x xs there)
  where
    here : z ≡ x → Contains (flat_map f (z ∷ xs)) y
    here same = Contains-append_left (f z) (flat_map f xs) y (subst (λ (w : X). Contains (f w) y) (sym same) has)

    later : Contains (flat_map f xs) y → Contains (flat_map f (z ∷ xs)) y
    later rest = Contains-append_right (f z) (flat_map f xs) y rest

-- ---- mapped lists

pub map-contains : {X Y : Type 0} (f : X → Y) (xs : List X) (y : Y) → Contains (map f xs) y → (x : X) × Contains xs x × (f x ≡ y)
map-contains f [] y has = absurd (omega (arith, has.1))
map-contains {X} {Y} f (x ∷ xs) y has = ⊎_elim here (λ found. later (map-contains f xs y found)) (Contains-cases (f x) y (map f xs) has)
  where
    here : f x ≡ y → (z : X) × Contains (x ∷ xs) z × (f z ≡ y)
    here same = (x, Contains-here x xs, same)

    later : (z : X) × Contains xs z × (f z ≡ y) → (z : X) × Contains (x ∷ xs) z × (f z ≡ y)
    later rest = (rest.0, Contains-later x rest.0 xs rest.1, rest.2)

pub contains-map : {X Y : Type 0} (f : X → Y) (xs : List X) (x : X) → Contains xs x → Contains (map f xs) (f x)
contains-map f [] x has = absurd (omega (arith, has.1))
contains-map {X} {Y} f (z ∷ xs) x has = ⊎_elim here (λ rest. later (contains-map f xs x rest)) (Contains-cases z x xs has)
  where
    here : z ≡ x → Contains (map f (z ∷ xs)) (f x)
    here same = subst (λ (w : X). Contains (map f (z ∷ xs)) (f w)) same (Contains-here (f z) (map f xs))

    later : Contains (map f xs) (f x) → Contains (map f (z ∷ xs)) (f x)
    later rest = Contains-later (f z) (f x) (map f xs) rest

-- ---- what passes

pub filter-contains : {X : Type 0} (p : X → Bool) (xs : List X) (x : X) → Contains (filter p xs) x → Contains xs x × (p x ≡ true)
filter-contains {X} p xs x has = (
  All-contains (Contains xs) (filter p xs) x (All-filter p (Contains xs) xs (All-contains_itself xs)) has,
  All-contains (λ (y : X). p y ≡ true) (filter p xs) x (filter_passes p xs) has,
)

pub contains-filter : {X : Type 0} (p : X → Bool) (xs : List X) (x : X) → Contains xs x → p x ≡ true → Contains (filter p xs) x
contains-filter p [] x has passes = absurd (omega (arith, has.1))
contains-filter {X} p (z ∷ xs) x has passes = ⊎_elim here (λ rest. later (p z) (contains-filter p xs x rest passes)) (Contains-cases z x xs has)
  where
    kept_here : (b : Bool) → b ≡ true → Contains (cond b (x ∷ filter p xs) (filter p xs)) x
    kept_here true e = Contains-here x (filter p xs)
    kept_here false e = absurd (false≢true e)

    here : z ≡ x → Contains (filter p (z ∷ xs)) x
    here same = subst (λ (w : X). Contains (cond (p w) (w ∷ filter p xs) (filter p xs)) x) (sym same) (kept_here (p x) passes)

    later : (b : Bool) → Contains (filter p xs) x → Contains (cond b (z ∷ filter p xs) (filter p xs)) x
    later true rest = Contains-later z x (filter p xs) rest
    later false rest = rest
