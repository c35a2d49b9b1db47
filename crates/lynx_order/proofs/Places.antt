-- What filters and joined lists keep of what stands before what.
use Rattle.std.proofs.Common.{◌≡◌, ℕ, zero, suc, ◌<◌, Bool, true, false, cond, List, [], ◌∷◌, Option, Some, None, filter, slice_get, inl, inr, refl, sym, ap, ◌∙◌, subst, arith}
use Rattle.std.specs.List.{cons_option, filter_map, flat_map}
use Rattle.lynx_order.specs.Lists.{IsIn, StandsBefore}
use Rattle.lynx_order.proofs.Lists.{in-left, in-right, in-either, before-left, before-right, before-across}

-- ---- filters

pub in-filter : {X : Type 0} (test : X → Bool) (x : X) (xs : List X) → test x ≡ true → IsIn x xs → IsIn x (filter test xs)
in-filter test x [] passes never = absurd never
in-filter {X} test x (first ∷ xs) passes (inl same) =
    subst (λ b. IsIn x (cond b (first ∷ filter test xs) (filter test xs))) (sym (ap test same ∙ passes)) (inl same)
in-filter {X} test x (first ∷ xs) passes (inr later) = behind (test first) (in-filter test x xs passes later)
  where
    behind : (b : Bool) → IsIn x (filter test xs) → IsIn x (cond b (first ∷ filter test xs) (filter test xs))
    behind true there = inr there
    behind false there = there

pub from-filter : {X : Type 0} (test : X → Bool) (x : X) (xs : List X) → IsIn x (filter test xs) → (test x ≡ true) × IsIn x xs
from-filter test x [] never = absurd never
from-filter {X} test x (first ∷ xs) there = by (test first) refl there (from-filter test x xs)
  where
    by : (b : Bool) → test first ≡ b → IsIn x (cond b (first ∷ filter test xs) (filter test xs)) →
        (IsIn x (filter test xs) → (test x ≡ true) × IsIn x xs) → (test x ≡ true) × IsIn x (first ∷ xs)
    by true is (inl same) rest = (ap test (sym same) ∙ is, inl same)
    by true is (inr later) rest = let found = rest later in (found.0, inr found.1)
    by false is later rest = let found = rest later in (found.0, inr found.1)

pub before-filter : {X : Type 0} (test : X → Bool) (a b : X) (xs : List X) → test a ≡ true → test b ≡ true → StandsBefore a b xs → StandsBefore a b (filter test xs)
before-filter test a b [] one two never = absurd never
before-filter {X} test a b (first ∷ xs) one two (inl here) =
    subst (λ t. StandsBefore a b (cond t (first ∷ filter test xs) (filter test xs))) (sym (ap test here.0 ∙ one)) (inl (here.0, in-filter test b xs two here.1))
before-filter {X} test a b (first ∷ xs) one two (inr later) = behind (test first) (before-filter test a b xs one two later)
  where
    behind : (t : Bool) → StandsBefore a b (filter test xs) → StandsBefore a b (cond t (first ∷ filter test xs) (filter test xs))
    behind true there = inr there
    behind false there = there

-- ---- lists joined

pub in-flat_map : {X Y : Type 0} (f : X → List Y) (x : X) (y : Y) (xs : List X) → IsIn x xs → IsIn y (f x) → IsIn y (flat_map f xs)
in-flat_map f x y [] never there = absurd never
in-flat_map f x y (first ∷ xs) (inl same) there = in-left y (f first) (flat_map f xs) (subst (λ z. IsIn y (f z)) (sym same) there)
in-flat_map f x y (first ∷ xs) (inr later) there = in-right y (f first) (flat_map f xs) (in-flat_map f x y xs later there)

pub from-flat_map : {X Y : Type 0} (f : X → List Y) (y : Y) (xs : List X) → IsIn y (flat_map f xs) → (x : X) × IsIn x xs × IsIn y (f x)
from-flat_map f y [] never = absurd never
from-flat_map f y (first ∷ xs) there = elim (in-either y (f first) (flat_map f xs) there) [
  | inl left ↦ (first, inl refl, left)
  | inr right ↦ let found = from-flat_map f y xs right in (found.0, inr found.1, found.2)
]

-- within one part
pub before-flat_map_one : {X Y : Type 0} (f : X → List Y) (x : X) (a b : Y) (xs : List X) → IsIn x xs → StandsBefore a b (f x) → StandsBefore a b (flat_map f xs)
before-flat_map_one f x a b [] never before = absurd never
before-flat_map_one f x a b (first ∷ xs) (inl same) before =
    before-left a b (f first) (flat_map f xs) (subst (λ z. StandsBefore a b (f z)) (sym same) before)
before-flat_map_one f x a b (first ∷ xs) (inr later) before =
    before-right a b (f first) (flat_map f xs) (before-flat_map_one f x a b xs later before)

-- from one part to a later one
pub before-flat_map_two : {X Y : Type 0} (f : X → List Y) (x z : X) (a b : Y) (xs : List X) → StandsBefore x z xs → IsIn a (f x) → IsIn b (f z) →
    StandsBefore a b (flat_map f xs)
before-flat_map_two f x z a b [] never one two = absurd never
before-flat_map_two f x z a b (first ∷ xs) (inl here) one two =
    before-across a b (f first) (flat_map f xs) (subst (λ w. IsIn a (f w)) (sym here.0) one) (in-flat_map f z b xs here.1 two)
before-flat_map_two f x z a b (first ∷ xs) (inr later) one two =
    before-right a b (f first) (flat_map f xs) (before-flat_map_two f x z a b xs later one two)

-- ---- places

-- two places of a list, one before the other, of items that give these
pub record AtPlaces {X Y : Type 0} (f : X → Option Y) (a b : Y) (xs : List X) : Type 0 where
  pub place : ℕ
  pub later : ℕ
  pub in_order : place < later
  pub first : X
  pub second : X
  pub first_there : slice_get xs place ≡ Some first
  pub second_there : slice_get xs later ≡ Some second
  pub first_gives : f first ≡ Some a
  pub second_gives : f second ≡ Some b

-- the place of an item that gives this
pub place_of_in : {X Y : Type 0} (f : X → Option Y) (y : Y) (xs : List X) → IsIn y (filter_map f xs) →
    (place : ℕ) × (x : X) × (slice_get xs place ≡ Some x) × (f x ≡ Some y)
place_of_in f y [] never = absurd never
place_of_in {X} {Y} f y (x ∷ xs) there = by (f x) refl there (place_of_in f y xs)
  where
    by : (o : Option Y) → f x ≡ o → IsIn y (cons_option o (filter_map f xs)) →
        (IsIn y (filter_map f xs) → (place : ℕ) × (z : X) × (slice_get xs place ≡ Some z) × (f z ≡ Some y)) →
        (place : ℕ) × (z : X) × (slice_get (x ∷ xs) place ≡ Some z) × (f z ≡ Some y)
    by None is later rest = let found = rest later in (suc found.0, found.1, found.2, found.3)
    by (Some w) is (inl same) rest = (0, x, refl, is ∙ ap Some same)
    by (Some w) is (inr later) rest = let found = rest later in (suc found.0, found.1, found.2, found.3)

pub places_of_before : {X Y : Type 0} (f : X → Option Y) (a b : Y) (xs : List X) → StandsBefore a b (filter_map f xs) → AtPlaces f a b xs
places_of_before f a b [] never = absurd never
places_of_before {X} {Y} f a b (x ∷ xs) before = by (f x) refl before (places_of_before f a b xs)
  where
    more : AtPlaces f a b xs → AtPlaces f a b (x ∷ xs)
    more at = record {
      place = suc at.place;
      later = suc at.later;
      in_order = let old = at.in_order in omega arith;
      first = at.first;
      second = at.second;
      first_there = at.first_there;
      second_there = at.second_there;
      first_gives = at.first_gives;
      second_gives = at.second_gives;
    }

    by : (o : Option Y) → f x ≡ o → StandsBefore a b (cons_option o (filter_map f xs)) → (StandsBefore a b (filter_map f xs) → AtPlaces f a b xs) → AtPlaces f a b (x ∷ xs)
    by None is later rest = more (rest later)
    by (Some w) is (inr later) rest = more (rest later)
    by (Some w) is (inl here) rest =
        let found = place_of_in f b xs here.1 in
        record {
          place = 0;
          later = suc found.0;
          in_order = omega arith;
          first = x;
          second = found.1;
          first_there = refl;
          second_there = found.2;
          first_gives = is ∙ ap Some here.0;
          second_gives = found.3;
        }

-- an item of a list
pub in_at : {X : Type 0} (xs : List X) (place : ℕ) (x : X) → slice_get xs place ≡ Some x → IsIn x xs
in_at [] place x there = cc
in_at (first ∷ xs) zero x there = let same : first ≡ x = cc in inl same
in_at (first ∷ xs) (suc place) x there = inr (in_at xs place x there)

-- what an item gives is given
pub given_in : {X Y : Type 0} (f : X → Option Y) (x : X) (y : Y) (xs : List X) → IsIn x xs → f x ≡ Some y → IsIn y (filter_map f xs)
given_in f x y [] never gives = absurd never
given_in f x y (first ∷ xs) (inl same) gives =
    subst (λ o. IsIn y (cons_option o (filter_map f xs))) (sym (ap f same ∙ gives)) (inl refl)
given_in {X} {Y} f x y (first ∷ xs) (inr later) gives = behind (f first) (given_in f x y xs later gives)
  where
    behind : (o : Option Y) → IsIn y (filter_map f xs) → IsIn y (cons_option o (filter_map f xs))
    behind None there = there
    behind (Some z) there = inr there

-- what items give stands in their order
pub before_of_places : {X Y : Type 0} (f : X → Option Y) (a b : Y) (xs : List X) (place later : ℕ) (first second : X) → slice_get xs place ≡ Some first →
    slice_get xs later ≡ Some second → place < later → f first ≡ Some a → f second ≡ Some b → StandsBefore a b (filter_map f xs)
before_of_places f a b [] place later first second one two less gives too = cc
before_of_places f a b (x ∷ xs) place zero first second one two less gives too = absurd (omega arith)
before_of_places f a b (x ∷ xs) zero (suc later) first second one two less gives too =
    let same : x ≡ first = cc in
    subst (λ o. StandsBefore a b (cons_option o (filter_map f xs))) (sym (ap f same ∙ gives))
    (inl (refl, given_in f second b xs (in_at xs later second two) too))
before_of_places {X} {Y} f a b (x ∷ xs) (suc place) (suc later) first second one two less gives too =
    behind (f x) (before_of_places f a b xs place later first second one two (omega arith) gives too)
  where
    behind : (o : Option Y) → StandsBefore a b (filter_map f xs) → StandsBefore a b (cons_option o (filter_map f xs))
    behind None there = there
    behind (Some z) there = inr there
