-- Facts of lists: the first element that passes, lists end to end, pairs, and numbered elements that pass.
use Rattle.std.proofs.Common.{◌≡◌, ℕ, ◌+◌, ◌<◌, Bool, true, false, cond, ◌||◌, List, [], ◌∷◌, ◌++◌, map, length, Some, zero, suc, refl, sym, ap, subst, ◌∙◌, append_assoc, arith}
use Rattle.std.specs.Prelude.{filter, find, is_some, slice_get}
use Rattle.std.specs.List.{enumerate_from, flat_map, list_any, range_with_len, zip}
use Rattle.std.proofs.lemmas.Bool.{false≢true, or_left, or_right}
use Rattle.std.proofs.lemmas.Option.{none-some, same_Some, slice_get-get_or}
use Rattle.std.proofs.lemmas.List.{append-nil}
use Rattle.std.proofs.lemmas.List.FromFn.{get_or-range_with_len, length-range_with_len, map-range_with_len_more}
use Rattle.lynx_graph.specs.declared.meeting.Place.{Place}
use Rattle.lynx_graph.specs.Nodes.{found}

-- ---- the first that passes

-- there is a first that passes where some does
pub is_some-find : {X : Type 0} (test : X → Bool) (xs : List X) → is_some (find test xs) ≡ list_any test xs
is_some-find test [] = refl
is_some-find test (x ∷ xs) = by_test (test x) (is_some-find test xs)
  where
    by_test : (b : Bool) → is_some (find test xs) ≡ list_any test xs → is_some (cond b (Some x) (find test xs)) ≡ (b || list_any test xs)
    by_test true rest = refl
    by_test false rest = rest

-- what is found is in the list, and passes
pub find-Some : {X : Type 0} (test : X → Bool) (xs : List X) (x : X) → find test xs ≡ Some x → (k : ℕ) × (slice_get xs k ≡ Some x) × (test x ≡ true)
find-Some test [] x e = absurd (none-some x e)
find-Some {X} test (y ∷ xs) x e = by_test (test y) refl e (find-Some test xs x)
  where
    by_test : (b : Bool) → test y ≡ b → cond b (Some y) (find test xs) ≡ Some x →
        (find test xs ≡ Some x → (k : ℕ) × (slice_get xs k ≡ Some x) × (test x ≡ true)) → (k : ℕ) × (slice_get (y ∷ xs) k ≡ Some x) × (test x ≡ true)
    by_test true passes found rest = (zero, found, subst (λ (z : X). test z ≡ true) (same_Some y x found) passes)
    by_test false fails found rest = let later = rest found in (suc later.0, later.1, later.2)

-- ---- an element of several lists

pub slice_get-left : {X : Type 0} (xs ys : List X) (k : ℕ) (x : X) → slice_get xs k ≡ Some x → slice_get (xs ++ ys) k ≡ Some x
slice_get-left [] ys k x e = absurd (none-some x e)
slice_get-left (y ∷ xs) ys zero x e = e
slice_get-left (y ∷ xs) ys (suc k) x e = slice_get-left xs ys k x e

pub slice_get-right : {X : Type 0} (xs ys : List X) (k : ℕ) (x : X) → slice_get ys k ≡ Some x → (n : ℕ) × (slice_get (xs ++ ys) n ≡ Some x)
slice_get-right [] ys k x e = (k, e)
slice_get-right (y ∷ xs) ys k x e = let later = slice_get-right xs ys k x e in (suc later.0, later.1)

pub slice_get-flat_map : {X Y : Type 0} (f : X → List Y) (xs : List X) (i j : ℕ) (x : X) (y : Y) → slice_get xs i ≡ Some x → slice_get (f x) j ≡ Some y →
    (n : ℕ) × (slice_get (flat_map f xs) n ≡ Some y)
slice_get-flat_map f [] i j x y there here = absurd (none-some x there)
slice_get-flat_map {X} {Y} f (z ∷ xs) zero j x y there here =
    (j, slice_get-left (f z) (flat_map f xs) j y (subst (λ (w : X). slice_get (f w) j ≡ Some y) (sym (same_Some z x there)) here))
slice_get-flat_map f (z ∷ xs) (suc i) j x y there here =
    let later = slice_get-flat_map f xs i j x y there here in slice_get-right (f z) (flat_map f xs) later.0 y later.1

pub slice_get-range : (n k : ℕ) → k < n → slice_get (range_with_len 0 n) k ≡ Some k
slice_get-range n k below =
    let within : k < length (range_with_len 0 n) = omega (arith, length-range_with_len 0 n) in
    let at : k ≡ 0 + k = omega arith in
    slice_get-get_or (range_with_len 0 n) k 0 within ∙ ap Some (get_or-range_with_len 0 n k 0 below ∙ sym at)

pub slice_get-zip : {X Y : Type 0} (xs : List X) (ys : List Y) (k : ℕ) (x : X) (y : Y) → slice_get xs k ≡ Some x → slice_get ys k ≡ Some y → slice_get (zip xs ys) k ≡ Some (x, y)
slice_get-zip [] ys k x y left right = absurd (none-some x left)
slice_get-zip (z ∷ xs) [] k x y left right = absurd (none-some y right)
slice_get-zip (z ∷ xs) (w ∷ ys) zero x y left right = cc
slice_get-zip (z ∷ xs) (w ∷ ys) (suc k) x y left right = slice_get-zip xs ys k x y left right

-- an element at each place within
pub slice_get-within : {X : Type 0} (xs : List X) (k : ℕ) → k < length xs → (x : X) × (slice_get xs k ≡ Some x)
slice_get-within [] k below = absurd (omega arith)
slice_get-within (x ∷ xs) zero below = (x, refl)
slice_get-within (x ∷ xs) (suc k) below = slice_get-within xs k (omega arith)

-- what a mapped list has comes from the list
pub slice_get-mapped : {X Y : Type 0} (f : X → Y) (xs : List X) (k : ℕ) (y : Y) → slice_get (map f xs) k ≡ Some y → (x : X) × (slice_get xs k ≡ Some x) × (y ≡ f x)
slice_get-mapped f [] k y e = absurd (none-some y e)
slice_get-mapped f (x ∷ xs) zero y e = (x, refl, sym (same_Some (f x) y e))
slice_get-mapped f (x ∷ xs) (suc k) y e = slice_get-mapped f xs k y e

-- ---- numbered places that pass

pub record IsFound {X : Type 0} (test : Place → Bool) (make : ℕ × Place → X) (first : ℕ) (places : List Place) (x : X) : Type 0 where
  pub at : ℕ
  pub place : Place
  pub there : slice_get places at ≡ Some place
  pub passes : test place ≡ true
  pub made : x ≡ make (first + at, place)

-- what is found is made of a place that passes
pub found-Some : {X : Type 0} (test : Place → Bool) (make : ℕ × Place → X) (first : ℕ) (places : List Place) (k : ℕ) (x : X) →
    slice_get (found test make first places) k ≡ Some x → IsFound test make first places x
found-Some test make first [] k x e = absurd (none-some x e)
found-Some {X} test make first (place ∷ places) k x e = by_test (test place) refl k e (λ j. found-Some test make (first + 1) places j x)
  where
    later : IsFound test make (first + 1) places x → IsFound test make first (place ∷ places) x
    later rest = let same : (first + 1) + rest.at ≡ first + suc rest.at = omega arith in
        record { at = suc rest.at; place = rest.place; there = rest.there; passes = rest.passes; made = rest.made ∙ ap (λ n. make (n, rest.place)) same }

    by_test : (b : Bool) → test place ≡ b → (k : ℕ) →
        slice_get (map make (cond b ((first, place) ∷ filter (λ (numbered : ℕ × Place). test numbered.1) (enumerate_from (first + 1) places)) (filter (λ (numbered : ℕ × Place). test numbered.1) (enumerate_from (first + 1) places)))) k ≡ Some x →
        ((j : ℕ) → slice_get (found test make (first + 1) places) j ≡ Some x → IsFound test make (first + 1) places x) → IsFound test make first (place ∷ places) x
    by_test true passes zero is rest =
        let same : first ≡ first + zero = omega arith in
        record { at = zero; place = place; there = refl; passes = passes; made = sym (same_Some _ _ is) ∙ ap (λ n. make (n, place)) same }
    by_test true passes (suc j) is rest = later (rest j is)
    by_test false fails j is rest = later (rest j is)

-- a place that passes is found
pub found-any : {X : Type 0} (test : Place → Bool) (make : ℕ × Place → X) (first : ℕ) (places : List Place) (at : ℕ) (place : Place) →
    slice_get places at ≡ Some place → test place ≡ true → (asked : X → Bool) → asked (make (first + at, place)) ≡ true → list_any asked (found test make first places) ≡ true
found-any test make first [] at place there passes asked holds = absurd (none-some place there)
found-any {X} test make first (here ∷ places) zero place there passes asked holds =
    let same : first + zero ≡ first = omega arith in
    let is : test here ≡ true = subst (λ (p : Place). test p ≡ true) (sym (same_Some here place there)) passes in
    let at_here : asked (make (first, here)) ≡ true = subst (λ (p : Place). asked (make (first, p)) ≡ true) (sym (same_Some here place there)) (subst (λ (n : ℕ). asked (make (n, place)) ≡ true) same holds) in
    by_test at_here (test here) is
  where
    by_test : asked (make (first, here)) ≡ true → (b : Bool) → b ≡ true →
        list_any asked (map make (cond b ((first, here) ∷ filter (λ (numbered : ℕ × Place). test numbered.1) (enumerate_from (first + 1) places)) (filter (λ (numbered : ℕ × Place). test numbered.1) (enumerate_from (first + 1) places)))) ≡ true
    by_test asks true e = or_left _ _ asks
    by_test asks false e = absurd (false≢true e)
found-any {X} test make first (here ∷ places) (suc at) place there passes asked holds =
    let same : first + suc at ≡ (first + 1) + at = omega arith in
    by_test (test here) (found-any test make (first + 1) places at place there passes asked (subst (λ (n : ℕ). asked (make (n, place)) ≡ true) same holds))
  where
    by_test : (b : Bool) → list_any asked (found test make (first + 1) places) ≡ true →
        list_any asked (map make (cond b ((first, here) ∷ filter (λ (numbered : ℕ × Place). test numbered.1) (enumerate_from (first + 1) places)) (filter (λ (numbered : ℕ × Place). test numbered.1) (enumerate_from (first + 1) places)))) ≡ true
    by_test true rest = or_right _ _ rest
    by_test false rest = rest

-- ---- numbered elements

-- a numbered element that passes
pub enumerated-any : {X : Type 0} (test : ℕ × X → Bool) (first : ℕ) (xs : List X) (n : ℕ) (x : X) → slice_get xs n ≡ Some x → test (first + n, x) ≡ true →
    list_any test (enumerate_from first xs) ≡ true
enumerated-any test first [] n x there passes = absurd (none-some x there)
enumerated-any {X} test first (y ∷ xs) zero x there passes =
    let same : first + zero ≡ first = omega arith in
    or_left _ _ (ap (λ (z : X). test (first, z)) (same_Some y x there) ∙ ap (λ (n : ℕ). test (n, x)) (sym same) ∙ passes)
enumerated-any {X} test first (y ∷ xs) (suc n) x there passes =
    let same : first + suc n ≡ (first + 1) + n = omega arith in
    or_right _ _ (enumerated-any test (first + 1) xs n x there (ap (λ (m : ℕ). test (m, x)) (sym same) ∙ passes))

-- some numbered element passes
pub record Numbered {X : Type 0} (test : ℕ × X → Bool) (first : ℕ) (xs : List X) : Type 0 where
  pub at : ℕ
  pub value : X
  pub there : slice_get xs at ≡ Some value
  pub passes : test (first + at, value) ≡ true

pub enumerated-found : {X : Type 0} (test : ℕ × X → Bool) (first : ℕ) (xs : List X) → list_any test (enumerate_from first xs) ≡ true → Numbered test first xs
enumerated-found test first [] passes = absurd (false≢true passes)
enumerated-found test first (x ∷ xs) passes = by_test (test (first, x)) refl passes (enumerated-found test (first + 1) xs)
  where
    by_test : (b : Bool) → test (first, x) ≡ b → (b || list_any test (enumerate_from (first + 1) xs)) ≡ true →
        (list_any test (enumerate_from (first + 1) xs) ≡ true → Numbered test (first + 1) xs) → Numbered test first (x ∷ xs)
    by_test true is passes later =
        let same : first + zero ≡ first = omega arith in
        record { at = zero; value = x; there = refl; passes = ap (λ (n : ℕ). test (n, x)) same ∙ is }
    by_test false is passes later =
        let rest = later passes in
        let same : first + suc rest.at ≡ (first + 1) + rest.at = omega arith in
        record { at = suc rest.at; value = rest.value; there = rest.there; passes = ap (λ (n : ℕ). test (n, rest.value)) same ∙ rest.passes }

-- ---- one number more

flat_map-range : {X : Type 0} (f : ℕ → List X) (a n m : ℕ) → a + n ≡ m → flat_map f (range_with_len a (suc n)) ≡ flat_map f (range_with_len a n) ++ f m
flat_map-range f a zero m at = append-nil (f a) ∙ ap f (omega (arith, at))
flat_map-range f a (suc n) m at = ap (λ later. f a ++ later) (flat_map-range f (a + 1) n m (omega (arith, at))) ∙ sym (append_assoc (f a) (flat_map f (range_with_len (a + 1) n)) (f m))

pub flat_map-range_more : {X : Type 0} (f : ℕ → List X) (n : ℕ) → flat_map f (range_with_len 0 (n + 1)) ≡ flat_map f (range_with_len 0 n) ++ f n
flat_map-range_more f n = let same : n + 1 ≡ suc n = omega arith in ap (λ m. flat_map f (range_with_len 0 m)) same ∙ flat_map-range f 0 n n (omega arith)

pub places_more : (program hop : ℕ) (before places : List Place) → places ≡ before ++ map {B = Place} (λ h. record { program = program; hop = h }) (range_with_len 0 hop) →
    places ++ record { program = program; hop = hop } ∷ [] ≡ before ++ map {B = Place} (λ h. record { program = program; hop = h }) (range_with_len 0 (hop + 1))
places_more program hop before places so_far =
    let in_program : ℕ → Place = λ h. record { program = program; hop = h } in
    ap (λ listed. listed ++ in_program hop ∷ []) so_far
    ∙ append_assoc before (map in_program (range_with_len 0 hop)) (in_program hop ∷ [])
    ∙ ap (λ listed. before ++ listed) (sym (map-range_with_len_more in_program 0 hop hop (omega arith)))
