-- What is left of a list, one element on.
use Rattle.std.proofs.Common.{◌≡◌, ℕ, zero, suc, ◌+◌, ◌<◌, List, [], ◌∷◌, ◌++◌, length, drop, slice_get, Option, Some, None, refl, sym, ap, ◌∙◌, append_assoc, arith}
use Rattle.std.specs.List.{cons_option, filter_map, flat_map, range_with_len}
use Rattle.std.specs.Option.{option_and_then, option_or}
use Rattle.std.proofs.lemmas.List.{append-nil, drop_more}
use Rattle.std.proofs.lemmas.Option.{get_or_from_slice_get, slice_get_within}

-- an element at each place within
pub some_at : {X : Type 0} (xs : List X) (i : ℕ) → i < length xs → (x : X) × (slice_get xs i ≡ Some x)
some_at [] i within = absurd (omega arith)
some_at (x ∷ xs) zero within = (x, refl)
some_at (x ∷ xs) (suc i) within = some_at xs i (omega arith)

-- the rest of a list at an element that it has
pub rest_at : {X : Type 0} (xs : List X) (i : ℕ) (x : X) → slice_get xs i ≡ Some x → drop i xs ≡ x ∷ drop (i + 1) xs
rest_at xs i x there =
    drop_more xs i x (slice_get_within xs i x there) ∙ ap (λ y. y ∷ drop (i + 1) xs) (get_or_from_slice_get xs i x x there)

-- ---- the first of what elements have

first_at : {X Y : Type 0} (first : List X → Option Y) (own : X → Option Y) (xs : List X) (i : ℕ) (found whole : Option Y) →
    ((x : X) → first (x ∷ drop (i + 1) xs) ≡ option_or (own x) (first (drop (i + 1) xs))) → i < length xs → found ≡ option_and_then own (slice_get xs i) →
    first (drop i xs) ≡ whole → option_or found (first (drop (i + 1) xs)) ≡ whole
first_at first own xs i found whole goes within is so_far =
    let at = some_at xs i within in
    ap (λ o. option_or o (first (drop (i + 1) xs))) (is ∙ ap (option_and_then own) at.1)
    ∙ sym (ap first (rest_at xs i at.0 at.1) ∙ goes at.0) ∙ so_far

-- this element has none, so it is that of the rest
pub first_further : {X Y : Type 0} (first : List X → Option Y) (own : X → Option Y) (xs : List X) (i : ℕ) (found whole : Option Y) →
    ((x : X) → first (x ∷ drop (i + 1) xs) ≡ option_or (own x) (first (drop (i + 1) xs))) → i < length xs → found ≡ option_and_then own (slice_get xs i) →
    found ≡ None → first (drop i xs) ≡ whole → first (drop (i + 1) xs) ≡ whole
first_further first own xs i found whole goes within is none so_far =
    ap (λ o. option_or o (first (drop (i + 1) xs))) (sym none) ∙ first_at first own xs i found whole goes within is so_far

-- or it is its own
pub first_here : {X Y : Type 0} (first : List X → Option Y) (own : X → Option Y) (xs : List X) (i : ℕ) (found whole : Option Y) (y : Y) →
    ((x : X) → first (x ∷ drop (i + 1) xs) ≡ option_or (own x) (first (drop (i + 1) xs))) → i < length xs → found ≡ option_and_then own (slice_get xs i) →
    found ≡ Some y → first (drop i xs) ≡ whole → Some y ≡ whole
first_here first own xs i found whole y goes within is some so_far =
    ap (λ o. option_or o (first (drop (i + 1) xs))) (sym some) ∙ first_at first own xs i found whole goes within is so_far

-- ---- all that elements have

added : {Y : Type 0} (found : Option Y) (rest : List Y) → cons_option found [] ++ rest ≡ cons_option found rest
added None rest = refl
added (Some y) rest = refl

-- what this element has was added
pub kept_further : {X Y : Type 0} (own : X → Option Y) (xs : List X) (i : ℕ) (found : Option Y) (before after whole : List Y) → i < length xs →
    found ≡ option_and_then own (slice_get xs i) → after ≡ before ++ cons_option found [] → before ++ filter_map own (drop i xs) ≡ whole →
    after ++ filter_map own (drop (i + 1) xs) ≡ whole
kept_further own xs i found before after whole within is more so_far =
    let at = some_at xs i within in
    let rest = filter_map own (drop (i + 1) xs) in
    ap (λ ys. ys ++ rest) more ∙ append_assoc before (cons_option found []) rest
    ∙ ap (λ ys. before ++ ys) (added found rest ∙ ap (λ o. cons_option o rest) (is ∙ ap (option_and_then own) at.1) ∙ sym (ap (filter_map own) (rest_at xs i at.0 at.1)))
    ∙ so_far

-- what an element has was added, and the rest is left
pub kept_next : {X Y : Type 0} (own : X → Option Y) (x : X) (rest : List X) (before after : List Y) (left : List X) (whole : List Y) → left ≡ x ∷ rest →
    after ≡ before ++ cons_option (own x) [] → before ++ filter_map own left ≡ whole → after ++ filter_map own rest ≡ whole
kept_next own x rest before after left whole is more so_far =
    ap (λ ys. ys ++ filter_map own rest) more ∙ append_assoc before (cons_option (own x) []) (filter_map own rest)
    ∙ ap (λ ys. before ++ ys) (added (own x) (filter_map own rest) ∙ sym (ap (filter_map own) is))
    ∙ so_far

-- ---- one number more

pub range_further : {X : Type 0} (f : ℕ → List X) (a n m : ℕ) → a + n ≡ m → flat_map f (range_with_len a (suc n)) ≡ flat_map f (range_with_len a n) ++ f m
range_further f a zero m at = append-nil (f a) ∙ ap f (omega (arith, at))
range_further f a (suc n) m at = ap (λ later. f a ++ later) (range_further f (a + 1) n m (omega (arith, at))) ∙ sym (append_assoc (f a) (flat_map f (range_with_len (a + 1) n)) (f m))
