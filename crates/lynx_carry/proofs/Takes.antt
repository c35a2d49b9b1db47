-- What is kept of one element more.
use Rattle.std.proofs.Common.{◌≡◌, ◌∙◌, ℕ, zero, suc, ◌+◌, List, [], ◌∷◌, ◌++◌, ◌<◌, Option, Some, None, add-one, get_or, length, take, refl, ap}
use Rattle.std.proofs.lemmas.Option.{slice_get-get_or}
use Rattle.std.specs.List.{filter_map, cons_option}
use Rattle.std.specs.Prelude.{option_and_then, option_to_list, slice_get}

one : {Y : Type 0} (o : Option Y) → cons_option o [] ≡ option_to_list o
one None = refl
one (Some y) = refl

cons_more : {Y : Type 0} (o : Option Y) (ys zs : List Y) → cons_option o (ys ++ zs) ≡ cons_option o ys ++ zs
cons_more None ys zs = refl
cons_more (Some y) ys zs = refl

more : {X Y : Type 0} (f : X → Option Y) (xs : List X) (n : ℕ) →
    filter_map f (take (suc n) xs) ≡ filter_map f (take n xs) ++ option_to_list (option_and_then f (slice_get xs n))
more f [] zero = refl
more f [] (suc n) = refl
more f (x ∷ xs) zero = one (f x)
more f (x ∷ xs) (suc n) =
    ap (cons_option (f x)) (more f xs n)
    ∙ cons_more (f x) (filter_map f (take n xs)) (option_to_list (option_and_then f (slice_get xs n)))

pub filter_map_take_more : {X Y : Type 0} (f : X → Option Y) (xs : List X) (n : ℕ) →
    filter_map f (take (n + 1) xs) ≡ filter_map f (take n xs) ++ option_to_list (option_and_then f (slice_get xs n))
filter_map_take_more f xs n = ap (λ k. filter_map f (take k xs)) (add-one n) ∙ more f xs n

pub filter_map_take_next : {X Y : Type 0} (f : X → Option Y) (xs : List X) (n : ℕ) (d : X) → n < length xs →
    filter_map f (take (n + 1) xs) ≡ filter_map f (take n xs) ++ option_to_list (f (get_or xs n d))
filter_map_take_next f xs n d within =
    filter_map_take_more f xs n
    ∙ ap (λ x. filter_map f (take n xs) ++ option_to_list (option_and_then f x)) (slice_get-get_or xs n d within)
