-- A list of which none is left out.
use Rattle.std.proofs.Common.{◌≡◌, ◌∙◌, ◌+◌, ◌≤◌, ℕ, List, [], ◌∷◌, Option, Some, None, length, map, refl, ap, arith}
use Rattle.std.specs.List.{filter_map, cons_option}
use Rattle.std.specs.Prelude.{option_map, slice_get, unwrap_or}
use Rattle.lynx_set.specs.Set.{Set}
use Rattle.lynx_carry.specs.Naming.{by_name, named_cell}
use Rattle.lynx_carry.specs.declared.naming.NamedCell.{NamedCell}

short_cons : {X Y : Type 0} (o : Option Y) (ys : List Y) (xs : List X) → length ys ≤ length xs → length (cons_option o ys) ≤ length xs + 1
short_cons None ys xs le = omega (arith, le)
short_cons (Some y) ys xs le = omega (arith, le)

-- no more is kept than there is
pub short : {X Y : Type 0} (f : X → Option Y) (xs : List X) → length (filter_map f xs) ≤ length xs
short f [] = omega arith
short f (x ∷ xs) = let more = short_cons (f x) (filter_map f xs) xs (short f xs) in omega (arith, more)

whole_cons : {X Y : Type 0} (f : X → Option Y) (g : X → Y) (x : X) (xs : List X) (o : Option Y) → ((y : Y) → o ≡ Some y → y ≡ g x) →
    (length (filter_map f xs) ≡ length xs → filter_map f xs ≡ map g xs) → length (cons_option o (filter_map f xs)) ≡ length xs + 1 →
    cons_option o (filter_map f xs) ≡ g x ∷ map g xs
whole_cons f g x xs None is later len = let few = short f xs in absurd (omega (arith, few, len))
whole_cons f g x xs (Some y) is later len =
    let rest : filter_map f xs ≡ map g xs = later (omega (arith, len)) in
    ap (λ ys. y ∷ ys) rest ∙ ap (λ z. z ∷ map g xs) (is y refl)

-- where none is left out, each is there
pub whole : {X Y : Type 0} (f : X → Option Y) (g : X → Y) → ((x : X) (y : Y) → f x ≡ Some y → y ≡ g x) → (xs : List X) →
    length (filter_map f xs) ≡ length xs → filter_map f xs ≡ map g xs
whole f g is [] len = refl
whole f g is (x ∷ xs) len = whole_cons f g x xs (f x) (is x) (whole f g is xs) (omega (arith, len))

-- the cell under that name
abbrev under : ℕ × ℕ × ℕ → List ℕ → NamedCell
under cell name = record { table = name; key = cell.1; value = cell.2 }

named_of : (cell : ℕ × ℕ × ℕ) (found : Option (List ℕ)) (named : NamedCell) → option_map (under cell) found ≡ Some named →
    named ≡ under cell (unwrap_or found [])
named_of cell None named is = absurd cc
named_of cell (Some name) named is = cc

-- where each cell is named, each has its table's name
pub whole_named : (set : Set) (cells : List (ℕ × ℕ × ℕ)) → length (filter_map (named_cell set) cells) ≡ length cells →
    filter_map (named_cell set) cells ≡ map (by_name set) cells
whole_named set cells len =
    whole (named_cell set) (by_name set) (λ cell named is. named_of cell (slice_get set.tables cell.0) named is) cells len
