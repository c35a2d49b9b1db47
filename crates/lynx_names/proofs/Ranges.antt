-- Numbers below one more, and a filter of them.
use Rattle.std.proofs.Common.{◌≡◌, ℕ, zero, suc, ◌+◌, List, [], ◌∷◌, ◌++◌, Bool, true, false, filter, cond, refl, ap, sym, ◌∙◌, arith, add-one}
use Rattle.std.specs.List.{range_with_len}
use Rattle.std.proofs.lemmas.List.Elements.{filter-append}
use Rattle.std.proofs.lemmas.List.{append-nil}

pub range_more : (a n : ℕ) → range_with_len a (suc n) ≡ range_with_len a n ++ (a + n) ∷ []
range_more a zero = ap (λ m. m ∷ []) (omega arith)
range_more a (suc n) =
    ap (λ rest. a ∷ rest) (range_more (a + 1) n ∙ ap (λ m. range_with_len (a + 1) n ++ m ∷ []) (omega arith))

-- one more number is there where it passes the test
pub filter_range_more : (p : ℕ → Bool) (n : ℕ) →
    filter p (range_with_len 0 (n + 1)) ≡ filter p (range_with_len 0 n) ++ cond (p n) (n ∷ []) []
filter_range_more p n =
    rw add-one (ap (filter p) (range_more 0 n) ∙ filter-append p (range_with_len 0 n) ((0 + n) ∷ [])
    ∙ ap (λ m. filter p (range_with_len 0 n) ++ cond (p m) (m ∷ []) []) (omega arith))

pub one_in : (p : ℕ → Bool) (n server : ℕ) (old new : List ℕ) → old ≡ filter p (range_with_len 0 n) → server ≡ n →
    p server ≡ true → new ≡ old ++ server ∷ [] → new ≡ filter p (range_with_len 0 (n + 1))
one_in p n server old new before same passes after =
    let is : p n ≡ true = ap p (sym same) ∙ passes in
    rw (filter_range_more p n, is, after, before, same) refl

pub one_out : (p : ℕ → Bool) (n server : ℕ) (old new : List ℕ) → old ≡ filter p (range_with_len 0 n) → server ≡ n →
    p server ≡ false → new ≡ old → new ≡ filter p (range_with_len 0 (n + 1))
one_out p n server old new before same fails after =
    let is : p n ≡ false = ap p (sym same) ∙ fails in
    rw (filter_range_more p n, is, after, before, append-nil) refl
