-- One number more.
use Rattle.std.proofs.Common.{◌≡◌, ℕ, ◌+◌, List, [], ◌∷◌, ◌++◌, map, sym, ap, ◌∙◌, append_assoc, arith}
use Rattle.std.specs.List.{range_with_len}
use Rattle.std.proofs.lemmas.List.FromFn.{map-range_with_len_more}

pub mapped_more : {X : Type 0} (f : ℕ → X) (n : ℕ) (before so_far : List X) → so_far ≡ before ++ map f (range_with_len 0 n) → so_far ++ f n ∷ [] ≡ before ++ map f (range_with_len 0 (n + 1))
mapped_more f n before so_far is =
    ap (λ listed. listed ++ f n ∷ []) is
    ∙ append_assoc before (map f (range_with_len 0 n)) (f n ∷ [])
    ∙ ap (λ listed. before ++ listed) (sym (map-range_with_len_more f 0 n n (omega arith)))
