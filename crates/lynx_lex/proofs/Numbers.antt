-- Numbers that are too great.
use Rattle.std.proofs.Common.{◌≡◌, ℕ, ◌+◌, ◌-◌, ◌*◌, ◌^◌, ◌<◌, ◌≤◌, Bool, true, false, cond, ◌&&◌, ltb, List, [], ◌∷◌, length, get_or, drop, Some, None, refl, ap, ◌∙◌, arith}
use Rattle.std.specs.Str.{all_ascii_digits}
use Rattle.std.proofs.lemmas.Bool.{le-ltb}
use Rattle.std.proofs.lemmas.List.{at_drop_more}
use Rattle.lynx_lex.specs.Digits.{value_on, starts_well, read_number}

and-false : (b : Bool) → (b && false) ≡ false
and-false true = refl
and-false false = refl

-- more digits make no smaller number
value_on-ge : (value : ℕ) (digits : List ℕ) → value ≤ value_on value digits
value_on-ge value [] = omega arith
value_on-ge value (byte ∷ bytes) = omega (arith, value_on-ge (value * 10 + (byte - 48)) bytes)

-- a number that is too great isn't read
pub none_if_great : (word : List ℕ) → 2 ^ 64 ≤ value_on 0 word → read_number word ≡ None
none_if_great word great =
    let no : ltb (value_on 0 word) (2 ^ 64) ≡ false = le-ltb _ _ great in
    ap (λ (b : Bool). cond (starts_well word && all_ascii_digits word && b) (Some (value_on 0 word)) None) no
    ∙ ap (λ (b : Bool). cond b (Some (value_on 0 word)) None) (and-false (starts_well word && all_ascii_digits word))

-- nor is one whose front is too great already
pub none_if_front_great : (word : List ℕ) (value i d : ℕ) → i < length word → value_on value (drop i word) ≡ value_on 0 word → 2 ^ 64 ≤ value * 10 + (get_or word i d - 48) → read_number word ≡ None
none_if_front_great word value i d lt same great =
    let e : value_on value (drop i word) ≡ value_on (value * 10 + (get_or word i d - 48)) (drop (i + 1) word) = at_drop_more (value_on value) word i d lt in
    none_if_great word (omega (arith, value_on-ge (value * 10 + (get_or word i d - 48)) (drop (i + 1) word)))
