-- The number that a word spells.
use Rattle.std.proofs.Common.{◌≡◌, ℕ, zero, suc, not, eqb, ◌^◌, ◌<◌, Bool, true, false, cond, ◌&&◌, ltb, List, [], ◌∷◌, length, get_or, Some, None, refl, sym, ap, ◌∙◌, arith}
use Rattle.std.specs.Str.{all_ascii_digits}
use Rattle.std.proofs.lemmas.Bool.{lt-ltb, ltb-true, false≢true}
use Rattle.std.proofs.lemmas.Bool.Decides.{nat_tests}
use Rattle.std.proofs.lemmas.Fmt.{decimal-digits_value, digits_decimal, digits_value-decimal, decimal_digit, first_decimal}
use Rattle.std.specs.Prelude.{decimal}
use Rattle.lynx_lex.specs.Digits.{value_on, starts_well, read_number}
use Rattle.lynx_lex.proofs.WordLaws.{and_true, cond_some, own}

-- digits that start well are read
pub some_if_fits : (word : List ℕ) → starts_well word ≡ true → all_ascii_digits word ≡ true → value_on 0 word < 2 ^ 64 → read_number word ≡ Some (value_on 0 word)
some_if_fits word starts digits fits =
    let yes : ltb (value_on 0 word) (2 ^ 64) ≡ true = lt-ltb _ _ fits in
    ap (λ (b : Bool). cond (b && all_ascii_digits word && ltb (value_on 0 word) (2 ^ 64)) (Some (value_on 0 word)) None) starts
    ∙ ap (λ (b : Bool). cond (b && ltb (value_on 0 word) (2 ^ 64)) (Some (value_on 0 word)) None) digits
    ∙ ap (λ (b : Bool). cond b (Some (value_on 0 word)) None) yes

-- an option that is there was tested
starts-length : (word : List ℕ) → starts_well word ≡ true → 0 < length word
starts-length [] h = absurd cc
starts-length (byte ∷ bytes) h = omega arith

starts-zero : (word : List ℕ) → starts_well word ≡ true → get_or word 0 0 ≡ 48 → length word ≡ 1
starts-zero [] h is = absurd cc
starts-zero (byte ∷ []) h is = refl
starts-zero (byte ∷ next ∷ bytes) h is =
    let e : not (eqb 48 48) ≡ true = ap (λ b. not (eqb b 48)) (sym is) ∙ h in
    absurd (false≢true e)

above-differs : (byte : ℕ) → 48 < byte → eqb byte 48 ≡ false
above-differs byte above = grind (arith, nat_tests)

starts-above : (word : List ℕ) → 48 < get_or word 0 0 → starts_well word ≡ true
starts-above [] above = absurd (omega arith)
starts-above (byte ∷ []) above = refl
starts-above (byte ∷ next ∷ bytes) above = ap not (above-differs byte above)

-- what is read is spelled so
pub number_takes : (word : List ℕ) (n : ℕ) → read_number word ≡ Some n → (word ≡ decimal n) × (n < 2 ^ 64)
number_takes word n e =
    let read = cond_some (starts_well word && all_ascii_digits word && ltb (value_on 0 word) (2 ^ 64)) (value_on 0 word) n e in
    let parts = and_true (starts_well word && all_ascii_digits word) (ltb (value_on 0 word) (2 ^ 64)) read.0 in
    let front = and_true (starts_well word) (all_ascii_digits word) parts.0 in
    let fits : value_on 0 word < 2 ^ 64 = ltb-true _ _ parts.1 in
    (sym (decimal-digits_value own word front.1 (starts-length word front.0) (starts-zero word front.0) fits) ∙ ap decimal read.1, omega (arith, read.1))

-- what is spelled so is read
pub number_again : (n : ℕ) → n < 2 ^ 64 → read_number (decimal n) ≡ Some n
number_again n fits =
    let digits : all_ascii_digits (decimal n) ≡ true = digits_decimal own n fits in
    let value : value_on 0 (decimal n) ≡ n = digits_value-decimal own n fits in
    some_if_fits (decimal n) (starts n fits) digits (omega arith) ∙ ap Some value
  where
    starts : (n : ℕ) → n < 2 ^ 64 → starts_well (decimal n) ≡ true
    starts zero fits = ap starts_well (decimal_digit 0 (omega arith))
    starts (suc n) fits = starts-above (decimal (suc n)) (first_decimal (suc n) (omega arith) fits)
