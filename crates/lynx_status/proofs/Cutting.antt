-- What stands behind words at the front of a path, and the parts of a chain.
use Rattle.std.proofs.Common.{◌≡◌, ◌≢◌, ℕ, ◌+◌, ◌<◌, ◌^◌, not, Bool, true, cond, ltb, List, [], ◌∷◌, ◌++◌, length, get_or, take, drop, Option, Some, None, Bor, refl, sym, ap, ◌∙◌, arith, decimal}
use Rattle.std.specs.Prelude.{IfSome, IfNone, position}
use Rattle.std.specs.Char.{is_ascii_digit}
use Rattle.std.specs.List.{position_or_len}
use Rattle.std.specs.Option.{MatchOption}
use Rattle.std.specs.Str.{all_ascii_digits}
use Rattle.std.proofs.lemmas.Bool.{ltb-true, lt-ltb, eqb-true}
use Rattle.std.proofs.lemmas.Bool.Decides.{nat_tests}
use Rattle.std.proofs.lemmas.Fmt.{digits_decimal}
use Rattle.std.proofs.lemmas.List.{drop_more, length-append, take-append-drop}
use Rattle.std.proofs.lemmas.List.Sums.{passes_at_first}
use Rattle.std.proofs.Math.Seq.{drop-append-add, take-append_seam}
use Rattle.lynx_lex.proofs.WordLaws.{and_true, cond_some, own}
use Rattle.lynx_lex.proofs.Equal.{some_is}
use Rattle.lynx_names.specs.declared.chain.ChainId.{ChainId}
use Rattle.lynx_status.specs.Asking.{is_colon}

pub found_of : (text words : List ℕ) (result : Option (Bor (List ℕ))) → MatchOption result ((rest : List ℕ) → text ≢ words ++ rest) (λ rest. text ≡ words ++ rest.now) →
    IfSome result (λ rest. text ≡ words ++ rest.now)
found_of text words None is = tt
found_of text words (Some rest) is = is

pub none_of : (text words : List ℕ) (result : Option (Bor (List ℕ))) → MatchOption result ((rest : List ℕ) → text ≢ words ++ rest) (λ rest. text ≡ words ++ rest.now) →
    IfNone result ((rest : List ℕ) → text ≢ words ++ rest)
none_of text words None is = is
none_of text words (Some rest) is = tt

digit-no_colon : (byte : ℕ) → is_ascii_digit byte ≡ true → not (is_colon byte) ≡ true
digit-no_colon byte h = grind (arith, nat_tests)

-- digits have no colon
first_colon : (digits more : List ℕ) → all_ascii_digits digits ≡ true → position_or_len is_colon (digits ++ 58 ∷ more) ≡ length digits
first_colon [] more h = refl
first_colon (byte ∷ digits) more h =
    let both = and_true (is_ascii_digit byte) (all_ascii_digits digits) h in
    let one : 1 + length digits ≡ length (byte ∷ digits) = omega arith in
    ap (λ (test : Bool). cond test (1 + position_or_len is_colon (digits ++ 58 ∷ more)) 0) (digit-no_colon byte both.0)
    ∙ ap (λ n. 1 + n) (first_colon digits more both.1) ∙ one

-- so the colon behind them is the first
pub colon_found : (word digits more : List ℕ) → all_ascii_digits digits ≡ true → word ≡ digits ++ 58 ∷ more → position is_colon word ≡ Some (length digits)
colon_found word digits more h is =
    let place = first_colon digits more h in
    let within : ltb (length digits) (length (digits ++ 58 ∷ more)) ≡ true = lt-ltb _ _ (omega (arith, length-append digits (58 ∷ more))) in
    ap (position is_colon) is
    ∙ ap (λ (n : ℕ). cond (ltb n (length (digits ++ 58 ∷ more))) (Some n) None) place
    ∙ ap (λ (test : Bool). cond test (Some (length digits)) None) within

-- a word is cut at its first colon
pub cut_there : (word : List ℕ) (place : ℕ) → position is_colon word ≡ Some place → word ≡ take place word ++ 58 ∷ drop (place + 1) word
cut_there word place found =
    let at = position_or_len is_colon word in
    let here = cond_some (ltb at (length word)) at place found in
    let within : place < length word = omega (arith, ltb-true _ _ here.0, here.1) in
    let colon : get_or word place 0 ≡ 58 = eqb-true _ _ (ap (λ i. is_colon (get_or word i 0)) (sym here.1) ∙ passes_at_first is_colon word 0 (ltb-true _ _ here.0)) in
    sym (take-append-drop place word)
    ∙ ap (λ (tail : List ℕ). take place word ++ tail) (drop_more word place 0 within ∙ ap (λ byte. byte ∷ drop (place + 1) word) colon)

-- .. into digits and what is behind their colon
pub cut_so : (word digits more : List ℕ) (place : ℕ) → position is_colon word ≡ Some place → all_ascii_digits digits ≡ true → word ≡ digits ++ 58 ∷ more →
    ◌≡◌ {A = Option (List ℕ × List ℕ)} (Some (take place word, drop (place + 1) word)) (Some (digits, more))
cut_so word digits more place found h is =
    let same : place ≡ length digits = some_is place (length digits) (sym found ∙ colon_found word digits more h is) in
    ap (λ (n : ℕ). Some (take n word, drop (n + 1) word)) same
    ∙ ap (λ (w : List ℕ). Some (take (length digits) w, drop (length digits + 1) w)) is
    ∙ ap (λ (front : List ℕ). Some (front, drop (length digits + 1) (digits ++ 58 ∷ more))) (take-append_seam digits (58 ∷ more))
    ∙ ap (λ (rest : List ℕ). Some (digits, rest)) (drop-append-add digits (58 ∷ more) 1)

pub all_digits : (n : ℕ) → n < 2 ^ 64 → all_ascii_digits (decimal n) ≡ true
all_digits n fits = digits_decimal own n fits

pub pair_is : {X Y : Type 0} (a c : X) (b d : Y) → ◌≡◌ {A = Option (X × Y)} (Some (a, b)) (Some (c, d)) → (a ≡ c) × (b ≡ d)
pair_is {X} {Y} a c b d told =
    let left : X × Y = (a, b) in
    let right : X × Y = (c, d) in
    let same : left ≡ right = some_is left right told in
    (ap (λ (p : X × Y). p.0) same, ap (λ (p : X × Y). p.1) same)

pub chain_is : (origin index : ℕ) (chain : ChainId) → origin ≡ chain.origin → index ≡ chain.index → ◌≡◌ {A = Option ChainId} (Some (record { origin = origin; index = index })) (Some chain)
chain_is origin index chain one other = λ i. Some (record { origin = one i; index = other i })
