-- Laws of words, lines and pieces, also for the crates that read other texts.
use Rattle.std.proofs.Common.{◌≡◌, ℕ, suc, ◌+◌, ◌^◌, ◌<◌, ◌≤◌, not, eqb, Bool, true, false, cond, ltb, ◌&&◌, List, [], ◌∷◌, ◌++◌, length, take, drop, Option, Some, None, refl, ap, subst, ◌∙◌, append_assoc, arith, rules}
use Rattle.std.specs.Prelude.{decimal, position, option_map}
use Rattle.std.specs.List.{list_all, position_or_len, slice_split}
use Rattle.std.specs.Str.{all_ascii_digits}
use Rattle.std.specs.Char.{is_ascii_digit}
use Rattle.std.proofs.lemmas.Bool.{lt-ltb, ltb-true, ltb-false}
use Rattle.std.proofs.lemmas.Bool.Decides.{nat_tests}
use Rattle.std.proofs.lemmas.Fmt.{digits_decimal, decimal_nonempty}
use Rattle.std.proofs.lemmas.List.{length-append}
use Rattle.std.proofs.lemmas.List.Folds.{list_all-append}
use Rattle.std.proofs.lemmas.List.Splits.{slice_split_first, slice_split_none}
use Rattle.std.proofs.lemmas.List.Sums.{fails_before_first}
use Rattle.std.proofs.Math.Seq.{take-append_seam, drop-append-add}
use Rattle.std.proofs.lemmas.Str.Parse.{IsNumeralModel, numerals_by_fold}
use Rattle.lynx_lex.specs.Digits.{value_on, begins_with_digit}
use Rattle.lynx_lex.specs.Lines.{is_feed, is_printable, is_graphic, is_filled, is_word, AreWords, next_line, spaced, joined, line}
use Rattle.lynx_lex.specs.Word.{is_letter, is_name_byte, is_name}

-- both of two tests hold
pub cond_some : {X : Type 0} (b : Bool) (x y : X) → cond b (Some x) None ≡ Some y → (b ≡ true) × (x ≡ y)
cond_some true x y e = (refl, cc)
cond_some false x y e = absurd cc

pub cond_none : {X : Type 0} (b : Bool) (x : X) → cond b (Some x) None ≡ None → b ≡ false
cond_none true x e = absurd cc
cond_none false x e = refl

pub and_true : (a b : Bool) → (a && b) ≡ true → (a ≡ true) × (b ≡ true)
and_true true b e = (refl, e)
and_true false b e = absurd cc

pub both_true : (a b : Bool) → a ≡ true → b ≡ true → (a && b) ≡ true
both_true a b p q = ap (λ x. x && b) p ∙ q

pub own : IsNumeralModel (λ ds. all_ascii_digits ds ≡ true) (value_on 0)
own = numerals_by_fold _ (search rules) value_on (search rules)

graphic-printable : (byte : ℕ) → is_graphic byte ≡ true → is_printable byte ≡ true
graphic-printable byte graphic = grind (arith, nat_tests)

printable-word : (word : List ℕ) → list_all is_graphic word ≡ true → list_all is_printable word ≡ true
printable-word [] h = refl
printable-word (byte ∷ bytes) h =
    let both = and_true (is_graphic byte) (list_all is_graphic bytes) h in
    both_true (is_printable byte) (list_all is_printable bytes) (graphic-printable byte both.0) (printable-word bytes both.1)

printable-spaced : (words : List (List ℕ)) → list_all is_word words ≡ true → list_all is_printable (spaced words) ≡ true
printable-spaced [] h = refl
printable-spaced (word ∷ words) h =
    let both = and_true (is_word word) (list_all is_word words) h in
    let graphic = and_true (is_filled word) (list_all is_graphic word) both.0 in
    list_all-append is_printable (32 ∷ word) (spaced words)
    ∙ both_true (list_all is_printable (32 ∷ word)) (list_all is_printable (spaced words)) (printable-word word graphic.1) (printable-spaced words both.1)

pub printable-joined : (words : List (List ℕ)) → list_all is_word words ≡ true → list_all is_printable (joined words) ≡ true
printable-joined [] h = refl
printable-joined (word ∷ words) h =
    let both = and_true (is_word word) (list_all is_word words) h in
    let graphic = and_true (is_filled word) (list_all is_graphic word) both.0 in
    list_all-append is_printable word (spaced words)
    ∙ both_true (list_all is_printable word) (list_all is_printable (spaced words)) (printable-word word graphic.1) (printable-spaced words both.1)

-- ---- names and numbers are words, and no name begins as a number

letter-graphic : (byte : ℕ) → is_letter byte ≡ true → is_graphic byte ≡ true
letter-graphic byte h = grind (arith, nat_tests)

letter-no_digit : (byte : ℕ) → is_letter byte ≡ true → is_ascii_digit byte ≡ false
letter-no_digit byte h = grind (arith, nat_tests)

byte-graphic : (byte : ℕ) → is_name_byte byte ≡ true → is_graphic byte ≡ true
byte-graphic byte h = grind (arith, nat_tests)

bytes-graphic : (bytes : List ℕ) → list_all is_name_byte bytes ≡ true → list_all is_graphic bytes ≡ true
bytes-graphic [] h = refl
bytes-graphic (byte ∷ bytes) h = let p = and_true (is_name_byte byte) (list_all is_name_byte bytes) h in both_true (is_graphic byte) (list_all is_graphic bytes) (byte-graphic byte p.0) (bytes-graphic bytes p.1)

filled : (byte : ℕ) (bytes : List ℕ) → is_filled (byte ∷ bytes) ≡ true
filled byte bytes = by (length bytes)
  where
    by : (n : ℕ) → not (eqb (suc n) 0) ≡ true
    by n = grind (arith, nat_tests)

pub name-word : (name : List ℕ) → is_name name ≡ true → is_word name ≡ true
name-word [] h = absurd cc
name-word (byte ∷ bytes) h =
    let p = and_true (is_letter byte && ltb (length bytes) 24) (list_all is_name_byte bytes) h in
    let q = and_true (is_letter byte) (ltb (length bytes) 24) p.0 in
    both_true (is_filled (byte ∷ bytes)) (list_all is_graphic (byte ∷ bytes)) (filled byte bytes) (both_true (is_graphic byte) (list_all is_graphic bytes) (letter-graphic byte q.0) (bytes-graphic bytes p.1))

pub name-no_digit : (name : List ℕ) → is_name name ≡ true → begins_with_digit name ≡ false
name-no_digit [] h = refl
name-no_digit (byte ∷ bytes) h =
    let p = and_true (is_letter byte && ltb (length bytes) 24) (list_all is_name_byte bytes) h in
    letter-no_digit byte (and_true (is_letter byte) (ltb (length bytes) 24) p.0).0

digit-graphic : (byte : ℕ) → is_ascii_digit byte ≡ true → is_graphic byte ≡ true
digit-graphic byte h = grind (arith, nat_tests)

digits-graphic : (bytes : List ℕ) → all_ascii_digits bytes ≡ true → list_all is_graphic bytes ≡ true
digits-graphic [] h = refl
digits-graphic (byte ∷ bytes) h = let p = and_true (is_ascii_digit byte) (all_ascii_digits bytes) h in both_true (is_graphic byte) (list_all is_graphic bytes) (digit-graphic byte p.0) (digits-graphic bytes p.1)

digits-word : (bytes : List ℕ) → 0 < length bytes → all_ascii_digits bytes ≡ true → (is_word bytes ≡ true) × (begins_with_digit bytes ≡ true)
digits-word [] some h = absurd (omega arith)
digits-word (byte ∷ bytes) some h =
    (both_true (is_filled (byte ∷ bytes)) (list_all is_graphic (byte ∷ bytes)) (filled byte bytes) (digits-graphic (byte ∷ bytes) h), (and_true (is_ascii_digit byte) (all_ascii_digits bytes) h).0)

pub number-word : (n : ℕ) → n < 2 ^ 64 → (is_word (decimal n) ≡ true) × (begins_with_digit (decimal n) ≡ true)
number-word n fits = digits-word (decimal n) (decimal_nonempty n fits) (digits_decimal own n fits)

-- ---- lines

printable-no_feed : (byte : ℕ) → is_printable byte ≡ true → is_feed byte ≡ false
printable-no_feed byte printable = grind (arith, nat_tests)

first_feed : (bytes more : List ℕ) → list_all is_printable bytes ≡ true → position_or_len is_feed (bytes ++ 10 ∷ more) ≡ length bytes
first_feed [] more h = refl
first_feed (byte ∷ bytes) more h =
    let both = and_true (is_printable byte) (list_all is_printable bytes) h in
    let one : 1 + length bytes ≡ length (byte ∷ bytes) = omega arith in
    ap (λ (test : Bool). cond (not test) (1 + position_or_len is_feed (bytes ++ 10 ∷ more)) 0) (printable-no_feed byte both.0)
    ∙ ap (λ n. 1 + n) (first_feed bytes more both.1) ∙ one

-- a line of words is the next line of a text that begins with it
pub next_line_again : (words : List (List ℕ)) (more : List ℕ) → AreWords words → next_line (line words ++ more) ≡ Some (joined words, more)
next_line_again words more are =
    let whole : line words ++ more ≡ joined words ++ 10 ∷ more = append_assoc (joined words) (10 ∷ []) more in
    let place = first_feed (joined words) more (printable-joined words are.1) in
    let within : ltb (length (joined words)) (length (joined words ++ 10 ∷ more)) ≡ true = lt-ltb _ _ (omega (arith, length-append (joined words) (10 ∷ more))) in
    ap next_line whole
    ∙ ap (λ (n : ℕ). cut n (ltb n (length (joined words ++ 10 ∷ more)))) place
    ∙ ap (cut (length (joined words))) within
    ∙ ap (λ (front : List ℕ). Some (front, drop (length (joined words) + 1) (joined words ++ 10 ∷ more))) (take-append_seam (joined words) (10 ∷ more))
    ∙ ap (λ (rest : List ℕ). Some (joined words, rest)) (drop-append-add (joined words) (10 ∷ more) 1)
  where
    cut : ℕ → Bool → Option (List ℕ × List ℕ)
    cut n test = option_map (λ place. (take place (joined words ++ 10 ∷ more), drop (place + 1) (joined words ++ 10 ∷ more))) (cond test (Some n) None)

-- ---- pieces

-- at the first place the text is cut
pub split_found : (p : ℕ → Bool) (text : List ℕ) (i : ℕ) → position p text ≡ Some i → slice_split p text ≡ take i text ∷ slice_split p (drop (i + 1) text)
split_found p text i is =
    let found = cond_some (ltb (position_or_len p text) (length text)) (position_or_len p text) i is in
    subst (λ (k : ℕ). slice_split p text ≡ take k text ∷ slice_split p (drop (k + 1) text)) found.1 (slice_split_first p text 0 (ltb-true _ _ found.0))

-- where there is no place it is one piece
pub split_none : (p : ℕ → Bool) (text : List ℕ) → position p text ≡ None → slice_split p text ≡ text ∷ []
split_none p text is =
    let past : length text ≤ position_or_len p text = ltb-false _ _ (cond_none (ltb (position_or_len p text) (length text)) (position_or_len p text) is) in
    slice_split_none p text (λ k d lt. fails_before_first p text k d (omega arith))
