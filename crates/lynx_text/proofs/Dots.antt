-- Words with two dots in them.
use Rattle.std.proofs.Common.{◌≡◌, ℕ, ◌<◌, ◌^◌, Bool, true, false, cond, ◌&&◌, List, [], ◌∷◌, ◌++◌, Option, Some, None, is_none, take, drop, get_or, length, ◌+◌, ◌≤◌, refl, sym, ap, ◌∙◌, append_assoc, arith}
use Rattle.std.specs.Prelude.{decimal, option_map, codes, ◌==◌}
use Rattle.std.specs.List.{list_all, AllByRecursion}
use Rattle.std.specs.Str.{all_ascii_digits}
use Rattle.std.specs.Char.{is_ascii_digit}
use Rattle.std.proofs.lemmas.Bool.{eqb-true}
use Rattle.std.proofs.lemmas.Bool.Decides.{nat_tests}
use Rattle.std.proofs.lemmas.Fmt.{digits_decimal}
use Rattle.std.proofs.lemmas.List.{append-nil, at_drop_more, take_more}
use Rattle.lynx_set.specs.declared.interval.Interval.{Interval}
use Rattle.lynx_set.specs.Text.{interval_word}
use Rattle.lynx_lex.specs.Lines.{◌>>=◌, only_if}
use Rattle.lynx_lex.proofs.Equal.{some_is}
use Rattle.lynx_lex.proofs.WordLaws.{and_true, own}
use Rattle.lynx_text.specs.Ranges.{begins_with_dots, behind_first, with_first, cut_at_dots, ends_of}
use Rattle.lynx_text.proofs.Lookups.{bind_some, only_if_some, map_some, both}
use Rattle.lynx_text.proofs.Known.{bind_is, only_if_yes}

-- a word that begins with two dots is them and what is behind them
dots_first : (byte : ℕ) (rest : List ℕ) → begins_with_dots (byte ∷ rest) ≡ true → byte ∷ rest ≡ 46 ∷ 46 ∷ behind_first rest
dots_first byte [] e = absurd cc
dots_first byte (next ∷ rest) e =
    let both = and_true (byte == 46) (next == 46) e in
    ap (λ b. b ∷ next ∷ rest) (eqb-true byte 46 both.0) ∙ ap (λ n. 46 ∷ n ∷ rest) (eqb-true next 46 both.1)

-- a word that is cut is what stands on both sides of its dots
abbrev whole : List ℕ × List ℕ → List ℕ
whole ends = ends.0 ++ 46 ∷ 46 ∷ ends.1

pub cut_take : (word : List ℕ) (ends : List ℕ × List ℕ) → cut_at_dots word ≡ Some ends → word ≡ ends.0 ++ 46 ∷ 46 ∷ ends.1
cut_take [] ends e = absurd cc
cut_take (byte ∷ rest) ends e = by (begins_with_dots (byte ∷ rest)) refl e (cut_take rest)
  where
    by : (dots : Bool) → begins_with_dots (byte ∷ rest) ≡ dots → cond dots (Some ([], behind_first rest)) (option_map (with_first byte) (cut_at_dots rest)) ≡ Some ends
        → ((ends : List ℕ × List ℕ) → cut_at_dots rest ≡ Some ends → rest ≡ ends.0 ++ 46 ∷ 46 ∷ ends.1) → byte ∷ rest ≡ ends.0 ++ 46 ∷ 46 ∷ ends.1
    by true is found later =
        let here : List ℕ × List ℕ = ([], behind_first rest) in
        dots_first byte rest is ∙ ap whole (some_is here ends found)
    by false is found later =
        let read = map_some (with_first byte) (cut_at_dots rest) ends found in
        ap (λ word. byte ∷ word) (later read.0 read.1) ∙ ap whole read.2

-- what stands on both sides, behind a front
abbrev pub with_front : List ℕ → List ℕ × List ℕ → List ℕ × List ℕ
with_front front ends = (front ++ ends.0, ends.1)

-- the word up to a place, before what stands on both sides of the dots that follow
abbrev pub cut_on : List ℕ → ℕ → List ℕ → Option (List ℕ × List ℕ)
cut_on word place rest = option_map (with_front (take place word)) (cut_at_dots rest)

two_more : {Y : Type 0} (F : List ℕ → Y) (word : List ℕ) (place : ℕ) → 2 + place ≤ length word → F (drop place word) ≡ F (get_or word place 0 ∷ get_or word (place + 1) 0 ∷ drop (place + 1 + 1) word)
two_more F word place long =
    at_drop_more F word place 0 (omega (arith, long)) ∙ at_drop_more (λ rest. F (get_or word place 0 ∷ rest)) word (place + 1) 0 (omega (arith, long))

-- the dots are at the place
pub cut_here : (word : List ℕ) (place : ℕ) → 2 + place ≤ length word → begins_with_dots (drop place word) ≡ true →
    cut_on word place (drop place word) ≡ both (take place word) (drop (place + 1 + 1) word)
cut_here word place long dots =
    let first : ℕ = get_or word place 0 in
    let second : ℕ = get_or word (place + 1) 0 in
    let rest : List ℕ = drop (place + 1 + 1) word in
    let here : List ℕ × List ℕ = ([], rest) in
    two_more (cut_on word place) word place long
    ∙ ap (λ b. option_map (with_front (take place word)) (cond b (Some here) (option_map (with_first first) (cut_at_dots (second ∷ rest))))) (sym (two_more begins_with_dots word place long) ∙ dots)
    ∙ ap (λ low. both low rest) (append-nil (take place word))

-- or behind it
pub cut_later : (word : List ℕ) (place : ℕ) → place < length word → begins_with_dots (drop place word) ≡ false →
    cut_on word place (drop place word) ≡ cut_on word (place + 1) (drop (place + 1) word)
cut_later word place within no_dots =
    let first : ℕ = get_or word place 0 in
    let rest : List ℕ = drop (place + 1) word in
    let here : List ℕ × List ℕ = ([], behind_first rest) in
    let same : begins_with_dots (drop place word) ≡ begins_with_dots (first ∷ rest) = at_drop_more begins_with_dots word place 0 within in
    at_drop_more (cut_on word place) word place 0 within
    ∙ ap (λ b. option_map (with_front (take place word)) (cond b (Some here) (option_map (with_first first) (cut_at_dots rest)))) (sym same ∙ no_dots)
    ∙ moved (cut_at_dots rest)
    ∙ ap (λ front. option_map (with_front front) (cut_at_dots rest)) (sym (take_more word place 0 within))
  where
    moved : (found : Option (List ℕ × List ℕ)) →
        option_map (with_front (take place word)) (option_map (with_first (get_or word place 0)) found) ≡ option_map (with_front (take place word ++ get_or word place 0 ∷ [])) found
    moved None = refl
    moved (Some ends) = ap (λ (low : List ℕ). both low ends.1) (sym (append_assoc (take place word) (get_or word place 0 ∷ []) ends.0))

-- no byte of the word is a dot
abbrev pub HasNoDot : List ℕ → Type 0
HasNoDot word = AllByRecursion (λ byte. (byte == 46) ≡ false) word

no_dots_first : (byte : ℕ) (rest : List ℕ) → (byte == 46) ≡ false → begins_with_dots (byte ∷ rest) ≡ false
no_dots_first byte [] e = refl
no_dots_first byte (next ∷ rest) e = ap (λ b. b && (next == 46)) e

-- a word without a dot is cut nowhere
pub uncut : (word : List ℕ) → HasNoDot word → cut_at_dots word ≡ None
uncut [] none = refl
uncut (byte ∷ rest) none =
    ap (λ b. cond b (Some ([], behind_first rest)) (option_map (with_first byte) (cut_at_dots rest))) (no_dots_first byte rest none.0) ∙ ap (option_map (with_first byte)) (uncut rest none.1)

-- two dots behind a word without a dot are found
pub cut_again : (low high : List ℕ) → HasNoDot low → cut_at_dots (low ++ 46 ∷ 46 ∷ high) ≡ Some (low, high)
cut_again [] high none = refl
cut_again (byte ∷ low) high none =
    let rest : List ℕ = low ++ 46 ∷ 46 ∷ high in
    ap (λ b. cond b (Some ([], behind_first rest)) (option_map (with_first byte) (cut_at_dots rest))) (no_dots_first byte rest none.0) ∙ ap (option_map (with_first byte)) (cut_again low high none.1)

digit-no_dot : (byte : ℕ) → is_ascii_digit byte ≡ true → (byte == 46) ≡ false
digit-no_dot byte digit = grind (arith, nat_tests)

digits-no_dot : (word : List ℕ) → all_ascii_digits word ≡ true → HasNoDot word
digits-no_dot [] digits = tt
digits-no_dot (byte ∷ rest) digits =
    let both = and_true (is_ascii_digit byte) (all_ascii_digits rest) digits in
    (digit-no_dot byte both.0, digits-no_dot rest both.1)

decimal-no_dot : (number : ℕ) → number < 2 ^ 64 → HasNoDot (decimal number)
decimal-no_dot number fits = digits-no_dot (decimal number) (digits_decimal own number fits)

-- the ends that are read are spelled so
pub ends_take : (word : List ℕ) (ends : List ℕ × List ℕ) → ends_of word ≡ Some ends → word ≡ ends.0 ++ 46 ∷ 46 ∷ ends.1
ends_take word ends e =
    let cut = bind_some (cut_at_dots word) (λ ends. only_if (is_none (cut_at_dots ends.1)) ends) ends e in
    let once = only_if_some (is_none (cut_at_dots cut.0.1)) cut.0 ends cut.2 in
    cut_take word cut.0 cut.1 ∙ ap (λ (ends : List ℕ × List ℕ). ends.0 ++ 46 ∷ 46 ∷ ends.1) once.1

-- and what is spelled so is read
pub ends_again : (low high : ℕ) → low < 2 ^ 64 → high < 2 ^ 64 → ends_of (decimal low ++ 46 ∷ 46 ∷ decimal high) ≡ Some (decimal low, decimal high)
ends_again low high low_fits high_fits =
    let ends : List ℕ × List ℕ = (decimal low, decimal high) in
    bind_is (cut_at_dots (decimal low ++ 46 ∷ 46 ∷ decimal high)) (λ ends. only_if (is_none (cut_at_dots ends.1)) ends) ends (Some ends)
    (cut_again (decimal low) (decimal high) (decimal-no_dot low low_fits))
    (only_if_yes (is_none (cut_at_dots (decimal high))) ends (ap is_none (uncut (decimal high) (decimal-no_dot high high_fits))))
