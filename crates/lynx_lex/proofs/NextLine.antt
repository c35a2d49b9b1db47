-- Lists that are equal, and the next line of a text.
use Rattle.std.proofs.Common.{◌≡◌, ℕ, suc, ◌+◌, ◌<◌, ◌≤◌, not, Bool, true, false, cond, ltb, List, [], ◌∷◌, ◌++◌, length, get_or, take, drop, Option, Some, None, refl, sym, ap, ◌∙◌, arith}
use Rattle.std.specs.Prelude.{position, option_map}
use Rattle.std.specs.List.{list_all, position_or_len}
use Rattle.std.proofs.lemmas.Bool.{ltb-true, ltb-false, eqb-true}
use Rattle.std.proofs.lemmas.List.{take-append-drop, take_all, drop_more}
use Rattle.std.proofs.lemmas.List.Sums.{passes_at_first}
use Rattle.lynx_lex.specs.Lines.{is_feed, next_line}
use Rattle.lynx_lex.proofs.WordLaws.{both_true, cond_some, cond_none}
use Rattle.lynx_lex.proofs.Equal.{some_is}

-- no byte of the text is a line feed
abbrev pub HasNoFeed : List ℕ → Type 0
HasNoFeed text = list_all (λ byte. not (is_feed byte)) text ≡ true

-- what the next line leaves
pub same_line : {a b c d : List ℕ} (bytes : List ℕ) → next_line bytes ≡ Some (a, b) → next_line bytes ≡ Some (c, d) → (a ≡ c) × (b ≡ d)
same_line {a} {b} {c} {d} bytes one other =
    let left : List ℕ × List ℕ = (a, b) in
    let right : List ℕ × List ℕ = (c, d) in
    let same : left ≡ right = some_is left right (sym one ∙ other) in
    (ap (λ (p : List ℕ × List ℕ). p.0) same, ap (λ (p : List ℕ × List ℕ). p.1) same)

-- the bytes before the first line feed are none
before_step : (byte : ℕ) (bytes : List ℕ) (b : Bool) → is_feed byte ≡ b → HasNoFeed (take (position_or_len is_feed bytes) bytes)
    → HasNoFeed (take (position_or_len is_feed (byte ∷ bytes)) (byte ∷ bytes))
before_step byte bytes true is less =
    let none : position_or_len is_feed (byte ∷ bytes) ≡ 0 = ap (λ (test : Bool). cond (not test) (1 + position_or_len is_feed bytes) 0) is in
    ap (λ n. list_all (λ byte. not (is_feed byte)) (take n (byte ∷ bytes))) none
before_step byte bytes false is less =
    let next : 1 + position_or_len is_feed bytes ≡ suc (position_or_len is_feed bytes) = omega arith in
    let more : position_or_len is_feed (byte ∷ bytes) ≡ suc (position_or_len is_feed bytes) = ap (λ (test : Bool). cond (not test) (1 + position_or_len is_feed bytes) 0) is ∙ next in
    ap (λ n. list_all (λ byte. not (is_feed byte)) (take n (byte ∷ bytes))) more
    ∙ both_true (not (is_feed byte)) _ (ap not is) less

pub before_feed : (bytes : List ℕ) → HasNoFeed (take (position_or_len is_feed bytes) bytes)
before_feed [] = refl
before_feed (byte ∷ bytes) = before_step byte bytes (is_feed byte) refl (before_feed bytes)

-- the last line of a text has none
pub last_line : (bytes : List ℕ) → next_line bytes ≡ None → HasNoFeed bytes
last_line bytes is = by (position is_feed bytes) refl is
  where
    at : ℕ
    at = position_or_len is_feed bytes

    by : (o : Option ℕ) → position is_feed bytes ≡ o → option_map {U = List ℕ × List ℕ} (λ place. (take place bytes, drop (place + 1) bytes)) o ≡ None → HasNoFeed bytes
    by None found e =
        let past : length bytes ≤ at = ltb-false _ _ (cond_none (ltb at (length bytes)) at found) in
        ap (list_all (λ byte. not (is_feed byte))) (sym (take_all at bytes past)) ∙ before_feed bytes
    by (Some place) found e = absurd cc

-- a text is its next line, a line feed, and the rest, and no other line feed is in the line
pub line_taken : (bytes first rest : List ℕ) → next_line bytes ≡ Some (first, rest)
    → (bytes ≡ first ++ 10 ∷ rest) × HasNoFeed first
line_taken bytes first rest is = by (position is_feed bytes) refl is
  where
    at : ℕ
    at = position_or_len is_feed bytes

    by : (o : Option ℕ) → position is_feed bytes ≡ o → option_map {U = List ℕ × List ℕ} (λ place. (take place bytes, drop (place + 1) bytes)) o ≡ Some (first, rest)
        → (bytes ≡ first ++ 10 ∷ rest) × HasNoFeed first
    by None found e = absurd cc
    by (Some place) found e =
        let here = cond_some (ltb at (length bytes)) at place found in
        let within : place < length bytes = omega (arith, ltb-true _ _ here.0, here.1) in
        let feed : get_or bytes place 0 ≡ 10 = eqb-true _ _ (ap (λ i. is_feed (get_or bytes i 0)) (sym here.1) ∙ passes_at_first is_feed bytes 0 (ltb-true _ _ here.0)) in
        let left : List ℕ × List ℕ = (take place bytes, drop (place + 1) bytes) in
        let right : List ℕ × List ℕ = (first, rest) in
        let same : left ≡ right = some_is left right e in (
          sym (take-append-drop place bytes)
              ∙ ap (λ (tail : List ℕ). take place bytes ++ tail) (drop_more bytes place 0 within ∙ ap (λ byte. byte ∷ drop (place + 1) bytes) feed)
              ∙ ap (λ (p : List ℕ × List ℕ). p.0 ++ 10 ∷ p.1) same,
          ap (λ (p : List ℕ × List ℕ). list_all (λ byte. not (is_feed byte)) p.0) (sym same)
              ∙ ap (λ n. list_all (λ byte. not (is_feed byte)) (take n bytes)) (sym here.1) ∙ before_feed bytes,
        )
