-- What stands behind words at the front of a text.
use Rattle.std.proofs.Common.{◌≡◌, ◌≢◌, ◌<◌, ◌^◌, ◌++◌, ◌∙◌, sym, ap, refl, arith, true, List, [], ◌∷◌, ℕ, Option, Some, None, decimal, Bor, append_assoc}
use Rattle.std.specs.Prelude.{IfSome, IfNone}
use Rattle.std.specs.Option.{MatchOption}
use Rattle.std.proofs.lemmas.List.{append_cancel_left, append-nil}
use Rattle.lynx_lex.specs.Lines.{AreWords, is_word, joined, line, next_line}
use Rattle.lynx_lex.proofs.NextLine.{line_taken, same_line}
use Rattle.lynx_lex.proofs.WordLaws.{next_line_again, number-word, both_true}
use Rattle.lynx_notice.specs.Notices.{port_line}

pub found_of : (text words : List ℕ) (result : Option (Bor (List ℕ))) → MatchOption result ((rest : List ℕ) → text ≢ words ++ rest) (λ rest. text ≡ words ++ rest.now) →
    IfSome result (λ rest. text ≡ words ++ rest.now)
found_of text words None is = tt
found_of text words (Some rest) is = is

pub none_of : (text words : List ℕ) (result : Option (Bor (List ℕ))) → MatchOption result ((rest : List ℕ) → text ≢ words ++ rest) (λ rest. text ≡ words ++ rest.now) →
    IfNone result ((rest : List ℕ) → text ≢ words ++ rest)
none_of text words None is = is
none_of text words (Some rest) is = tt

-- a line of a port, behind its words
pub behind_words : (text words rest : List ℕ) (port : ℕ) → text ≡ port_line words port ++ rest → text ≡ words ++ (decimal port ++ 10 ∷ rest)
behind_words text words rest port is =
    is ∙ append_assoc (words ++ decimal port) (10 ∷ []) rest ∙ append_assoc words (decimal port) (10 ∷ rest)

-- .. and back
pub line_again : (text words digits rest : List ℕ) (port : ℕ) → text ≡ words ++ (digits ++ 10 ∷ rest) → digits ≡ decimal port → text ≡ port_line words port ++ rest
line_again text words digits rest port is same =
    is ∙ ap (λ d. words ++ (d ++ 10 ∷ rest)) same ∙ sym (append_assoc words (decimal port) (10 ∷ rest)) ∙ sym (append_assoc (words ++ decimal port) (10 ∷ []) rest)

pub next_is : (behind digits rest : List ℕ) → next_line behind ≡ Some (digits, rest) → behind ≡ digits ++ 10 ∷ rest
next_is behind digits rest is = (line_taken behind digits rest is).0

number_words : (port : ℕ) → port < 2 ^ 16 → AreWords (decimal port ∷ [])
number_words port small = (omega arith, both_true (is_word (decimal port)) true (number-word port (omega (arith, small))).0 refl)

-- the next line of what stands behind the words
pub port_next : (text words behind rest : List ℕ) (port : ℕ) → port < 2 ^ 16 → text ≡ words ++ behind → text ≡ port_line words port ++ rest →
    next_line behind ≡ Some (decimal port, rest)
port_next text words behind rest port small is told =
    let same : behind ≡ decimal port ++ 10 ∷ rest = append_cancel_left words behind (decimal port ++ 10 ∷ rest) (sym is ∙ behind_words text words rest port told) in
    let one : joined (decimal port ∷ []) ≡ decimal port = append-nil (decimal port) in
    let whole : decimal port ++ 10 ∷ rest ≡ line (decimal port ∷ []) ++ rest =
    ap (λ d. d ++ 10 ∷ rest) (sym one) ∙ sym (append_assoc (joined (decimal port ∷ [])) (10 ∷ []) rest) in
    ap next_line (same ∙ whole) ∙ next_line_again (decimal port ∷ []) rest (number_words port small)
    ∙ ap (λ d. Some (d, rest)) one

-- the port that the next line is of, and what follows it
pub port_is : (text words behind digits rest more : List ℕ) (port : ℕ) → port < 2 ^ 16 → text ≡ words ++ behind → next_line behind ≡ Some (digits, more) →
    text ≡ port_line words port ++ rest → (digits ≡ decimal port) × (more ≡ rest)
port_is text words behind digits rest more port small is next told =
    same_line behind next (port_next text words behind rest port small is told)
