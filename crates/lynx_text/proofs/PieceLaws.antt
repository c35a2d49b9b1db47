-- The lines of a text, piece by piece.
use Rattle.std.proofs.Common.{◌≡◌, ◌≢◌, ℕ, suc, ◌+◌, Bool, true, false, cond, List, [], ◌∷◌, length, take, drop, Option, Some, None, refl, sym, ap, ◌∙◌, arith}
use Rattle.std.specs.Prelude.{position, ◌==◌, codes}
use Rattle.std.specs.Str.{bytes_eq}
use Rattle.std.specs.List.{slice_split, onto_first}
use Rattle.std.proofs.lemmas.Slice.Eq.{bytes_eq-Decides}
use Rattle.std.proofs.lemmas.Bool.{false≢true}
use Rattle.std.proofs.lemmas.Bool.Decides.{nat_tests}
use Rattle.lynx_lex.specs.Lines.{is_feed}
use Rattle.lynx_lex.proofs.PieceLaws.{has_piece}
use Rattle.lynx_lex.proofs.WordLaws.{split_found, split_none}
use Rattle.lynx_text.specs.Pieces.{until, front_to, ends, next_piece, version_of, version_told}

-- the first piece is the text up to the first such byte
pub first_piece : (end : ℕ) (text : List ℕ) → (rest : List (List ℕ)) × (slice_split (λ byte. byte == end) text ≡ until text end ∷ rest)
first_piece end text =
    let h = by (position (λ byte. byte == end) text) refl in
    (h.0, h.1)
  where
    by : (place : Option ℕ) → position (λ byte. byte == end) text ≡ place → (rest : List (List ℕ)) × (slice_split (λ byte. byte == end) text ≡ front_to place text ∷ rest)
    by None is = ([], split_none (λ byte. byte == end) text is)
    by (Some i) is = (slice_split (λ byte. byte == end) (drop (i + 1) text), split_found (λ byte. byte == end) text i is)

-- the first line of a text is the text up to its first line feed
pub version_told-text : (text : List ℕ) → version_told (slice_split is_feed text) ≡ version_of (until text 10)
version_told-text text = let h = first_piece 10 text in ap version_told h.1

-- where there are pieces after the first, that one is the next line
pub next_piece-more : (line : List ℕ) (text : List ℕ) → next_piece (line ∷ slice_split is_feed text) ≡ Some (line, slice_split is_feed text)
next_piece-more line text =
    let h = has_piece is_feed text in
    ap (λ ls. next_piece (line ∷ ls)) h.2 ∙ ap (λ ls. Some (line, ls)) (sym h.2)

suc-not_zero : (n : ℕ) → (suc n == 0) ≡ false
suc-not_zero n = grind (arith, nat_tests)

-- no line is left where the text is empty
pub ends_is : (text : List ℕ) → ends (slice_split is_feed text) ≡ (length text == 0)
ends_is [] = refl
ends_is (byte ∷ bytes) =
    let h = has_piece is_feed bytes in
    by (is_feed byte) (slice_split is_feed bytes) h.0 h.1 h.2 ∙ sym (suc-not_zero (length bytes))
  where
    by : (test : Bool) (pieces : List (List ℕ)) (first : List ℕ) (rest : List (List ℕ)) → pieces ≡ first ∷ rest → ends (cond test ([] ∷ pieces) (onto_first byte pieces)) ≡ false
    by true pieces first rest is = ap (λ p. ends ([] ∷ p)) is
    by false pieces first rest is = ap (λ p. ends (onto_first byte p)) is
