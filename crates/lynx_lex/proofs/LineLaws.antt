-- The words of a line: what is read is spelled so, and what is spelled so is read.
use Rattle.std.proofs.Common.{◌≡◌, ℕ, ◌<◌, Bool, true, false, cond, ◌&&◌, List, [], ◌∷◌, ◌++◌, length, Some, None, refl, sym, ap, subst, ◌∙◌, arith}
use Rattle.std.specs.List.{slice_split, onto_first, list_all, join_with_byte}
use Rattle.std.proofs.lemmas.Bool.Decides.{nat_tests}
use Rattle.std.proofs.lemmas.List.{append-nil}
use Rattle.std.proofs.lemmas.List.Splits.{slice_split_at, slice_split_none, join_with_byte-slice_split}
use Rattle.std.proofs.lemmas.List.Elements.{All-from_recursion}
use Rattle.std.specs.List.{AllByRecursion}
use Rattle.lynx_lex.specs.Lines.{is_space, is_printable, is_filled, is_graphic, is_word, AreWords, words_in, joined}
use Rattle.lynx_lex.proofs.WordLaws.{and_true, both_true, cond_some, printable-joined}
use Rattle.lynx_lex.proofs.PieceLaws.{has_piece}

-- what is joined with spaces
joined-join : (words : List (List ℕ)) → join_with_byte 32 words ≡ joined words
joined-join [] = refl
joined-join (word ∷ []) = sym (append-nil word)
joined-join (word ∷ next ∷ words) = ap (λ rest. word ++ (32 ∷ rest)) (joined-join (next ∷ words))

graphic-byte : (byte : ℕ) → is_printable byte ≡ true → is_space byte ≡ false → is_graphic byte ≡ true
graphic-byte byte printable other = grind (arith, nat_tests)

-- the pieces of a printable line have no space
graphic-pieces : (line : List ℕ) → list_all is_printable line ≡ true → list_all (list_all is_graphic) (slice_split is_space line) ≡ true
graphic-pieces [] h = refl
graphic-pieces (byte ∷ bytes) h =
    let parts = and_true (is_printable byte) (list_all is_printable bytes) h in
    let shape = has_piece is_space bytes in
    by (is_space byte) refl (slice_split is_space bytes) shape.0 shape.1 shape.2 parts.0 (graphic-pieces bytes parts.1)
  where
    by : (test : Bool) → is_space byte ≡ test → (pieces : List (List ℕ)) (first : List ℕ) (rest : List (List ℕ)) → pieces ≡ first ∷ rest → is_printable byte ≡ true
        → list_all (list_all is_graphic) pieces ≡ true → list_all (list_all is_graphic) (cond test ([] ∷ pieces) (onto_first byte pieces)) ≡ true
    by true is pieces first rest shape printable all = all
    by false is pieces first rest shape printable all =
        let both = and_true (list_all is_graphic first) (list_all (list_all is_graphic) rest) (sym (ap (list_all (list_all is_graphic)) shape) ∙ all) in
        let graphic : is_graphic byte ≡ true = graphic-byte byte printable is in
        ap (λ p. list_all (list_all is_graphic) (onto_first byte p)) shape
        ∙ both_true (list_all is_graphic (byte ∷ first)) (list_all (list_all is_graphic) rest) (both_true (is_graphic byte) (list_all is_graphic first) graphic both.0) both.1

words_all : (words : List (List ℕ)) → list_all is_filled words ≡ true → list_all (list_all is_graphic) words ≡ true → list_all is_word words ≡ true
words_all [] f g = refl
words_all (word ∷ words) f g =
    let fs = and_true (is_filled word) (list_all is_filled words) f in
    let gs = and_true (list_all is_graphic word) (list_all (list_all is_graphic) words) g in
    both_true (is_word word) (list_all is_word words) (both_true (is_filled word) (list_all is_graphic word) fs.0 gs.0) (words_all words fs.1 gs.1)

-- what is read is spelled so
pub words_take : (line : List ℕ) (words : List (List ℕ)) → words_in line ≡ Some words → AreWords words × (line ≡ joined words)
words_take line words e =
    let pieces = slice_split is_space line in
    let read = cond_some (list_all is_printable line && list_all is_filled pieces) pieces words e in
    let tests = and_true (list_all is_printable line) (list_all is_filled pieces) read.0 in
    let all : list_all is_word pieces ≡ true = words_all pieces tests.1 (graphic-pieces line tests.0) in
    let shape = has_piece is_space line in
    let some : 0 < length pieces = subst (λ (p : List (List ℕ)). 0 < length p) (sym shape.2) (omega arith) in
    let whole : line ≡ joined pieces = sym (join_with_byte-slice_split 32 line) ∙ joined-join pieces in
    subst (λ (w : List (List ℕ)). AreWords w × (line ≡ joined w)) read.1 ((some, all), whole)

-- ---- and back

graphic-no_space : (byte : ℕ) → is_graphic byte ≡ true → is_space byte ≡ false
graphic-no_space byte graphic = grind (arith, nat_tests)

no_space : (word : List ℕ) → list_all is_graphic word ≡ true → AllByRecursion (λ byte. is_space byte ≡ false) word
no_space [] h = tt
no_space (byte ∷ bytes) h = let both = and_true (is_graphic byte) (list_all is_graphic bytes) h in (graphic-no_space byte both.0, no_space bytes both.1)

filled-words : (words : List (List ℕ)) → list_all is_word words ≡ true → list_all is_filled words ≡ true
filled-words [] h = refl
filled-words (word ∷ words) h =
    let both = and_true (is_word word) (list_all is_word words) h in
    both_true (is_filled word) (list_all is_filled words) (and_true (is_filled word) (list_all is_graphic word) both.0).0 (filled-words words both.1)

pub split-joined : (words : List (List ℕ)) → 0 < length words → list_all is_word words ≡ true → slice_split is_space (joined words) ≡ words
split-joined [] some h = absurd (omega arith)
split-joined (word ∷ []) some h =
    let both = and_true (is_word word) true h in
    let graphic = and_true (is_filled word) (list_all is_graphic word) both.0 in
    ap (slice_split is_space) (append-nil word) ∙ slice_split_none is_space word (All-from_recursion (λ byte. is_space byte ≡ false) word (no_space word graphic.1))
split-joined (word ∷ next ∷ words) some h =
    let both = and_true (is_word word) (list_all is_word (next ∷ words)) h in
    let graphic = and_true (is_filled word) (list_all is_graphic word) both.0 in
    slice_split_at is_space word 32 (joined (next ∷ words)) (All-from_recursion (λ byte. is_space byte ≡ false) word (no_space word graphic.1)) refl
    ∙ ap (λ p. word ∷ p) (split-joined (next ∷ words) (omega arith) both.1)

-- what is spelled so is read
pub words_again : (words : List (List ℕ)) → AreWords words → words_in (joined words) ≡ Some words
words_again words are =
    let split : slice_split is_space (joined words) ≡ words = split-joined words are.0 are.1 in
    let tests : (list_all is_printable (joined words) && list_all is_filled (slice_split is_space (joined words))) ≡ true =
    both_true (list_all is_printable (joined words)) (list_all is_filled (slice_split is_space (joined words))) (printable-joined words are.1) (ap (list_all is_filled) split ∙ filled-words words are.1) in
    ap (λ b. cond b (Some (slice_split is_space (joined words))) None) tests ∙ ap Some split
