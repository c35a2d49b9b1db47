-- Known names are found again at their places.
use Rattle.std.proofs.Common.{◌≡◌, inl, inr, not, ℕ, ◌+◌, ◌<◌, ◌≤◌, Bool, true, false, cond, ltb, List, [], ◌∷◌, ◌++◌, length, Option, Some, None, is_none, refl, sym, ap, ◌∙◌, arith}
use Rattle.std.specs.Prelude.{decimal, option_map}
use Rattle.std.specs.List.{position_or_len, prefix_len}
use Rattle.std.specs.Str.{bytes_eq}
use Rattle.std.proofs.lemmas.Bool.{ltb-true, lt-ltb, ltb-false, cases_lt}
use Rattle.std.proofs.lemmas.List.{length_push}
use Rattle.std.proofs.lemmas.Slice.Eq.{bytes_eq-Decides}
use Rattle.lynx_set.specs.declared.action.Key.{Key}
use Rattle.lynx_set.specs.declared.action.Key.TheVariants.{Literal, Param}
use Rattle.lynx_set.specs.declared.action.Operand.{Operand}
use Rattle.lynx_set.specs.declared.action.Operand.TheVariants.{Number, Name}
use Rattle.lynx_lex.specs.Digits.{read_number}
use Rattle.lynx_lex.specs.Lines.{◌>>=◌, is_word, only_if}
use Rattle.lynx_set.specs.Rules.{FitsKey, FitsOperand, IsNew}
use Rattle.lynx_lex.specs.Word.{is_name}
use Rattle.lynx_set.specs.Names.{place_of, place_below}
use Rattle.lynx_text.specs.Reading.{name_of, new_name, known_name, table_of, read_key, operand_of}
use Rattle.lynx_set.specs.Text.{name_at, key_word, operand_word}
use Rattle.lynx_lex.proofs.WordLaws.{cond_none, cond_some, name-no_digit, name-word, number-word}
use Rattle.lynx_lex.proofs.NumberLaws.{number_again}
use Rattle.lynx_text.proofs.Lookups.{name_at-append, name_at-next}

-- a step that is known
pub bind_is : {A B : Type 0} (o : Option A) (f : A → Option B) (x : A) (y : Option B) → o ≡ Some x → f x ≡ y → (o >>= f) ≡ y
bind_is o f x y e g = ap (λ p. p >>= f) e ∙ g

pub only_if_yes : {X : Type 0} (test : Bool) (x : X) → test ≡ true → only_if test x ≡ Some x
only_if_yes test x e = ap (λ b. cond b (Some x) None) e

abbrev other : List ℕ → List ℕ → Bool
other name known = not (bytes_eq known name)

-- the first place, when more is added
prefix-found : (name : List ℕ) (xs ys : List (List ℕ)) → prefix_len (other name) xs < length xs → prefix_len (other name) (xs ++ ys) ≡ prefix_len (other name) xs
prefix-found name [] ys lt = absurd (omega arith)
prefix-found name (x ∷ xs) ys lt = by (other name x) lt (prefix-found name xs ys)
  where
    by : (test : Bool) → cond test (1 + prefix_len (other name) xs) 0 < length (x ∷ xs) → (prefix_len (other name) xs < length xs → prefix_len (other name) (xs ++ ys) ≡ prefix_len (other name) xs)
        → cond test (1 + prefix_len (other name) (xs ++ ys)) 0 ≡ cond test (1 + prefix_len (other name) xs) 0
    by true lt later = ap (λ n. 1 + n) (later (omega arith))
    by false lt later = refl

-- and where there was none
prefix-all : (name : List ℕ) (xs ys : List (List ℕ)) → length xs ≤ prefix_len (other name) xs → prefix_len (other name) (xs ++ ys) ≡ length xs + prefix_len (other name) ys
prefix-all name [] ys le = omega arith
prefix-all name (x ∷ xs) ys le = by (other name x) le (prefix-all name xs ys)
  where
    by : (test : Bool) → length (x ∷ xs) ≤ cond test (1 + prefix_len (other name) xs) 0 → (length xs ≤ prefix_len (other name) xs → prefix_len (other name) (xs ++ ys) ≡ length xs + prefix_len (other name) ys)
        → cond test (1 + prefix_len (other name) (xs ++ ys)) 0 ≡ length (x ∷ xs) + prefix_len (other name) ys
    by true le later = omega (arith, later (omega arith))
    by false le later = absurd (omega arith)

place_from : (name : List ℕ) (xs : List (List ℕ)) (i : ℕ) → prefix_len (other name) xs ≡ i → i < length xs → place_of xs name ≡ Some i
place_from name xs i is lt =
    ap (λ (b : Bool). cond b (Some (prefix_len (other name) xs)) None) (lt-ltb _ _ (omega arith)) ∙ ap Some is

place_prefix : (name : List ℕ) (xs : List (List ℕ)) (i : ℕ) → place_of xs name ≡ Some i → (prefix_len (other name) xs ≡ i) × (i < length xs)
place_prefix name xs i e =
    let found = cond_some (ltb (position_or_len (λ known. bytes_eq known name) xs) (length xs)) (position_or_len (λ known. bytes_eq known name) xs) i e in
    (found.1, omega (arith, found.1, ltb-true _ _ found.0))

-- names each of which is a name and is found at its place
pub record Known (names : List (List ℕ)) : Type 0 where
  pub named : (i : ℕ) → i < length names → is_name (name_at names i) ≡ true
  pub placed : (i : ℕ) → i < length names → place_of names (name_at names i) ≡ Some i

pub none_known : Known []
none_known = record { named = λ i lt. absurd (omega arith); placed = λ i lt. absurd (omega arith) }

-- one more new name
pub one_known : (names : List (List ℕ)) (name : List ℕ) → Known names → IsNew names name → Known (names ++ name ∷ [])
one_known names name known new = record {
  named = λ i lt. elim (cases_lt i (length names)) [
    | inl old ↦ ap is_name (name_at-append names (name ∷ []) i old) ∙ known.named i old
    | inr past ↦ let last : i ≡ length names = omega (arith, length_push names name) in ap (λ k. is_name (name_at (names ++ name ∷ []) k)) last ∙ ap is_name (name_at-next names name []) ∙ new.named
  ];
  placed = λ i lt. elim (cases_lt i (length names)) [
    | inl old ↦
        let at = place_prefix (name_at names i) names i (known.placed i old) in
        ap (place_of (names ++ name ∷ [])) (name_at-append names (name ∷ []) i old)
        ∙ place_from (name_at names i) (names ++ name ∷ []) i (prefix-found (name_at names i) names (name ∷ []) (omega arith) ∙ at.0) lt
    | inr past ↦
        let last : i ≡ length names = omega (arith, length_push names name) in
        let none : length names ≤ prefix_len (other name) names = ltb-false _ _ (cond_none (ltb (prefix_len (other name) names) (length names)) (prefix_len (other name) names) new.new) in
        let here : prefix_len (other name) (name ∷ []) ≡ 0 = ap (λ (b : Bool). cond (not b) (1 + 0) 0) ((bytes_eq-Decides name name).1 refl) in
        ap (λ k. place_of (names ++ name ∷ []) (name_at (names ++ name ∷ []) k)) last
        ∙ ap (place_of (names ++ name ∷ [])) (name_at-next names name [])
        ∙ place_from name (names ++ name ∷ []) (length names) (omega (arith, prefix-all name names (name ∷ []) none, here)) (omega (arith, length_push names name))
        ∙ ap Some (sym last)
  ];
}

pub below_again : (limit : ℕ) (names : List (List ℕ)) (i : ℕ) → Known names → i < length names → i < limit → place_below limit names (name_at names i) ≡ Some i
below_again limit names i known lt below =
    bind_is (place_of names (name_at names i)) (λ place. only_if (ltb place limit) place) i (Some i) (known.placed i lt) (only_if_yes (ltb i limit) i (lt-ltb _ _ below))

pub known_again : (names : List (List ℕ)) (i : ℕ) → Known names → i < length names → i < 256 → known_name names (name_at names i) ≡ Some i
known_again names i known lt below =
    bind_is (name_of (name_at names i)) (λ name. place_below 256 names name) (name_at names i) (Some i) (only_if_yes (is_name (name_at names i)) (name_at names i) (known.named i lt)) (below_again 256 names i known lt below)

pub table_again : (tables : List (List ℕ)) (i : ℕ) → Known tables → i < length tables → i < 64 → table_of tables (name_at tables i) ≡ Some i
table_again tables i known lt below =
    bind_is (name_of (name_at tables i)) (λ name. place_below 64 tables name) (name_at tables i) (Some i) (only_if_yes (is_name (name_at tables i)) (name_at tables i) (known.named i lt)) (below_again 64 tables i known lt below)

pub new_again : (names : List (List ℕ)) (name : List ℕ) → IsNew names name → new_name names name ≡ Some name
new_again names name new =
    bind_is (name_of name) (λ n. only_if (is_none (place_of names n)) n) name (Some name) (only_if_yes (is_name name) name new.named) (only_if_yes (is_none (place_of names name)) name (ap is_none new.new))

-- a key that fits is read again
pub key_again : (names more : List (List ℕ)) (parameters : ℕ) (key : Key) → Known names → parameters ≤ length names → FitsKey parameters key
    → (read_key names parameters (key_word (names ++ more) key) ≡ Some key) × (is_word (key_word (names ++ more) key) ≡ true)
key_again names more parameters (Literal n) known few fits =
    let word = number-word n fits in
    (ap (λ b. cond b (option_map Literal (read_number (decimal n))) (known_name names (decimal n) >>= λ place. only_if (ltb place parameters) (Param place))) word.1 ∙ ap (option_map Literal) (number_again n fits), word.0)
key_again names more parameters (Param i) known few fits =
    let lt : i < length names = omega arith in
    let same : name_at (names ++ more) i ≡ name_at names i = name_at-append names more i lt in
    let named : is_name (name_at names i) ≡ true = known.named i lt in (
      ap (read_key names parameters) same
          ∙ ap (λ b. cond b (option_map Literal (read_number (name_at names i))) (known_name names (name_at names i) >>= λ place. only_if (ltb place parameters) (Param place))) (name-no_digit (name_at names i) named)
          ∙ bind_is (known_name names (name_at names i)) (λ place. only_if (ltb place parameters) (Param place)) i (Some (Param i)) (known_again names i known lt fits.1) (only_if_yes (ltb i parameters) (Param i) (lt-ltb _ _ fits.0)),
      ap is_word same ∙ name-word (name_at names i) named,
    )

-- and so is a value
pub operand_again : (names more : List (List ℕ)) (value : Operand) → Known names → FitsOperand (length names) value
    → (operand_of names (operand_word (names ++ more) value) ≡ Some value) × (is_word (operand_word (names ++ more) value) ≡ true)
operand_again names more (Number n) known fits =
    let word = number-word n fits in
    (ap (λ b. cond b (option_map Number (read_number (decimal n))) (option_map Name (known_name names (decimal n)))) word.1 ∙ ap (option_map Number) (number_again n fits), word.0)
operand_again names more (Name i) known fits =
    let same : name_at (names ++ more) i ≡ name_at names i = name_at-append names more i fits.0 in
    let named : is_name (name_at names i) ≡ true = known.named i fits.0 in (
      ap (operand_of names) same
          ∙ ap (λ b. cond b (option_map Number (read_number (name_at names i))) (option_map Name (known_name names (name_at names i)))) (name-no_digit (name_at names i) named)
          ∙ ap (option_map Name) (known_again names i known fits.0 fits.1),
      ap is_word same ∙ name-word (name_at names i) named,
    )
