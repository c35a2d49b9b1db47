-- Names, keys and values of a line: what is read is spelled so.
use Rattle.std.proofs.Common.{◌≡◌, ◌⊎◌, inl, inr, not, ℕ, zero, suc, ◌+◌, ◌<◌, Bool, true, false, cond, ltb, List, [], ◌∷◌, ◌++◌, length, Option, Some, None, refl, sym, ap, subst, ◌∙◌, arith}
use Rattle.std.specs.Prelude.{option_map}
use Rattle.std.specs.List.{position_or_len, prefix_len}
use Rattle.std.specs.Str.{bytes_eq}
use Rattle.std.proofs.lemmas.Bool.{ltb-true}
use Rattle.std.proofs.lemmas.Slice.Eq.{bytes_eq-Decides}
use Rattle.lynx_set.specs.declared.action.Key.{Key}
use Rattle.lynx_set.specs.declared.action.Key.TheVariants.{Literal, Param}
use Rattle.lynx_set.specs.declared.action.Operand.{Operand}
use Rattle.lynx_set.specs.declared.action.Operand.TheVariants.{Number, Name}
use Rattle.lynx_lex.specs.Digits.{read_number, begins_with_digit}
use Rattle.lynx_lex.specs.Lines.{◌>>=◌, only_if}
use Rattle.lynx_set.specs.Rules.{FitsKey, FitsOperand}
use Rattle.lynx_lex.specs.Word.{is_name}
use Rattle.lynx_set.specs.Names.{place_of, place_below}
use Rattle.lynx_text.specs.Reading.{name_of, known_name, table_of, read_key, operand_of}
use Rattle.lynx_set.specs.Text.{name_at, key_word, operand_word}
use Rattle.lynx_lex.proofs.WordLaws.{cond_some}
use Rattle.lynx_lex.proofs.NumberLaws.{number_takes}
use Rattle.lynx_lex.proofs.Equal.{some_is}

-- a step that gave a value
pub bind_some : {A B : Type 0} (o : Option A) (f : A → Option B) (y : B) → (o >>= f) ≡ Some y → (x : A) × (o ≡ Some x) × (f x ≡ Some y)
bind_some None f y e = absurd cc
bind_some (Some x) f y e = (x, refl, e)

pub only_if_some : {X : Type 0} (test : Bool) (x y : X) → only_if test x ≡ Some y → (test ≡ true) × (x ≡ y)
only_if_some test x y e = cond_some test x y e

-- two values that were given together
abbrev pub both : {A B : Type 0} → A → B → Option (A × B)
both a b = Some (a, b)

pub both_is : {A B : Type 0} (a b : A) (c d : B) → both a c ≡ both b d → (a ≡ b) × (c ≡ d)
both_is {A} {B} a b c d e =
    let one : A × B = (a, c) in
    let other : A × B = (b, d) in
    let same : one ≡ other = some_is one other e in
    (ap (λ (p : A × B). p.0) same, ap (λ (p : A × B). p.1) same)

-- a name at a place stays there when names are added
pub name_at-append : (xs ys : List (List ℕ)) (i : ℕ) → i < length xs → name_at (xs ++ ys) i ≡ name_at xs i
name_at-append [] ys i lt = absurd (omega arith)
name_at-append (x ∷ xs) ys zero lt = refl
name_at-append (x ∷ xs) ys (suc i) lt = name_at-append xs ys i (omega arith)

-- and the first of those that are added stands behind them
pub name_at-next : (xs : List (List ℕ)) (name : List ℕ) (ys : List (List ℕ)) → name_at (xs ++ name ∷ ys) (length xs) ≡ name
name_at-next [] name ys = refl
name_at-next (x ∷ xs) name ys = name_at-next xs name ys

-- a name that has a place stands there
prefix-take : (names : List (List ℕ)) (name : List ℕ) → prefix_len (λ known. not (bytes_eq known name)) names < length names → name_at names (prefix_len (λ known. not (bytes_eq known name)) names) ≡ name
prefix-take [] name lt = absurd (omega arith)
prefix-take (first ∷ names) name lt = by (bytes_eq first name) refl lt (prefix-take names name)
  where
    by : (test : Bool) → bytes_eq first name ≡ test → cond (not test) (1 + prefix_len (λ known. not (bytes_eq known name)) names) 0 < length (first ∷ names)
        → (prefix_len (λ known. not (bytes_eq known name)) names < length names → name_at names (prefix_len (λ known. not (bytes_eq known name)) names) ≡ name)
        → name_at (first ∷ names) (cond (not test) (1 + prefix_len (λ known. not (bytes_eq known name)) names) 0) ≡ name
    by true is lt later = (bytes_eq-Decides first name).0 is
    by false is lt later =
        let next : 1 + prefix_len (λ known. not (bytes_eq known name)) names ≡ suc (prefix_len (λ known. not (bytes_eq known name)) names) = omega arith in
        ap (name_at (first ∷ names)) next ∙ later (omega arith)

-- what the place of a name says
pub record IsAt (names : List (List ℕ)) (i : ℕ) (name : List ℕ) : Type 0 where
  pub within : i < length names
  pub there : name_at names i ≡ name

pub place_take : (names : List (List ℕ)) (name : List ℕ) (i : ℕ) → place_of names name ≡ Some i → IsAt names i name
place_take names name i e =
    let found = cond_some (ltb (position_or_len (λ known. bytes_eq known name) names) (length names)) (position_or_len (λ known. bytes_eq known name) names) i e in
    let lt : position_or_len (λ known. bytes_eq known name) names < length names = ltb-true _ _ found.0 in
    subst (λ (k : ℕ). IsAt names k name) found.1 (record { within = lt; there = prefix-take names name lt })

pub below_take : (limit : ℕ) (names : List (List ℕ)) (name : List ℕ) (i : ℕ) → place_below limit names name ≡ Some i → IsAt names i name × (i < limit)
below_take limit names name i e =
    let read = bind_some (place_of names name) (λ place. only_if (ltb place limit) place) i e in
    let test = only_if_some (ltb read.0 limit) read.0 i read.2 in
    let at = place_take names name read.0 read.1 in
    let lt : read.0 < limit = ltb-true _ _ test.0 in
    (subst (λ (k : ℕ). IsAt names k name) test.1 at, omega (arith, test.1, lt))

-- a known name is spelled as it was
pub known_take : (names : List (List ℕ)) (word : List ℕ) (i : ℕ) → known_name names word ≡ Some i → (i < length names) × (word ≡ name_at names i) × (i < 256)
known_take names word i e =
    let read = bind_some (name_of word) (λ name. place_below 256 names name) i e in
    let test = only_if_some (is_name word) word read.0 read.1 in
    let at = below_take 256 names read.0 i read.2 in
    (at.0.within, test.1 ∙ sym at.0.there, at.1)

pub table_take : (tables : List (List ℕ)) (word : List ℕ) (i : ℕ) → table_of tables word ≡ Some i → (i < length tables) × (word ≡ name_at tables i) × (i < 64)
table_take tables word i e =
    let read = bind_some (name_of word) (λ name. place_below 64 tables name) i e in
    let test = only_if_some (is_name word) word read.0 read.1 in
    let at = below_take 64 tables read.0 i read.2 in
    (at.0.within, test.1 ∙ sym at.0.there, at.1)

-- an option that was mapped
pub map_some : {A B : Type 0} (f : A → B) (o : Option A) (y : B) → option_map f o ≡ Some y → (x : A) × (o ≡ Some x) × (f x ≡ y)
map_some f None y e = absurd cc
map_some f (Some x) y e = (x, refl, cc)

pub choose : {X : Type 0} (b : Bool) (x y z : X) → cond b x y ≡ z → ((b ≡ true) × (x ≡ z)) ⊎ ((b ≡ false) × (y ≡ z))
choose true x y z e = inl (refl, e)
choose false x y z e = inr (refl, e)

-- a key that is read is spelled so, whatever names are added
pub key_take : (names more : List (List ℕ)) (parameters : ℕ) (word : List ℕ) (key : Key) → read_key names parameters word ≡ Some key → FitsKey parameters key × (word ≡ key_word (names ++ more) key)
key_take names more parameters word key e =
    elim (choose (begins_with_digit word) (option_map Literal (read_number word)) (known_name names word >>= λ place. only_if (ltb place parameters) (Param place)) (Some key) e) [
      | inl p ↦
          let read = map_some Literal (read_number word) key p.1 in
          let number = number_takes word read.0 read.1 in
          subst (λ (k : Key). FitsKey parameters k × (word ≡ key_word (names ++ more) k)) read.2 (number.1, number.0)
      | inr p ↦
          let read = bind_some (known_name names word) (λ place. only_if (ltb place parameters) (Param place)) key p.1 in
          let test = only_if_some (ltb read.0 parameters) (Param read.0) key read.2 in
          let known = known_take names word read.0 read.1 in
          let lt : read.0 < parameters = ltb-true _ _ test.0 in
          subst (λ (k : Key). FitsKey parameters k × (word ≡ key_word (names ++ more) k)) test.1 ((lt, known.2), known.1 ∙ sym (name_at-append names more read.0 known.0))
    ]

-- and so is a value
pub operand_take : (names more : List (List ℕ)) (word : List ℕ) (value : Operand) → operand_of names word ≡ Some value → FitsOperand (length names) value × (word ≡ operand_word (names ++ more) value)
operand_take names more word value e =
    elim (choose (begins_with_digit word) (option_map Number (read_number word)) (option_map Name (known_name names word)) (Some value) e) [
      | inl p ↦
          let read = map_some Number (read_number word) value p.1 in
          let number = number_takes word read.0 read.1 in
          subst (λ (v : Operand). FitsOperand (length names) v × (word ≡ operand_word (names ++ more) v)) read.2 (number.1, number.0)
      | inr p ↦
          let read = map_some Name (known_name names word) value p.1 in
          let known = known_take names word read.0 read.1 in
          subst (λ (v : Operand). FitsOperand (length names) v × (word ≡ operand_word (names ++ more) v)) read.2 ((known.0, known.2), known.1 ∙ sym (name_at-append names more read.0 known.0))
    ]
