-- What was read, and what nothing spells.
use Rattle.std.proofs.Common.{◌≡◌, ◌≢◌, subst, ℕ, zero, suc, ◌^◌, ◌<◌, ◌≤◌, true, false, cond, ltb, List, [], ◌∷◌, ◌++◌, map, length, get_or, Option, Some, None, refl, sym, ap, ◌∙◌, inl, inr, arith}
use Rattle.std.specs.Prelude.{decimal, Result, Ok, Err, IfOk, IfErr}
use Rattle.std.specs.Borrow.{Bor}
use Rattle.std.specs.List.{AllByRecursion, slice_split, join_with_byte, position_or_len}
use Rattle.std.specs.Str.{bytes_eq, all_ascii_digits}
use Rattle.std.specs.Char.{is_ascii_digit}
use Rattle.std.proofs.lemmas.Bool.{ltb-true, lt-ltb, cases_lt}
use Rattle.std.proofs.lemmas.Bool.Decides.{nat_tests}
use Rattle.std.proofs.lemmas.Fmt.{decimal_injective, digits_decimal}
use Rattle.std.proofs.lemmas.List.Elements.{All-from_recursion}
use Rattle.std.proofs.lemmas.List.Splits.{slice_split_at, slice_split_none, join_with_byte-slice_split}
use Rattle.std.proofs.lemmas.List.Sums.{passes_at_first, fails_before_first}
use Rattle.std.proofs.lemmas.Option.{unwrap_or-slice_get}
use Rattle.std.proofs.lemmas.Slice.Eq.{bytes_eq-Decides}
use Rattle.lynx_names.specs.declared.chain.ChainId.{ChainId}
use Rattle.lynx_lex.specs.declared.fault.FaultKind.{FaultKind}
use Rattle.lynx_lex.specs.declared.fault.FaultKind.TheVariants.{TooLong, BadVersion, BadLine, BadName, BadNumber, Repeated, Unknown, NeedNotFirst, LimitPassed, LiteralElsewhere, Shard, Memory}
use Rattle.lynx_lex.specs.Lines.{◌>>=◌, texts}
use Rattle.lynx_set.specs.Names.{place_of, place_below}
use Rattle.lynx_set.specs.Set.{Set}
use Rattle.lynx_set.specs.Text.{name_at}
use Rattle.lynx_lex.proofs.WordLaws.{and_true, cond_some, own}
use Rattle.lynx_names.specs.Chain.{chain_text}
use Rattle.lynx_lines.specs.Scripts.{is_colon, FitsServer}
use Rattle.lynx_lines.specs.inner.Spelled.{MeansUnread, IsRead}
use Rattle.lynx_lex.proofs.Equal.{first_is, rest_is}

-- a fault that means one thing means what follows from it
pub fails_so : (kind : FaultKind) (only then : Type 0) → (only → then) → MeansUnread kind only → MeansUnread kind then
fails_so TooLong only then so h = h
fails_so BadVersion only then so h = h
fails_so BadLine only then so h = so h
fails_so BadName only then so h = so h
fails_so BadNumber only then so h = so h
fails_so Repeated only then so h = so h
fails_so Unknown only then so h = so h
fails_so NeedNotFirst only then so h = so h
fails_so LimitPassed only then so h = so h
fails_so LiteralElsewhere only then so h = so h
fails_so (Shard fault) only then so h = so h
fails_so Memory only then so h = h

-- a fault that is answered means that nothing that fits is spelled so
pub read_err : {X W : Type 0} (fits : X → Type 0) (spelling : X → W) (written : W) (kind : FaultKind) (r : Result X FaultKind) → Err kind ≡ r → IsRead fits spelling written r
    → MeansUnread kind ((value : X) → fits value → written ≢ spelling value)
read_err fits spelling written kind r is read = subst (λ s. IsRead fits spelling written s) (sym is) read

-- a word spells one number
pub one_number : (word : List ℕ) (n m : ℕ) → n < 2 ^ 64 → m < 2 ^ 64 → word ≡ decimal n → word ≡ decimal m → n ≡ m
one_number word n m n_fits m_fits is other = decimal_injective n m n_fits m_fits (sym is ∙ other)

-- ---- chains

digit-no_colon : (byte : ℕ) → is_ascii_digit byte ≡ true → is_colon byte ≡ false
digit-no_colon byte h = grind (arith, nat_tests)

digits-no_colon : (bytes : List ℕ) → all_ascii_digits bytes ≡ true → AllByRecursion (λ byte. is_colon byte ≡ false) bytes
digits-no_colon [] h = tt
digits-no_colon (byte ∷ bytes) h =
    let both = and_true (is_ascii_digit byte) (all_ascii_digits bytes) h in (digit-no_colon byte both.0, digits-no_colon bytes both.1)

number-no_colon : (n : ℕ) → n < 2 ^ 64 → AllByRecursion (λ byte. is_colon byte ≡ false) (decimal n)
number-no_colon n fits = digits-no_colon (decimal n) (digits_decimal own n fits)

chain_split : (chain : ChainId) → chain.origin < 2 ^ 64 → chain.index < 2 ^ 64 → slice_split is_colon (chain_text chain) ≡ decimal chain.origin ∷ decimal chain.index ∷ []
chain_split chain origin index =
    slice_split_at is_colon (decimal chain.origin) 58 (decimal chain.index) (All-from_recursion (λ byte. is_colon byte ≡ false) (decimal chain.origin) (number-no_colon chain.origin origin)) refl
    ∙ ap (λ (parts : List (List ℕ)). decimal chain.origin ∷ parts) (slice_split_none is_colon (decimal chain.index) (All-from_recursion (λ byte. is_colon byte ≡ false) (decimal chain.index) (number-no_colon chain.index index)))

-- a word that spells a chain has two parts
pub two_parts : (word : List ℕ) (chain : ChainId) → chain.origin < 2 ^ 64 → chain.index < 2 ^ 64 → word ≡ chain_text chain → slice_split is_colon word ≡ decimal chain.origin ∷ decimal chain.index ∷ []
two_parts word chain origin index is = ap (slice_split is_colon) is ∙ chain_split chain origin index

-- which spell its origin and its index
pub chain_parts : (word origin index : List ℕ) (chain : ChainId) → chain.origin < 2 ^ 64 → chain.index < 2 ^ 64 → slice_split is_colon word ≡ origin ∷ index ∷ [] → word ≡ chain_text chain
    → (origin ≡ decimal chain.origin) × (index ≡ decimal chain.index)
chain_parts word origin index chain origin_fits index_fits parts is =
    let both = sym parts ∙ two_parts word chain origin_fits index_fits is in (
      first_is origin (decimal chain.origin) (index ∷ []) (decimal chain.index ∷ []) both,
      first_is index (decimal chain.index) [] [] (rest_is origin (decimal chain.origin) (index ∷ []) (decimal chain.index ∷ []) both),
    )

-- two parts have a colon between them
pub parts_joined : (word origin index : List ℕ) → slice_split is_colon word ≡ origin ∷ index ∷ [] → word ≡ origin ++ 58 ∷ index
parts_joined word origin index parts = sym (join_with_byte-slice_split 58 word) ∙ ap (join_with_byte 58) parts

-- ---- lists of numbers

-- words that spell numbers spell one at each place
pub spelled_at : (words : List (Bor (List ℕ))) (numbers : List ℕ) (i : ℕ) (d : Bor (List ℕ)) → texts words ≡ map decimal numbers → AllByRecursion (λ number. number < 2 ^ 64) numbers → i < length words
    → (n : ℕ) × (n < 2 ^ 64) × ((get_or words i d).now ≡ decimal n)
spelled_at [] numbers i d is fit lt = absurd (omega arith)
spelled_at (word ∷ words) [] i d is fit lt = absurd cc
spelled_at (word ∷ words) (number ∷ numbers) zero d is fit lt = (number, fit.0, first_is word.now (decimal number) (texts words) (map decimal numbers) is)
spelled_at (word ∷ words) (number ∷ numbers) (suc i) d is fit lt = spelled_at words numbers i d (rest_is word.now (decimal number) (texts words) (map decimal numbers) is) fit.1 (omega arith)

-- ---- servers

-- a number that is read spells a server where there are more servers than it
pub server_read : (set : Set) (servers number : ℕ) (word : List ℕ) (r : Result ℕ FaultKind) → servers ≡ set.servers → IfOk r (λ server. (server ≡ number) × (number < servers)) → IfErr r (λ kind. (kind ≡ Unknown) × (servers ≤ number))
    → servers ≤ 16 → number < 2 ^ 64 → word ≡ decimal number → IsRead (FitsServer set) decimal word r
server_read set servers number word (Ok server) same ok err few fits is =
    (record { declared = omega (arith, ok.0, ok.1, same); numbered = omega (arith, ok.0, ok.1, few) }, is ∙ ap decimal (sym ok.0))
server_read set servers number word (Err kind) same ok err few fits is =
    rw err.0 (λ server there other. absurd (omega (arith, there.declared, same, err.1, one_number word number server fits (omega (arith, there.numbered)) is other)))

-- ---- programs

name_at-get_or : (names : List (List ℕ)) (i : ℕ) → name_at names i ≡ get_or names i []
name_at-get_or names i = unwrap_or-slice_get names i []

-- a name that is found has its place
pub name_found : (names : List (List ℕ)) (word : List ℕ) (place : ℕ) → place_below 64 names word ≡ Some place → (place < length names) × (place < 64) × (word ≡ name_at names place)
name_found names word place found = by (place_of names word) refl found
  where
    at : List (List ℕ) → List ℕ → ℕ
    at names word = position_or_len (λ known. bytes_eq known word) names

    by : (o : Option ℕ) → place_of names word ≡ o → (o >>= λ p. cond (ltb p 64) (Some p) None) ≡ Some place → (place < length names) × (place < 64) × (word ≡ name_at names place)
    by None is below = absurd cc
    by (Some p) is below =
        let small = cond_some (ltb p 64) p place below in
        let first = cond_some (ltb (at names word) (length names)) (at names word) p is in
        let here : at names word ≡ place = first.1 ∙ small.1 in
        let within : at names word < length names = ltb-true _ _ first.0 in
        let same : get_or names (at names word) [] ≡ word = (bytes_eq-Decides _ word).0 (passes_at_first (λ known. bytes_eq known word) names [] within) in
        (omega (arith, within, here), omega (arith, ltb-true _ _ small.0, small.1), sym (name_at-get_or names place ∙ ap (λ i. get_or names i []) (sym here) ∙ same))

-- a name that has a place below 64 is found
pub name_not_found : (names : List (List ℕ)) (word : List ℕ) (place : ℕ) → place < length names → place < 64 → word ≡ name_at names place → place_below 64 names word ≡ None → ⊥
name_not_found names word place within small is none =
    let at = position_or_len (λ known. bytes_eq known word) names in
    let passes : bytes_eq (get_or names place []) word ≡ true = (bytes_eq-Decides (get_or names place []) word).1 (sym (is ∙ name_at-get_or names place)) in
    let before : at ≤ place = elim (cases_lt place at) [
      | inl less ↦ absurd (differ (sym (fails_before_first (λ known. bytes_eq known word) names place [] less) ∙ passes))
      | inr more ↦ more
    ] in
    let first : place_of names word ≡ Some at = ap (λ b. cond b (Some at) None) (lt-ltb _ _ (omega (arith, before, within))) in
    let second : (Some at >>= λ p. cond (ltb p 64) (Some p) None) ≡ Some at = ap (λ b. cond b (Some at) None) (lt-ltb _ _ (omega (arith, before, small))) in
    no_some (sym none ∙ ap (λ (o : Option ℕ). o >>= λ p. cond (ltb p 64) (Some p) None) first ∙ second)
  where
    differ : false ≡ true → ⊥
    differ e = cc

    no_some : {n : ℕ} → None ≡ Some n → ⊥
    no_some e = cc
