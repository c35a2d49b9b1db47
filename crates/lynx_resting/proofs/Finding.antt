-- What is found in the settled front of a lawful history.
use Rattle.std.proofs.Common.{◌≡◌, ◌≤◌, ◌<◌, ◌++◌, ◌∷◌, [], ℕ, zero, suc, Bool, true, false, ◌&&◌, List, length, take, drop, find, slice_get, Option, Some, None, inl, inr, nat_eq, eq-eqb, refl, sym, ap, subst, ◌∙◌, arith}
use Rattle.std.specs.Option.{option_or}
use Rattle.std.specs.Prelude.{IsNone, if◌then◌else◌}
use Rattle.std.proofs.lemmas.List.{length-take-le, take-append-drop}
use Rattle.std.proofs.lemmas.List.Folds.{find-append}
use Rattle.lynx_entry.specs.declared.entry.Entry.{Entry}
use Rattle.lynx_entry.specs.declared.entry.Entry.TheVariants.{Begun, Refused, Hop}
use Rattle.lynx_entry.specs.Entry.{History}
use Rattle.lynx_rules.specs.Lawful.{IsLawful, is_hop_of, is_record_of}
use Rattle.lynx_server.specs.Books.{IsFoundAt}
use Rattle.lynx_server.specs.History.{IsLawfulAfter, IsLawfulHistory}
use Rattle.lynx_server.proofs.InHistory.{lawful_in}
use Rattle.lynx_server.proofs.Members.{IsIn, found_in}
use Rattle.lynx_set.specs.Set.{Set}

-- ---- fronts of lists

-- an element below the end of the front
pub below_front : {X : Type 0} (n : ℕ) (xs : List X) (place : ℕ) → place < n → slice_get (take n xs) place ≡ slice_get xs place
below_front zero xs place low = absurd (omega (arith, low))
below_front (suc n) [] place low = refl
below_front (suc n) (x ∷ xs) zero low = refl
below_front (suc n) (x ∷ xs) (suc place) low = below_front n xs place (omega (arith, low))

at_place : {X : Type 0} (xs : List X) (place : ℕ) (x : X) → slice_get xs place ≡ Some x → IsIn x xs
at_place [] place x there = cc
at_place (first ∷ xs) zero x there = let same : first ≡ x = cc in inl same
at_place (first ∷ xs) (suc place) x there = inr (at_place xs place x there)

longer_front : {X : Type 0} (n more : ℕ) (xs : List X) (x : X) → n ≤ more → IsIn x (take n xs) → IsIn x (take more xs)
longer_front zero more xs x low there = absurd there
longer_front (suc n) more [] x low there = absurd there
longer_front (suc n) zero (first ∷ xs) x low there = absurd (omega (arith, low))
longer_front (suc n) (suc more) (first ∷ xs) x low (inl same) = inl same
longer_front (suc n) (suc more) (first ∷ xs) x low (inr there) = inr (longer_front n more xs x (omega (arith, low)) there)

-- what passes the test is found, or another before it
none_passes : {X : Type 0} (test : X → Bool) (xs : List X) (x : X) → IsIn x xs → test x ≡ true → find test xs ≡ None → ⊥
none_passes test [] x there passes none = absurd there
none_passes {X} test (first ∷ xs) x there passes none = by (test first) refl none there (none_passes test xs x)
  where
    by : (b : Bool) → test first ≡ b → (if b then Some first else find test xs) ≡ None → IsIn x (first ∷ xs) →
        (IsIn x xs → test x ≡ true → find test xs ≡ None → ⊥) → ⊥
    by true is found there later = cc
    by false is found (inl same) later = let fails : test x ≡ false = ap test (sym same) ∙ is in cc
    by false is found (inr there) later = later there passes found

pub lawful_front : (set : Set) (server : ℕ) (before history : History) (n : ℕ) → IsLawfulAfter set server before history → IsLawfulAfter set server before (take n history)
lawful_front set server before history zero lawful = tt
lawful_front set server before [] (suc n) lawful = tt
lawful_front set server before (entry ∷ history) (suc n) lawful = (lawful.0, lawful_front set server (before ++ entry ∷ []) history n lawful.1)

-- ---- what is found of the front is found of all

front_first : {X : Type 0} (test : X → Bool) (n : ℕ) (xs : List X) (x : X) → find test (take n xs) ≡ Some x → find test xs ≡ Some x
front_first test n xs x found =
    ap (find test) (sym (take-append-drop n xs)) ∙ find-append test (take n xs) (drop n xs)
    ∙ ap (λ o. option_or o (find test (drop n xs))) found

front_nothing : {X : Type 0} (test : X → Bool) (n : ℕ) (xs : List X) → find test xs ≡ None → find test (take n xs) ≡ None
front_nothing {X} test n xs none = by (find test (take n xs)) refl
  where
    by : (o : Option X) → find test (take n xs) ≡ o → find test (take n xs) ≡ None
    by None is = is
    by (Some x) is = let found = front_first test n xs x is in cc

front_something : {X : Type 0} (test : X → Bool) (n : ℕ) (xs : List X) (place : ℕ) (x : X) → place < n → slice_get xs place ≡ Some x → find test xs ≡ Some x →
    find test (take n xs) ≡ Some x
front_something {X} test n xs place x low there found = by (find test (take n xs)) refl
  where
    by : (o : Option X) → find test (take n xs) ≡ o → find test (take n xs) ≡ Some x
    by None is = absurd (none_passes test (take n xs) x (at_place (take n xs) place x (below_front n xs place low ∙ there)) (found_in test xs x found).1 is)
    by (Some y) is = let same : y ≡ x = (let first = front_first test n xs y is in cc) in is ∙ ap Some same

-- ---- no entry stands in a lawful history twice

none_is : {X : Type 0} (o : Option X) → IsNone o → o ≡ None
none_is None is = refl
none_is (Some x) is = cc

same_number : (n : ℕ) → nat_eq n n ≡ true
same_number n = eq-eqb n n refl

not_before : (set : Set) (server : ℕ) (before : History) (entry : Entry) → IsLawful set server before entry → IsIn entry before → ⊥
not_before set server before (Begun begun) lawful there =
    none_passes (is_record_of begun.request) before (Begun begun) there
    (λ i. (same_number begun.request.client i && same_number begun.request.number i)) (none_is _ lawful.may_begin.new)
not_before set server before (Refused refused) lawful there =
    none_passes (is_record_of refused.request) before (Refused refused) there
    (λ i. (same_number refused.request.client i && same_number refused.request.number i)) (none_is _ lawful.may_begin.new)
not_before set server before (Hop ran) lawful there =
    none_passes (is_hop_of ran.message.chain ran.message.hop) before (Hop ran) there
    (λ i. (same_number ran.message.chain.origin i && same_number ran.message.chain.index i && same_number ran.message.hop i)) (none_is _ lawful.new)

front_not : (set : Set) (server : ℕ) (history : History) (test : Entry → Bool) (n place : ℕ) (entry : Entry) → IsLawfulHistory set server history →
    n ≤ place → slice_get history place ≡ Some entry → find test history ≡ Some entry → find test (take n history) ≡ None
front_not set server history test n place entry lawful past there found = by (find test (take n history)) refl
  where
    by : (o : Option Entry) → find test (take n history) ≡ o → find test (take n history) ≡ None
    by None is = is
    by (Some other) is =
        let same : other ≡ entry = (let first = front_first test n history other is in cc) in
        absurd (not_before set server (take place history) entry (lawful_in set server history place entry lawful there)
        (longer_front n place history entry past (subst (λ e. IsIn e (take n history)) same (found_in test (take n history) other is).0)))

-- ---- places

-- a place of the front
pub place_settled : (history : History) (test : Entry → Bool) (n place : ℕ) → n ≤ length history → place < n →
    IsFoundAt history (Some place) (find test history) → IsFoundAt (take n history) (Some place) (find test (take n history))
place_settled history test n place within low found = (
  let long = length-take-le n history within in omega (arith, low, long),
  below_front n history place low ∙ found.1 ∙ sym (by (find test history) refl),
)
  where
    by : (o : Option Entry) → find test history ≡ o → find test (take n history) ≡ find test history
    by None none = front_nothing test n history none ∙ sym none
    by (Some entry) is = front_something test n history place entry low (found.1 ∙ is) is ∙ sym is

-- a place behind it
pub place_unsettled : (set : Set) (server : ℕ) (history : History) (test : Entry → Bool) (n place : ℕ) → IsLawfulHistory set server history → n ≤ place →
    IsFoundAt history (Some place) (find test history) → IsFoundAt (take n history) None (find test (take n history))
place_unsettled set server history test n place lawful past found = by (find test history) refl
  where
    by : (o : Option Entry) → find test history ≡ o → find test (take n history) ≡ None
    by None none = front_nothing test n history none
    by (Some entry) is = front_not set server history test n place entry lawful past (found.1 ∙ is) is

-- no place
pub place_nowhere : (history : History) (test : Entry → Bool) (n : ℕ) → IsFoundAt history None (find test history) → IsFoundAt (take n history) None (find test (take n history))
place_nowhere history test n none = front_nothing test n history none
