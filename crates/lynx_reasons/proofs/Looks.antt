-- What a search keeps, look by look, and what it found at its end.
use Rattle.std.proofs.Common.{◌≡◌, ◌∙◌, ℕ, zero, suc, ◌+◌, ◌-◌, ◌<◌, ◌≤◌, Bool, true, false, cond, not, eqb, leb, ◌&&◌, ◌||◌, List, [], ◌∷◌, ◌++◌, filter, length, take, refl, sym, ap, subst, ⊎_elim, length-append, arith}
use Rattle.std.specs.Bool.{beq}
use Rattle.std.specs.Prelude.{◌↔◌, map, nat_lt}
use Rattle.std.specs.List.{flat_map, range_with_len}
use Rattle.std.proofs.lemmas.Bool.{and_from, and_right, cases_lt, eqb-true, false_from_ne_true, false≢true, le-ltb, leb-true, lt-ltb, or_cases, or_parts, or_right, true_from_ne_false}
use Rattle.std.proofs.lemmas.List.{append-nil, append_assoc, length-take, length_push, nil_from_length, take-append-le, take_all}
use Rattle.std.proofs.lemmas.List.Elements.{filter-append}
use Rattle.std.proofs.lemmas.List.FromFn.{filter_of_map_range_with_len_more}
use Rattle.lynx_set.specs.Set.{Set}
use Rattle.lynx_graph.specs.Acceptance.{IsAccepted}
use Rattle.lynx_reasons.specs.declared.culprit.Culprit.{Culprit}
use Rattle.lynx_reasons.specs.declared.search.Search.{Search}
use Rattle.lynx_reasons.specs.Culprits.{are_late, candidates, fewest, first_three, late_first, ones, set_without, threes, twos, wants_looks}
use Rattle.lynx_reasons.specs.inner.Searches.{Ends, Goes, IsEnded, IsNew, Looked, is_aimed}

-- ---- one candidate more

-- past the budget nothing is added
past_budget : (accepted : Culprit → Bool) (budget : ℕ) (done : List Culprit) (culprit : Culprit) → budget ≤ length done →
    first_three accepted budget (done ++ culprit ∷ []) ≡ first_three accepted budget done
past_budget accepted budget done culprit past = ap (λ xs. take 3 (filter accepted xs)) (take-append-le budget done (culprit ∷ []) past)

-- within it the candidate is, where it passes
within_budget : (accepted : Culprit → Bool) (budget : ℕ) (done : List Culprit) (culprit : Culprit) → length done < budget →
    filter accepted (take budget (done ++ culprit ∷ [])) ≡ filter accepted (take budget done) ++ cond (accepted culprit) (culprit ∷ []) []
within_budget accepted budget done culprit within =
    let more = length_push done culprit in
    ap (filter accepted) (take_all budget (done ++ culprit ∷ []) (omega (arith, more, within)))
    ∙ filter-append accepted done (culprit ∷ [])
    ∙ ap (λ (xs : List Culprit). filter accepted xs ++ cond (accepted culprit) (culprit ∷ []) []) (sym (take_all budget done (omega (arith, within))))

-- nor is anything where three are found
full_stays : (accepted : Culprit → Bool) (budget : ℕ) (done : List Culprit) (culprit : Culprit) → 3 ≤ length (first_three accepted budget done) →
    first_three accepted budget (done ++ culprit ∷ []) ≡ first_three accepted budget done
full_stays accepted budget done culprit full =
    ⊎_elim
    (λ within. let all = length-take 3 (filter accepted (take budget done)) in
    ap (take 3) (within_budget accepted budget done culprit within)
    ∙ take-append-le 3 (filter accepted (take budget done)) (cond (accepted culprit) (culprit ∷ []) []) (omega (arith, all, full)))
    (past_budget accepted budget done culprit)
    (cases_lt (length done) budget)

length_chosen : (b : Bool) (culprit : Culprit) → length (cond b (culprit ∷ []) []) ≤ 1
length_chosen true culprit = omega arith
length_chosen false culprit = omega arith

-- with room for one more it is behind those found
room_adds : (accepted : Culprit → Bool) (budget : ℕ) (done : List Culprit) (culprit : Culprit) → length done < budget → length (first_three accepted budget done) < 3 →
    first_three accepted budget (done ++ culprit ∷ []) ≡ first_three accepted budget done ++ cond (accepted culprit) (culprit ∷ []) []
room_adds accepted budget done culprit within room =
    let passing = filter accepted (take budget done) in
    let added = cond (accepted culprit) (culprit ∷ []) [] in
    let few = length-take 3 passing in
    let one = length_chosen (accepted culprit) culprit in
    let both = length-append passing added in
    ap (take 3) (within_budget accepted budget done culprit within)
    ∙ take_all 3 (passing ++ added) (omega (arith, few, one, both, room))
    ∙ ap (λ (xs : List Culprit). xs ++ added) (sym (take_all 3 passing (omega (arith, few, room))))

-- ---- a look

bound_full : (was other : Bool) (found : ℕ) → 3 ≤ found → (was || (other && nat_lt found 3)) ≡ was
bound_full true other found full = refl
bound_full false other found full = and_right other (nat_lt found 3) (le-ltb found 3 full)

looked_full : (accepted : Culprit → Bool) (budget : ℕ) (was_bound : Bool) (done : List Culprit) (search : Search) (culprit : Culprit) → 3 ≤ length search.found →
    Looked accepted budget was_bound done search → Looked accepted budget was_bound (done ++ culprit ∷ []) search
looked_full accepted budget was_bound done search culprit full looked = record {
  found = looked.found ∙ sym (full_stays accepted budget done culprit (subst (λ (xs : List Culprit). 3 ≤ length xs) looked.found full));
  left = λ room. absurd (omega (arith, room, full));
  within = looked.within;
  spent = looked.spent;
  bound = looked.bound ∙ bound_full was_bound (nat_lt budget (length done)) (length search.found) full
      ∙ sym (bound_full was_bound (nat_lt budget (length (done ++ culprit ∷ []))) (length search.found) full);
}

-- where no looks are left, the candidate is noted as one that was not looked at
looked_spent : (accepted : Culprit → Bool) (budget : ℕ) (was_bound : Bool) (done : List Culprit) (old new : Search) (culprit : Culprit) → length old.found < 3 →
    old.most ≤ old.looks → new.found ≡ old.found → new.looks ≡ old.looks → new.most ≡ old.most → new.is_bound ≡ true →
    Looked accepted budget was_bound done old → Looked accepted budget was_bound (done ++ culprit ∷ []) new
looked_spent accepted budget was_bound done old new culprit room none found looks most bound looked =
    let left = looked.left room in
    let within = looked.within in
    let more = length_push done culprit in
    let past : budget ≤ length done = omega (arith, left, none) in
    let few : length new.found < 3 = subst (λ (xs : List Culprit). length xs < 3) (sym found) room in
    record {
      found = found ∙ looked.found ∙ sym (past_budget accepted budget done culprit past);
      left = λ _. omega (arith, looks, most, none, more, past);
      within = omega (arith, looks, most, within);
      spent = λ _. omega (arith, looks, most, within, none);
      bound = bound ∙ sym (or_right was_bound _ (and_from _ _ (lt-ltb budget (length (done ++ culprit ∷ [])) (omega (arith, past, more))) (lt-ltb (length new.found) 3 few)));
    }

looked_once : (accepted : Culprit → Bool) (budget : ℕ) (was_bound : Bool) (done : List Culprit) (old new : Search) (culprit : Culprit) → length old.found < 3 →
    old.looks < old.most → old.is_bound ≡ false → new.found ≡ old.found ++ cond (accepted culprit) (culprit ∷ []) [] → new.looks ≡ old.looks + 1 → new.most ≡ old.most →
    new.is_bound ≡ old.is_bound → Looked accepted budget was_bound done old → Looked accepted budget was_bound (done ++ culprit ∷ []) new
looked_once accepted budget was_bound done old new culprit room some unbound found looks most bound looked =
    let left = looked.left room in
    let more = length_push done culprit in
    let within : length done < budget = omega (arith, left, some) in
    let before = or_parts was_bound (nat_lt budget (length done) && nat_lt (length old.found) 3) (sym looked.bound ∙ unbound) in
    record {
      found = found ∙ ap (λ (xs : List Culprit). xs ++ cond (accepted culprit) (culprit ∷ []) []) looked.found
          ∙ sym (room_adds accepted budget done culprit within (subst (λ (xs : List Culprit). length xs < 3) looked.found room));
      left = λ _. omega (arith, left, looks, most, more, some);
      within = omega (arith, looks, most, some);
      spent = λ is. absurd (false≢true (sym (bound ∙ unbound) ∙ is));
      bound = bound ∙ unbound ∙ sym before.0
          ∙ sym (ap (λ b. was_bound || (b && nat_lt (length new.found) 3)) (le-ltb budget (length (done ++ culprit ∷ [])) (omega (arith, within, more))) ∙ or_false was_bound);
    }
  where
    or_false : (b : Bool) → (b || false) ≡ b
    or_false true = refl
    or_false false = refl

-- ---- from search to search

pub goes_none : (set : Set) (search : Search) → Goes set [] search search
goes_none set search = record {
  most = refl;
  looked = λ accepted tells budget was_bound done looked. subst (λ xs. Looked accepted budget was_bound xs search) (sym (append-nil done)) looked;
}

pub goes_on : (set : Set) (culprits more : List Culprit) (old next new : Search) → Goes set culprits old next → Goes set more next new → Goes set (culprits ++ more) old new
goes_on set culprits more old next new to on = record {
  most = on.most ∙ to.most;
  looked = λ accepted tells budget was_bound done looked. subst (λ xs. Looked accepted budget was_bound xs new) (append_assoc done culprits more)
      (on.looked accepted tells budget was_bound (done ++ culprits) (to.looked accepted tells budget was_bound done looked));
}

pub goes_same : (set : Set) (culprits others : List Culprit) (old new : Search) → culprits ≡ others → Goes set culprits old new → Goes set others old new
goes_same set culprits others old new same goes = subst (λ xs. Goes set xs old new) same goes

-- a candidate that isn't aimed at is passed over
pub goes_past : (set : Set) (is_late : Bool) (culprit : Culprit) (search : Search) → is_aimed set is_late culprit ≡ false →
    Goes set (filter (is_aimed set is_late) (culprit ∷ [])) search search
goes_past set is_late culprit search unaimed = goes_same set [] _ search search (ap (λ b. cond b (culprit ∷ []) []) (sym unaimed)) (goes_none set search)

aimed_one : (set : Set) (is_late : Bool) (culprit : Culprit) (old new : Search) → is_aimed set is_late culprit ≡ true → Goes set (culprit ∷ []) old new →
    Goes set (filter (is_aimed set is_late) (culprit ∷ [])) old new
aimed_one set is_late culprit old new aimed goes = goes_same set (culprit ∷ []) _ old new (ap (λ b. cond b (culprit ∷ []) []) (sym aimed)) goes

aimed_or_past : (set : Set) (is_late : Bool) (culprit : Culprit) (search : Search) → Goes set (culprit ∷ []) search search →
    Goes set (filter (is_aimed set is_late) (culprit ∷ [])) search search
aimed_or_past set is_late culprit search goes = by (is_aimed set is_late culprit)
  where
    by : (b : Bool) → Goes set (cond b (culprit ∷ []) []) search search
    by true = goes
    by false = goes_none set search

pub goes_full : (set : Set) (is_late : Bool) (culprit : Culprit) (search : Search) → 3 ≤ length search.found →
    Goes set (filter (is_aimed set is_late) (culprit ∷ [])) search search
goes_full set is_late culprit search full = aimed_or_past set is_late culprit search (record {
  most = refl;
  looked = λ accepted tells budget was_bound done looked. looked_full accepted budget was_bound done search culprit full looked;
})

pub goes_bound : (set : Set) (is_late : Bool) (culprit : Culprit) (search : Search) → search.is_bound ≡ true →
    Goes set (filter (is_aimed set is_late) (culprit ∷ [])) search search
goes_bound set is_late culprit search bound = aimed_or_past set is_late culprit search (record {
  most = refl;
  looked = λ accepted tells budget was_bound done looked.
      ⊎_elim
      (λ room. let spent = looked.spent bound in looked_spent accepted budget was_bound done search search culprit room (omega (arith, spent)) refl refl refl bound looked)
      (λ full. looked_full accepted budget was_bound done search culprit full looked)
      (cases_lt (length search.found) 3);
})

pub goes_done : (set : Set) (is_late : Bool) (culprit : Culprit) (search : Search) → (leb 3 (length search.found) || search.is_bound) ≡ true →
    Goes set (filter (is_aimed set is_late) (culprit ∷ [])) search search
goes_done set is_late culprit search done =
    ⊎_elim
    (λ full. goes_full set is_late culprit search (leb-true 3 (length search.found) full))
    (λ bound. goes_bound set is_late culprit search bound)
    (or_cases (leb 3 (length search.found)) search.is_bound done)

pub goes_spent : (set : Set) (is_late : Bool) (culprit : Culprit) (old new : Search) → is_aimed set is_late culprit ≡ true → length old.found < 3 → old.most ≤ old.looks →
    new.found ≡ old.found → new.looks ≡ old.looks → new.most ≡ old.most → new.is_bound ≡ true → Goes set (filter (is_aimed set is_late) (culprit ∷ [])) old new
goes_spent set is_late culprit old new aimed room none found looks most bound = aimed_one set is_late culprit old new aimed (record {
  most = most;
  looked = λ accepted tells budget was_bound done looked. looked_spent accepted budget was_bound done old new culprit room none found looks most bound looked;
})

-- the verdict tells whether it is found
pub record Looks (set : Set) (culprit : Culprit) (verdict : Bool) (old new : Search) : Type 0 where
  pub right : (verdict ≡ true) ↔ IsAccepted (set_without set culprit)
  pub found : new.found ≡ old.found ++ cond verdict (culprit ∷ []) []
  pub looks : new.looks ≡ old.looks + 1
  pub most : new.most ≡ old.most
  pub bound : new.is_bound ≡ old.is_bound

same_answer : (one other : Bool) {P : Type 0} → ((one ≡ true) ↔ P) → ((other ≡ true) ↔ P) → one ≡ other
same_answer true other mine its = sym (its.1 (mine.0 refl))
same_answer false other mine its = sym (false_from_ne_true other (λ is. false≢true (mine.1 (its.0 is))))

pub goes_looked : (set : Set) (is_late : Bool) (culprit : Culprit) (verdict : Bool) (old new : Search) → is_aimed set is_late culprit ≡ true → length old.found < 3 →
    old.looks < old.most → old.is_bound ≡ false → Looks set culprit verdict old new → Goes set (filter (is_aimed set is_late) (culprit ∷ [])) old new
goes_looked set is_late culprit verdict old new aimed room some unbound looks = aimed_one set is_late culprit old new aimed (record {
  most = looks.most;
  looked = λ accepted tells budget was_bound done looked.
      let same : verdict ≡ accepted culprit = same_answer verdict (accepted culprit) looks.right (tells culprit) in
      looked_once accepted budget was_bound done old new culprit room some unbound (looks.found ∙ ap (λ b. old.found ++ cond b (culprit ∷ []) []) same)
      looks.looks looks.most looks.bound looked;
})

-- ---- which candidates are aimed at

pub aimed_same : (set : Set) (is_late : Bool) (culprit : Culprit) → are_late set culprit ≡ is_late → is_aimed set is_late culprit ≡ true
aimed_same set true culprit same = same
aimed_same set false culprit same = ap not same

same_bools : (a b : Bool) → not (beq a b) ≡ false → a ≡ b
same_bools true true same = refl
same_bools true false same = absurd (false≢true (sym same))
same_bools false true same = absurd (false≢true (sym same))
same_bools false false same = refl

pub aimed_tested : (set : Set) (is_late result : Bool) (culprit : Culprit) → result ≡ are_late set culprit → not (beq result is_late) ≡ false → is_aimed set is_late culprit ≡ true
aimed_tested set is_late result culprit is same = aimed_same set is_late culprit (sym is ∙ same_bools result is_late same)

pub unaimed : (set : Set) (is_late : Bool) (culprit : Culprit) → (are_late set culprit ≡ is_late → ⊥) → is_aimed set is_late culprit ≡ false
unaimed set true culprit differs = false_from_ne_true (are_late set culprit) differs
unaimed set false culprit differs = ap not (true_from_ne_false (are_late set culprit) differs)

-- ---- candidate by candidate

-- those made of numbers, and one more
pub goes_next : (set : Set) (is_late : Bool) (make : ℕ → Culprit) (first count next_count next : ℕ) (culprit : Culprit) (old between new : Search) → next_count ≡ count + 1 → first + count ≡ next →
    culprit ≡ make next → Goes set (filter (is_aimed set is_late) (map make (range_with_len first count))) old between → Goes set (filter (is_aimed set is_late) (culprit ∷ [])) between new →
    Goes set (filter (is_aimed set is_late) (map make (range_with_len first next_count))) old new
goes_next set is_late make first count next_count next culprit old between new more at is to on =
    let aimed = is_aimed set is_late in
    goes_same set (filter aimed (map make (range_with_len first count)) ++ filter aimed (culprit ∷ [])) (filter aimed (map make (range_with_len first next_count))) old new
    (ap (λ (c : Culprit). filter aimed (map make (range_with_len first count)) ++ filter aimed (c ∷ [])) is
    ∙ sym (ap (λ (n : ℕ). filter aimed (map make (range_with_len first n))) more ∙ filter_of_map_range_with_len_more aimed make first count next at))
    (goes_on set (filter aimed (map make (range_with_len first count))) (filter aimed (culprit ∷ [])) old between new to on)

pub goes_all : (set : Set) (is_late : Bool) (make : ℕ → Culprit) (first count all : ℕ) (old new : Search) → count ≡ all →
    Goes set (filter (is_aimed set is_late) (map make (range_with_len first count))) old new → Goes set (filter (is_aimed set is_late) (map make (range_with_len first all))) old new
goes_all set is_late make first count all old new same goes =
    goes_same set _ _ old new (ap (λ (n : ℕ). filter (is_aimed set is_late) (map make (range_with_len first n))) same) goes

flat_range_more : (make : ℕ → List Culprit) (first count next : ℕ) → first + count ≡ next →
    flat_map make (range_with_len first (suc count)) ≡ flat_map make (range_with_len first count) ++ make next
flat_range_more make first zero next at = let same : first ≡ next = omega (arith, at) in append-nil (make first) ∙ ap make same
flat_range_more make first (suc count) next at =
    ap (λ xs. make first ++ xs) (flat_range_more make (first + 1) count next (omega (arith, at)))
    ∙ sym (append_assoc (make first) (flat_map make (range_with_len (first + 1) count)) (make next))

-- lists made of numbers, and one more
pub goes_lists : (set : Set) (is_late : Bool) (make : ℕ → List Culprit) (first count next_count next : ℕ) (old between new : Search) → next_count ≡ count + 1 → first + count ≡ next →
    Goes set (filter (is_aimed set is_late) (flat_map make (range_with_len first count))) old between → Goes set (filter (is_aimed set is_late) (make next)) between new →
    Goes set (filter (is_aimed set is_late) (flat_map make (range_with_len first next_count))) old new
goes_lists set is_late make first count next_count next old between new more at to on =
    let aimed = is_aimed set is_late in
    let is : next_count ≡ suc count = omega (arith, more) in
    goes_same set (filter aimed (flat_map make (range_with_len first count)) ++ filter aimed (make next)) (filter aimed (flat_map make (range_with_len first next_count))) old new
    (sym (ap (λ (n : ℕ). filter aimed (flat_map make (range_with_len first n))) is ∙ ap (filter aimed) (flat_range_more make first count next at)
    ∙ filter-append aimed (flat_map make (range_with_len first count)) (make next)))
    (goes_on set (filter aimed (flat_map make (range_with_len first count))) (filter aimed (make next)) old between new to on)

pub goes_all_lists : (set : Set) (is_late : Bool) (make : ℕ → List Culprit) (first count all : ℕ) (old new : Search) → count ≡ all →
    Goes set (filter (is_aimed set is_late) (flat_map make (range_with_len first count))) old new → Goes set (filter (is_aimed set is_late) (flat_map make (range_with_len first all))) old new
goes_all_lists set is_late make first count all old new same goes =
    goes_same set _ _ old new (ap (λ (n : ℕ). filter (is_aimed set is_late) (flat_map make (range_with_len first n))) same) goes

-- ---- the end

-- what comes of the candidates of these counts, where the search was bound before, or not
record Comes (accepted : Culprit → Bool) (budget : ℕ) (was_bound : Bool) (counts : List (List Culprit)) (search : Search) : Type 0 where
  pub found : search.found ≡ fewest accepted budget counts
  pub bound : search.is_bound ≡ (was_bound || wants_looks accepted budget counts)

starts : (accepted : Culprit → Bool) (search : Search) → IsNew search → Looked accepted search.most false [] search
starts accepted search new =
    let none = ap (λ (xs : List Culprit). length xs) new.found in
    let looks = new.looks in
    record {
      found = new.found ∙ sym (ap (λ (xs : List Culprit). take 3 (filter accepted xs)) (take_all search.most [] (omega arith)));
      left = λ _. omega (arith, looks);
      within = omega (arith, looks);
      spent = λ is. absurd (false≢true (sym new.bound ∙ is));
      bound = new.bound ∙ sym (ap (λ b. b && nat_lt (length search.found) 3) (le-ltb search.most 0 (omega arith)));
    }

-- the next count has the looks that are left
next_starts : (accepted : Culprit → Bool) (budget : ℕ) (was_bound : Bool) (done : List Culprit) (search : Search) → search.found ≡ [] →
    Looked accepted budget was_bound done search → Looked accepted (budget - length done) search.is_bound [] search
next_starts accepted budget was_bound done search none looked =
    let few = ap (λ (xs : List Culprit). length xs) none in
    record {
      found = none ∙ sym (ap (λ (xs : List Culprit). take 3 (filter accepted xs)) (take_all (budget - length done) [] (omega arith)));
      left = λ room. let left = looked.left room in omega (arith, left);
      within = looked.within;
      spent = looked.spent;
      bound = sym (ap (λ b. search.is_bound || (b && nat_lt (length search.found) 3)) (le-ltb (budget - length done) 0 (omega arith)) ∙ or_false search.is_bound);
    }
  where
    or_false : (b : Bool) → (b || false) ≡ b
    or_false true = refl
    or_false false = refl

-- some of these were found
comes_here : (accepted : Culprit → Bool) (budget : ℕ) (was_bound : Bool) (culprits : List Culprit) (more : List (List Culprit)) (search : Search) →
    eqb (length search.found) 0 ≡ false → Looked accepted budget was_bound culprits search → Comes accepted budget was_bound (culprits ∷ more) search
comes_here accepted budget was_bound culprits more search some looked =
    let test : eqb (length (first_three accepted budget culprits)) 0 ≡ false = ap (λ (xs : List Culprit). eqb (length xs) 0) (sym looked.found) ∙ some in
    record {
      found = looked.found ∙ sym (ap (λ b. cond b (fewest accepted (budget - length culprits) more) (first_three accepted budget culprits)) test);
      bound = looked.bound ∙ ap (λ (xs : List Culprit). was_bound || (nat_lt budget (length culprits) && nat_lt (length xs) 3)) looked.found
          ∙ ap (λ b. was_bound || b) (sym (or_false (nat_lt budget (length culprits) && nat_lt (length (first_three accepted budget culprits)) 3)
          ) ∙ ap (λ b. (nat_lt budget (length culprits) && nat_lt (length (first_three accepted budget culprits)) 3) || (b && wants_looks accepted (budget - length culprits) more)) (sym test));
    }
  where
    or_false : (b : Bool) → (b || false) ≡ b
    or_false true = refl
    or_false false = refl

-- none of these was, and so it is what comes of the others
comes_later : (accepted : Culprit → Bool) (budget : ℕ) (was_bound : Bool) (culprits : List Culprit) (more : List (List Culprit)) (search last : Search) →
    search.found ≡ [] → Looked accepted budget was_bound culprits search → Comes accepted (budget - length culprits) search.is_bound more last →
    Comes accepted budget was_bound (culprits ∷ more) last
comes_later accepted budget was_bound culprits more search last none looked comes =
    let test : eqb (length (first_three accepted budget culprits)) 0 ≡ true = ap (λ (xs : List Culprit). eqb (length xs) 0) (sym looked.found ∙ none) in
    record {
      found = comes.found ∙ sym (ap (λ b. cond b (fewest accepted (budget - length culprits) more) (first_three accepted budget culprits)) test);
      bound = comes.bound ∙ ap (λ b. b || wants_looks accepted (budget - length culprits) more)
          (looked.bound ∙ ap (λ (xs : List Culprit). was_bound || (nat_lt budget (length culprits) && nat_lt (length xs) 3)) looked.found)
          ∙ or_assoc was_bound (nat_lt budget (length culprits) && nat_lt (length (first_three accepted budget culprits)) 3) (wants_looks accepted (budget - length culprits) more)
          ∙ ap (λ b. was_bound || ((nat_lt budget (length culprits) && nat_lt (length (first_three accepted budget culprits)) 3) || (b && wants_looks accepted (budget - length culprits) more))) (sym test);
    }
  where
    or_assoc : (a b c : Bool) → ((a || b) || c) ≡ (a || (b || c))
    or_assoc true b c = refl
    or_assoc false b c = refl

comes_none : (accepted : Culprit → Bool) (budget : ℕ) (search : Search) → search.found ≡ [] → Comes accepted budget search.is_bound [] search
comes_none accepted budget search none = record { found = none; bound = sym (or_false search.is_bound) }
  where
    or_false : (b : Bool) → (b || false) ≡ b
    or_false true = refl
    or_false false = refl

-- ---- of all counts

-- the search goes over both of a count's lists
pub goes_both : (set : Set) (culprits : List Culprit) (old next new : Search) → Goes set (filter (is_aimed set true) culprits) old next →
    Goes set (filter (is_aimed set false) culprits) next new → Goes set (late_first set culprits) old new
goes_both set culprits old next new to on = goes_on set (filter (is_aimed set true) culprits) (filter (is_aimed set false) culprits) old next new to on

ended : (set : Set) (accepted : Culprit → Bool) (most : ℕ) (search : Search) → search.most ≡ most → (search.is_bound ≡ true → search.looks ≡ search.most) →
    Comes accepted most false (candidates set) search → IsEnded set accepted most search
ended set accepted most search same spent comes = record { found = comes.found; bound = comes.bound; spent = λ is. spent is ∙ same }

-- some ones are found
pub ends_by_ones : (set : Set) (search first : Search) → IsNew search → Goes set (late_first set (ones set)) search first → eqb (length first.found) 0 ≡ false → Ends set search.most first
ends_by_ones set search first new goes some accepted tells =
    let looked = goes.looked accepted tells search.most false [] (starts accepted search new) in
    ended set accepted search.most first goes.most looked.spent
    (comes_here accepted search.most false (late_first set (ones set)) (late_first set (twos set) ∷ late_first set (threes set) ∷ []) first some looked)

-- no ones, but twos
pub ends_by_twos : (set : Set) (search first second : Search) → IsNew search → Goes set (late_first set (ones set)) search first → first.found ≡ [] →
    Goes set (late_first set (twos set)) first second → eqb (length second.found) 0 ≡ false → Ends set search.most second
ends_by_twos set search first second new goes none goes_2 some accepted tells =
    let looked = goes.looked accepted tells search.most false [] (starts accepted search new) in
    let left = search.most - length (late_first set (ones set)) in
    let looked_2 = goes_2.looked accepted tells left first.is_bound [] (next_starts accepted search.most false (late_first set (ones set)) first none looked) in
    ended set accepted search.most second (goes_2.most ∙ goes.most) looked_2.spent
    (comes_later accepted search.most false (late_first set (ones set)) (late_first set (twos set) ∷ late_first set (threes set) ∷ []) first second none looked
    (comes_here accepted left first.is_bound (late_first set (twos set)) (late_first set (threes set) ∷ []) second some looked_2))

-- neither, and threes or none
pub ends_by_threes : (set : Set) (search first second third : Search) → IsNew search → Goes set (late_first set (ones set)) search first → first.found ≡ [] →
    Goes set (late_first set (twos set)) first second → second.found ≡ [] → Goes set (late_first set (threes set)) second third → Ends set search.most third
ends_by_threes set search first second third new goes none goes_2 none_2 goes_3 accepted tells =
    let looked = goes.looked accepted tells search.most false [] (starts accepted search new) in
    let left = search.most - length (late_first set (ones set)) in
    let looked_2 = goes_2.looked accepted tells left first.is_bound [] (next_starts accepted search.most false (late_first set (ones set)) first none looked) in
    let left_2 = left - length (late_first set (twos set)) in
    let looked_3 = goes_3.looked accepted tells left_2 second.is_bound [] (next_starts accepted left first.is_bound (late_first set (twos set)) second none_2 looked_2) in
    ended set accepted search.most third (goes_3.most ∙ goes_2.most ∙ goes.most) looked_3.spent
    (comes_later accepted search.most false (late_first set (ones set)) (late_first set (twos set) ∷ late_first set (threes set) ∷ []) first third none looked
    (comes_later accepted left first.is_bound (late_first set (twos set)) (late_first set (threes set) ∷ []) second third none_2 looked_2
    (last_comes accepted left_2 second.is_bound (late_first set (threes set)) third looked_3)))
  where
    last_comes : (accepted : Culprit → Bool) (budget : ℕ) (was_bound : Bool) (culprits : List Culprit) (search : Search) → Looked accepted budget was_bound culprits search →
        Comes accepted budget was_bound (culprits ∷ []) search
    last_comes accepted budget was_bound culprits search looked = by (eqb (length search.found) 0) refl
      where
        by : (b : Bool) → eqb (length search.found) 0 ≡ b → Comes accepted budget was_bound (culprits ∷ []) search
        by true is =
            let none = nil_from_length search.found (eqb-true (length search.found) 0 is) in
            comes_later accepted budget was_bound culprits [] search search none looked (comes_none accepted (budget - length culprits) search none)
        by false is = comes_here accepted budget was_bound culprits [] search is looked
