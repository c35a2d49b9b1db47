-- What sessions were told, and what they were told then.
use Rattle.std.proofs.Common.{◌≡◌, ◌∙◌, ℕ, zero, suc, ◌+◌, ◌<◌, ◌≤◌, Bool, true, false, length, take, replicate, List, [], ◌∷◌, ◌++◌, slice_get, Some, count_by, fold, max, length-append, inl, inr, ◌⊎◌, refl, sym, ap, subst, arith}
use Rattle.std.proofs.lemmas.Bool.{cases_lt}
use Rattle.std.proofs.lemmas.Bool.Decides.{eqb_tells}
use Rattle.std.proofs.lemmas.List.{append-nil, take-append-le}
use Rattle.std.proofs.lemmas.Option.{slice_get_within}
use Rattle.lynx_server.proofs.Chains.{get_before, get_last}
use Rattle.lynx_world.proofs.Members.{IsIn, in-append}
use Rattle.lynx_order.proofs.Lists.{in-either, in-right}
use Rattle.lynx_weave.specs.declared.told.ToldItem.{ToldItem}
use Rattle.lynx_weave.specs.Told.{greatest_told, is_fresh, stamp_told}
use Rattle.lynx_weave.specs.Weaving.{IsInTime, all_told}
use Rattle.lynx_weave.proofs.Gets.{take_whole}
use Rattle.lynx_weave.proofs.Marking.{count_joined}
use Rattle.lynx_promises.specs.Stops.{told_to, with_told}

-- ---- what was told, and what is told now

-- what one session was told is of what all were
pub told_in : (told : List (List ToldItem)) (session : ℕ) (item : ToldItem) → IsIn item (told_to told session) → IsIn item (all_told told)
told_in [] session item never = absurd never
told_in (first ∷ told) zero item there = in-append item first (all_told told) there
told_in (first ∷ told) (suc session) item there = in-right item first (all_told told) (told_in told session item there)

-- what all are told then
pub all_with : (told : List (List ToldItem)) (session : ℕ) (items : List ToldItem) (item : ToldItem) → IsIn item (all_told (with_told told session items)) →
    IsIn item (all_told told) ⊎ IsIn item items
all_with [] session items item never = absurd never
all_with (first ∷ told) zero items item there = elim (in-either item (first ++ items) (all_told told) there) [
  | inl here ↦ elim (in-either item first items here) [ inl old ↦ inl (in-append item first (all_told told) old) | inr new ↦ inr new ]
  | inr later ↦ inl (in-right item first (all_told told) later)
]
all_with (first ∷ told) (suc session) items item there = elim (in-either item first (all_told (with_told told session items)) there) [
  | inl here ↦ inl (in-append item first (all_told told) here)
  | inr later ↦ elim (all_with told session items item later) [ inl old ↦ inl (in-right item first (all_told told) old) | inr new ↦ inr new ]
]

-- what one session is told then: what it was told, or if it is the one, this behind it
pub to_with : (P : List ToldItem → Type 0) (told : List (List ToldItem)) (session other : ℕ) (items : List ToldItem) → P (told_to told other) →
    P (told_to told session ++ items) → P (told_to (with_told told session items) other)
to_with P [] session other items was now = was
to_with P (first ∷ told) zero zero items was now = now
to_with P (first ∷ told) zero (suc other) items was now = was
to_with P (first ∷ told) (suc session) zero items was now = was
to_with P (first ∷ told) (suc session) (suc other) items was now = to_with P told session other items was now

-- as many more pass as pass of what is told
pub count_with : (test : ToldItem → Bool) (told : List (List ToldItem)) (session : ℕ) (items : List ToldItem) →
    count_by test (all_told (with_told told session items)) ≤ count_by test (all_told told) + count_by test items
count_with test [] session items = omega arith
count_with test (first ∷ told) zero items =
    let now = count_joined test (first ++ items) (all_told told) in
    let here = count_joined test first items in
    let was = count_joined test first (all_told told) in omega arith
count_with test (first ∷ told) (suc session) items =
    let now = count_joined test first (all_told (with_told told session items)) in
    let was = count_joined test first (all_told told) in
    let rest = count_with test told session items in omega arith

-- none passes
pub count_none : (test : ToldItem → Bool) (items : List ToldItem) → ((item : ToldItem) → IsIn item items → test item ≡ false) → count_by test items ≡ 0
count_none test [] each = refl
count_none test (item ∷ items) each =
    let rest = count_none test items (λ other there. each other (inr there)) in
    let here = each item (inl refl) in rw here rest

-- no session was told anything
pub none_told : (sessions : ℕ) → all_told (replicate sessions []) ≡ []
none_told zero = refl
none_told (suc sessions) = none_told sessions

pub told_none : (P : List ToldItem → Type 0) (sessions session : ℕ) → P [] → P (told_to (replicate sessions []) session)
told_none P zero session none = none
told_none P (suc sessions) zero none = none
told_none P (suc sessions) (suc session) none = told_none P sessions session none

-- ---- in time

pub in_time_none : IsInTime []
in_time_none place item is fresh = cc

-- an item that is told in time
in_time_one : (items : List ToldItem) (item : ToldItem) → IsInTime items → (is_fresh item ≡ true → greatest_told items < stamp_told item) → IsInTime (items ++ item ∷ [])
in_time_one items item was late place found is fresh = elim (cases_lt place (length items)) [
  | inl before ↦
      subst (λ l. greatest_told l < stamp_told found) (sym (take-append-le place items (item ∷ []) (omega arith)))
      (was place found (sym (get_before items item place before) ∙ is) fresh)
  | inr behind ↦ elim (eqb_tells place (length items)) [
    | inl same ↦
        let here : Some item ≡ Some found = sym (get_last items item) ∙ sym (ap (slice_get (items ++ item ∷ [])) same.1) ∙ is in
        let alike : item ≡ found = cc in
        let front : take place (items ++ item ∷ []) ≡ items = take-append-le place items (item ∷ []) (omega (arith, same.1)) ∙ take_whole items place (omega (arith, same.1)) in
        subst (λ f. greatest_told (take place (items ++ item ∷ [])) < stamp_told f) alike
        (subst (λ l. greatest_told l < stamp_told item) (sym front) (late (ap is_fresh alike ∙ fresh)))
    | inr differs ↦
        let within = slice_get_within (items ++ item ∷ []) place found is in
        let whole = length-append items (item ∷ []) in
        let apart = differs.1 in absurd (omega arith)
  ]
]

-- one item at most that is told in time
pub in_time_with : (items more : List ToldItem) → IsInTime items → length more ≤ 1 → ((item : ToldItem) → IsIn item more → is_fresh item ≡ true → greatest_told items < stamp_told item) →
    IsInTime (items ++ more)
in_time_with items [] was few late = subst IsInTime (sym (append-nil items)) was
in_time_with items (item ∷ []) was few late = in_time_one items item was (late item (inl refl))
in_time_with items (item ∷ other ∷ more) was few late = absurd (omega arith)

-- ---- the greatest stamp

-- it is where it began, or one of the items tells it
greatest_from : (items : List ToldItem) (start : ℕ) → (fold (λ greatest item. max greatest (stamp_told item)) start items ≡ start)
    ⊎ ((item : ToldItem) × IsIn item items × (stamp_told item ≡ fold (λ greatest item. max greatest (stamp_told item)) start items))
greatest_from [] start = inl refl
greatest_from (item ∷ items) start = elim (greatest_from items (max start (stamp_told item))) [
  | inl same ↦ elim (cases_lt start (stamp_told item)) [
    | inl below ↦ inr (item, inl refl, omega (arith, same))
    | inr above ↦ inl (omega (arith, same))
  ]
  | inr found ↦ inr (found.0, inr found.1, found.2)
]

pub greatest_is : (items : List ToldItem) → (greatest_told items ≡ 0) ⊎ ((item : ToldItem) × IsIn item items × (stamp_told item ≡ greatest_told items))
greatest_is items = greatest_from items 0
