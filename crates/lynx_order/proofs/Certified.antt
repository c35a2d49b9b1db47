-- What is certified of the touches is right of the list.
use Rattle.std.proofs.Common.{◌≡◌, ◌≢◌, ℕ, suc, ◌+◌, ◌<◌, ◌≤◌, Bool, true, false, List, [], ◌∷◌, ◌++◌, map, length, Option, Some, None, inl, inr, ◌⊎◌, option_map, refl, sym, ap, ◌∙◌, subst, slice_get, cond, arith}
use Rattle.std.specs.Prelude.{All, IfOk, IfSome, Result, Ok, Err}
use Rattle.std.specs.List.{Contains, list_any}
use Rattle.std.specs.List.Sorted.{IsPermutation}
use Rattle.std.proofs.lemmas.Bool.{cases_lt}
use Rattle.std.proofs.lemmas.List.Elements.{Contains-get_or}
use Rattle.std.proofs.lemmas.List.Sorted.{Contains-permutation}
use Rattle.std.proofs.lemmas.Option.{get_or_from_slice_get, slice_get_within}
use Rattle.lynx_names.specs.declared.chain.ChainId.{ChainId}
use Rattle.lynx_names.specs.declared.memory.Memory.{Memory}
use Rattle.lynx_set.specs.Set.{Set}
use Rattle.lynx_foot.specs.declared.touch.Touch.{Touch}
use Rattle.lynx_foot.specs.Conflicts.{Conflicts}
use Rattle.lynx_foot.specs.Feet.{touches_of}
use Rattle.lynx_foot.specs.Tests.{collide, some_collide}
use Rattle.lynx_foot.proofs.Decides.{Decides-some_collide}
use Rattle.lynx_entry.specs.declared.entry.Entry.{Entry}
use Rattle.lynx_entry.specs.declared.entry.Entry.TheVariants.{Begun, Refused, Hop as HopRan}
use Rattle.lynx_rules.specs.Deliveries.{same_chain}
use Rattle.lynx_order.specs.declared.search.candidate.Link.{Link}
use Rattle.lynx_order.specs.declared.search.touched.ChainTouch.{ChainTouch}
use Rattle.lynx_world.specs.Placed.{Placed}
use Rattle.lynx_world.specs.Legal.{IsLegal}
use Rattle.lynx_world.proofs.Once.{same_name}
use Rattle.lynx_order.specs.declared.explained.Explained.{Explained}
use Rattle.lynx_order.specs.Explained.{IsOrder, OrderIsRight}
use Rattle.lynx_order.specs.Lists.{IsIn, AreDifferent}
use Rattle.lynx_order.specs.Precedence.{IsCycle, Precedes, PrecedesAround, touches_in}
use Rattle.lynx_order.specs.inner.Begun.{begun_chains}
use Rattle.lynx_order.specs.inner.Certificates.{AreNumbers, HasTouches, HoldsOrder, IsOrderHeld}
use Rattle.lynx_order.specs.inner.ChainsAt.{chain_at}
use Rattle.lynx_order.specs.inner.Links.{EachPrecedes, chain_of, touches_of_placed}
use Rattle.lynx_order.specs.inner.Listing.{chain_in, chain_touches}
use Rattle.lynx_order.proofs.Found.{any_in, in_place, place_of}
use Rattle.lynx_order.proofs.Judged.{different_chains, order_right}
use Rattle.lynx_order.proofs.Marks.{all_of_in}
use Rattle.lynx_order.proofs.Lists.{in-left, in-right}

-- ---- touches of chains

-- what touches in an entry is a hop of the entry's chain
pub own_chain : (set : Set) (chain : ChainId) (entry : Entry) (touch : Touch) → IsIn touch (touches_in set chain entry) → chain_in entry ≡ Some chain
own_chain set chain (Begun begun) touch there = when (touches_of set begun.request.program 0 begun.request.args) begun.chain (same_chain begun.chain chain) refl there
  where
    when : (touches : List Touch) (own : ChainId) (b : Bool) → same_chain own chain ≡ b → IsIn touch (cond b touches []) → Some own ≡ Some chain
    when touches own true same found = ap Some (same_name _ _ same)
    when touches own false same never = absurd never
own_chain set chain (Refused refused) touch never = absurd never
own_chain set chain (HopRan ran) touch there =
    when (touches_of set ran.message.program ran.message.hop ran.message.args) ran.message.chain (same_chain ran.message.chain chain) refl there
  where
    when : (touches : List Touch) (own : ChainId) (b : Bool) → same_chain own chain ≡ b → IsIn touch (cond b touches []) → Some own ≡ Some chain
    when touches own true same found = ap Some (same_name _ _ same)
    when touches own false same never = absurd never

pub in_touches : (chain place : ℕ) (touch : Touch) (touches : List Touch) → IsIn touch touches →
    IsIn (record { touch = touch; chain = chain; place = place }) (chain_touches chain place touches)
in_touches chain place touch [] never = absurd never
in_touches chain place touch (first ∷ touches) (inl same) = inl (ap (λ t. record { touch = t; chain = chain; place = place }) same)
in_touches chain place touch (first ∷ touches) (inr later) = inr (in_touches chain place touch touches later)

-- the touches of all entries below a place
abbrev pub HasBelow : Set → List Placed → List ChainId → ℕ → List ChainTouch → Type 0
HasBelow set list chains end touches =
    (place : ℕ) (placed : Placed) (chain : ChainId) (touch : Touch) → place < end → slice_get list place ≡ Some placed →
    IsIn touch (touches_in set chain placed.entry) →
    (number : ℕ) × (slice_get chains number ≡ Some chain) × IsIn (record { touch = touch; chain = number; place = place }) touches

-- a place below the next end is below this one, or is it
pub below_or : (place end : ℕ) → place < end + 1 → (place < end) ⊎ (place ≡ end)
below_or place end less = elim (cases_lt place end) [ inl below ↦ inl below | inr beyond ↦ inr (omega arith) ]

-- the entry of that place
entry_is : (list : List Placed) (end place : ℕ) (entry : Entry) (placed : Placed) → Some entry ≡ option_map (λ (p : Placed). p.entry) (slice_get list end) → place ≡ end →
    slice_get list place ≡ Some placed → placed.entry ≡ entry
entry_is list end place entry placed there same at =
    let found : Some entry ≡ Some placed.entry = there ∙ ap (λ i. option_map (λ (p : Placed). p.entry) (slice_get list i)) (sym same) ∙ ap (option_map (λ (p : Placed). p.entry)) at in
    cc

pub more_none : (set : Set) (list : List Placed) (chains : List ChainId) (end : ℕ) (touches : List ChainTouch) (entry : Entry) → HasBelow set list chains end touches →
    Some entry ≡ option_map (λ (p : Placed). p.entry) (slice_get list end) → chain_in entry ≡ None → HasBelow set list chains (end + 1) touches
more_none set list chains end touches entry old there none = λ place placed chain touch less at touched. elim (below_or place end less) [
  | inl below ↦ old place placed chain touch below at touched
  | inr same ↦ absurd (never (sym none ∙ ap chain_in (sym (entry_is list end place entry placed there same at)) ∙ own_chain set chain placed.entry touch touched))
]
  where
    never : {chain : ChainId} → None ≡ Some chain → ⊥
    never e = cc

pub more_own : (set : Set) (list : List Placed) (chains : List ChainId) (end number : ℕ) (touches : List ChainTouch) (entry : Entry) (own : ChainId) →
    HasBelow set list chains end touches → Some entry ≡ option_map (λ (p : Placed). p.entry) (slice_get list end) → chain_in entry ≡ Some own →
    slice_get chains number ≡ Some own → HasBelow set list chains (end + 1) (touches ++ chain_touches number end (touches_in set own entry))
more_own set list chains end number touches entry own old there is found = λ place placed chain touch less at touched. elim (below_or place end less) [
  | inl below ↦
      let before = old place placed chain touch below at touched in
      (before.0, before.1, in-left _ touches (chain_touches number end (touches_in set own entry)) before.2)
  | inr same ↦
      let one = entry_is list end place entry placed there same at in
      let alike : Some own ≡ Some chain = sym is ∙ ap chain_in (sym one) ∙ own_chain set chain placed.entry touch touched in
      let name : own ≡ chain = cc in
      let mine : IsIn touch (touches_in set own entry) = subst (λ e. IsIn touch (touches_in set own e)) one (subst (λ n. IsIn touch (touches_in set n placed.entry)) (sym name) touched) in (
        number,
        found ∙ alike,
        subst (λ p. IsIn (record { touch = touch; chain = number; place = p }) (touches ++ chain_touches number end (touches_in set own entry))) (sym same)
            (in-right _ touches (chain_touches number end (touches_in set own entry)) (in_touches number end touch (touches_in set own entry) mine)),
      )
]

pub has_all : (set : Set) (list : List Placed) (chains : List ChainId) (end : ℕ) (touches : List ChainTouch) → length list ≤ end → HasBelow set list chains end touches →
    HasTouches set list chains touches
has_all set list chains end touches whole old = λ place placed chain touch at touched.
    let inside = slice_get_within list place placed at in
    old place placed chain touch (omega arith) at touched

-- a list in another order has what it had
pub in_permuted : {X : Type 0} (x : X) (xs ys : List X) → IsPermutation xs ys → IsIn x xs → IsIn x ys
in_permuted x xs ys moved there =
    let at = place_of xs x x there in
    let found = Contains-permutation xs ys x moved (subst (Contains xs) at.2 (Contains-get_or xs at.0 x at.1)) in
    subst (λ y. IsIn y ys) found.2 (in_place ys found.0 x found.1)

-- the same touches in another order
pub has_permuted : (set : Set) (list : List Placed) (chains : List ChainId) (xs ys : List ChainTouch) → IsPermutation xs ys → HasTouches set list chains xs →
    HasTouches set list chains ys
has_permuted set list chains xs ys moved has = λ place placed chain touch at touched.
    let found = has place placed chain touch at touched in
    (found.0, found.1, in_permuted _ xs ys moved found.2)

-- ---- orders

-- two touches of hops that conflict
conflict_touches : (lefts rights : List Touch) → Conflicts lefts rights →
    (left : Touch) × (right : Touch) × IsIn left lefts × IsIn right rights × (collide left right ≡ true)
conflict_touches lefts rights conflict =
    let outer = any_in (λ left. list_any (λ right. collide left right) rights) lefts ((Decides-some_collide lefts rights).1 conflict) in
    let inner = any_in (λ right. collide outer.0 right) rights outer.2 in
    (outer.0, inner.0, outer.1, inner.1, inner.2)

certified_order : (set : Set) (list : List Placed) (touches : List ChainTouch) (order : List ℕ) → IsLegal set list →
    HasTouches set list (begun_chains list) touches → HoldsOrder (length (begun_chains list)) touches order →
    IsOrder set list (map (chain_at (begun_chains list)) order)
certified_order set list touches order legal has held =
    order_right set list order legal held.numbers.once held.numbers.within held.all (λ one other precedes.
    let met = conflict_touches _ _ precedes.conflict in
    let first = has precedes.place precedes.first one met.0 precedes.first_there met.2 in
    let second = has precedes.later precedes.second other met.1 precedes.second_there met.3 in
    let first_is = get_or_from_slice_get (begun_chains list) first.0 one (record { origin = 0; index = 0 }) first.1 in
    let second_is = get_or_from_slice_get (begun_chains list) second.0 other (record { origin = 0; index = 0 }) second.1 in (
      first.0,
      second.0,
      first_is,
      second_is,
      held.in_order (record { touch = met.0; chain = first.0; place = precedes.place }) (record { touch = met.1; chain = second.0; place = precedes.later })
          first.2 second.2 (slice_get_within (begun_chains list) first.0 one first.1) (slice_get_within (begun_chains list) second.0 other second.1)
          (λ same. precedes.different (sym first_is ∙ ap (chain_at (begun_chains list)) same ∙ second_is)) precedes.in_order met.4,
    ))

-- the order that is given, if one is
pub given_order : (set : Set) (list : List Placed) (chains : List ChainId) (touches : List ChainTouch) (order : List ℕ) (given : Result (Option Explained) Memory) → IsLegal set list →
    chains ≡ begun_chains list → HasTouches set list chains touches → IfOk given (λ found. IfSome found (IsOrderHeld chains touches order)) →
    IfOk given (λ found. IfSome found (OrderIsRight set list))
given_order set list chains touches order (Ok (Some explained)) legal begun has held =
    subst (OrderIsRight set list) (sym held.0)
    (subst (λ names. IsOrder set list (map (chain_at names) order)) (sym begun)
    (certified_order set list touches order legal (subst (λ names. HasTouches set list names touches) begun has)
    (subst (λ names. HoldsOrder (length names) touches order) begun held.1)))
given_order set list chains touches order (Ok None) legal begun has held = tt
given_order set list chains touches order (Err none) legal begun has held = tt

-- ---- cycles

-- the entries of two chains say that the one precedes the other
pub precedes_by : (set : Set) (list : List Placed) (one other : ChainId) (own next : ℕ) → one ≢ other → own < next →
    some_collide (touches_of_placed set one (slice_get list own)) (touches_of_placed set other (slice_get list next)) ≡ true → Precedes set list one other
precedes_by set list one other own next differ less collides = by (slice_get list own) (slice_get list next) refl refl collides
  where
    none : (lefts : List Touch) → some_collide lefts [] ≡ true → ⊥
    none lefts test = let found = any_in (λ left. list_any (λ right. collide left right) []) lefts test in never found.2
      where
        never : false ≡ true → ⊥
        never e = cc

    by : (first second : Option Placed) → slice_get list own ≡ first → slice_get list next ≡ second →
        some_collide (touches_of_placed set one first) (touches_of_placed set other second) ≡ true → Precedes set list one other
    by None second there too test = cc
    by (Some first) None there too test = absurd (none (touches_in set one first.entry) test)
    by (Some first) (Some second) there too test = record {
      different = differ;
      place = own;
      later = next;
      in_order = less;
      first = first;
      second = second;
      first_there = there;
      second_there = too;
      conflict = (Decides-some_collide (touches_in set one first.entry) (touches_in set other second.entry)).0 test;
    }

links_around : (set : Set) (list : List Placed) (chains : List ChainId) (first link : Link) (rest : List Link) → EachPrecedes set list chains first (link ∷ rest) →
    PrecedesAround set list (chain_of chains first) (chain_of chains link) (map (chain_of chains) rest)
links_around set list chains first link [] each = each 0 link refl
links_around set list chains first link (next ∷ rest) each =
    (each 0 link refl, links_around set list chains first next rest (λ place one there. each (suc place) one there))

names_of : (chains : List ChainId) (links : List Link) → map (chain_of chains) links ≡ map (chain_at chains) (map (λ (link : Link). link.chain) links)
names_of chains [] = refl
names_of chains (link ∷ links) = ap (λ names. chain_of chains link ∷ names) (names_of chains links)

cycle_of : (set : Set) (list : List Placed) (chains : List ChainId) (first : Link) (rest : List Link) →
    AreDifferent (map (chain_of chains) (first ∷ rest)) → EachPrecedes set list chains first (first ∷ rest) →
    IsCycle set list (map (chain_of chains) (first ∷ rest))
cycle_of set list chains first [] different each = absurd ((each 0 first refl).different refl)
cycle_of set list chains first (next ∷ rest) different each = (different, links_around set list chains first first (next ∷ rest) each)

pub certified_cycle : (set : Set) (list : List Placed) (chains : List ChainId) (first : Link) (rest links : List Link) (numbers : List ℕ) → AreDifferent chains →
    numbers ≡ map (λ (link : Link). link.chain) links → links ≡ first ∷ rest → AreNumbers (length chains) numbers → EachPrecedes set list chains first links →
    IsCycle set list (map (chain_at chains) numbers)
certified_cycle set list chains first rest links numbers once whole parts different each =
    let names : map (chain_at chains) numbers ≡ map (chain_of chains) (first ∷ rest) =
    ap (map (chain_at chains)) whole ∙ sym (names_of chains links) ∙ ap (map (chain_of chains)) parts in
    subst (IsCycle set list) (sym names)
    (cycle_of set list chains first rest (subst AreDifferent names (different_chains chains numbers once different.within different.once))
    (subst (EachPrecedes set list chains first) parts each))

-- ---- numbers

pub numbers_among : (count : ℕ) (numbers : List ℕ) → AreNumbers count numbers → All (λ number. number < count) numbers
numbers_among count numbers are = all_of_in (λ number. number < count) numbers are.within
