-- The hops that are left of the chains are those that are owed.
use Rattle.std.proofs.Common.{◌≡◌, ℕ, zero, suc, ◌+◌, ◌-◌, ◌<◌, ◌≤◌, List, [], ◌∷◌, ◌++◌, length, map, slice_get, option_map, Option, Some, None, Result, Ok, Err, inl, inr, append_assoc, refl, sym, ap, ◌∙◌, subst, arith, Less, Equal}
use Rattle.std.specs.Prelude.{IfOk}
use Rattle.std.specs.BTreeMap.{BTreeMap, IsOrdered, get, is_at}
use Rattle.std.specs.Cmp.{IsTotalOrder, nat_cmp_is}
use Rattle.std.specs.List.{AllByRecursion, flat_map, range_with_len}
use Rattle.std.specs.List.Sorted.{IsStrictlySortedBy}
use Rattle.std.specs.Map.{keys_of}
use Rattle.std.specs.Ordering.{nat_cmp, ordering_then}
use Rattle.std.specs.declared.cmp.Ordering.{Ordering}
use Rattle.std.proofs.lemmas.Bool.{cases_lt}
use Rattle.std.proofs.lemmas.Cmp.{nat_cmp_total, on_total, then_total}
use Rattle.std.proofs.lemmas.List.{map_push}
use Rattle.std.proofs.lemmas.Map.Entries.{btree_map_get_place, place_from_lookup}
use Rattle.lynx_names.specs.declared.chain.ChainId.{ChainId}
use Rattle.lynx_names.proofs.Ranges.{range_more}
use Rattle.lynx_set.specs.Lookups.{hops_of}
use Rattle.lynx_set.specs.Set.{Set}
use Rattle.lynx_entry.specs.declared.request.Request.{Request}
use Rattle.lynx_world.specs.Legal.{IsLegal}
use Rattle.lynx_world.specs.Order.{done_hops}
use Rattle.lynx_world.specs.Placed.{Placed}
use Rattle.lynx_world.proofs.Once.{once_and_in_order, same_name}
use Rattle.lynx_order.specs.Explanations.{request_of}
use Rattle.lynx_order.specs.Lists.{IsIn}
use Rattle.lynx_order.proofs.Certificates.{at_place}
use Rattle.lynx_order.proofs.Lists.{in-either, in-left, in-right}
use Rattle.lynx_report.specs.Owed.{AreTheOwed, IsOwed, chain_cmp, owed_cmp}
use Rattle.lynx_report.specs.declared.owed.OwedHop.{OwedHop}
use Rattle.lynx_report.specs.declared.reached.Reached.{Reached}
use Rattle.lynx_report.specs.inner.Reached.{left_of, reached_of}
use Rattle.lynx_report.proofs.Lasts.{tied_chains}
use Rattle.lynx_report.proofs.Reaching.{reached_of-legal, reached_with}

-- ---- what is in lists

in_mapped : {X Y : Type 0} (f : X → Y) (xs : List X) (y : Y) → IsIn y (map f xs) → (x : X) × IsIn x xs × (f x ≡ y)
in_mapped f [] y never = absurd never
in_mapped f (x ∷ xs) y (inl same) = (x, inl refl, same)
in_mapped f (x ∷ xs) y (inr later) = let rest = in_mapped f xs y later in (rest.0, inr rest.1, rest.2)

mapped_in : {X Y : Type 0} (f : X → Y) (xs : List X) (x : X) → IsIn x xs → IsIn (f x) (map f xs)
mapped_in f [] x never = absurd never
mapped_in f (y ∷ xs) x (inl same) = inl (ap f same)
mapped_in f (y ∷ xs) x (inr later) = inr (mapped_in f xs x later)

in_flat : {X Y : Type 0} (f : X → List Y) (xs : List X) (y : Y) → IsIn y (flat_map f xs) → (x : X) × IsIn x xs × IsIn y (f x)
in_flat f [] y never = absurd never
in_flat f (x ∷ xs) y there = elim (in-either y (f x) (flat_map f xs) there) [
  | inl here ↦ (x, inl refl, here)
  | inr later ↦ let rest = in_flat f xs y later in (rest.0, inr rest.1, rest.2)
]

flat_in : {X Y : Type 0} (f : X → List Y) (xs : List X) (x : X) (y : Y) → IsIn x xs → IsIn y (f x) → IsIn y (flat_map f xs)
flat_in f [] x y never here = absurd never
flat_in f (z ∷ xs) x y (inl same) here = in-left y (f z) (flat_map f xs) (subst (λ w. IsIn y (f w)) (sym same) here)
flat_in f (z ∷ xs) x y (inr later) here = in-right y (f z) (flat_map f xs) (flat_in f xs x y later here)

in_at : {X : Type 0} (xs : List X) (i : ℕ) (x : X) → slice_get xs i ≡ Some x → IsIn x xs
in_at [] i x is = cc
in_at (y ∷ xs) zero x is = inl (cc)
in_at (y ∷ xs) (suc i) x is = inr (in_at xs i x is)

in_range : (from n k : ℕ) → from ≤ k → k < from + n → IsIn k (range_with_len from n)
in_range from zero k low high = absurd (omega arith)
in_range from (suc n) k low high = elim (cases_lt from k) [
  | inl above ↦ inr (in_range (from + 1) n k (omega arith) (omega arith))
  | inr not ↦ inl (omega arith)
]

range_bounds : (from n k : ℕ) → IsIn k (range_with_len from n) → (from ≤ k) × (k < from + n)
range_bounds from zero k never = absurd never
range_bounds from (suc n) k (inl same) = (omega arith, omega arith)
range_bounds from (suc n) k (inr later) = let rest = range_bounds (from + 1) n k later in (omega arith, omega arith)

-- ---- what a map has

pub chain_cmp_total : IsTotalOrder chain_cmp
chain_cmp_total = then_total (on_total (λ (c : ChainId). c.origin) nat_cmp_total) (on_total (λ (c : ChainId). c.index) nat_cmp_total)

found_of_entry : (m : BTreeMap ChainId Reached) (entry : ChainId × Reached) → IsOrdered chain_cmp m → IsIn entry m.entries →
    get chain_cmp m entry.0 ≡ Some entry.1
found_of_entry m entry ordered there =
    let at = at_place entry m.entries there in btree_map_get_place chain_cmp_total m at.0 entry.0 entry.1 ordered at.1

entry_of_found : (m : BTreeMap ChainId Reached) (chain : ChainId) (far : Reached) → get chain_cmp m chain ≡ Some far → IsIn (chain, far) m.entries
entry_of_found m chain far found =
    let at = place_from_lookup (is_at (chain_cmp chain)) m.entries far found in
    let same : chain ≡ at.1 = same_name chain at.1 (sym (tied_chains chain at.1) ∙ at.3) in
    subst (λ (c : ChainId). IsIn (c, far) m.entries) (sym same) (in_at m.entries at.0 (at.1, far) at.2)

-- ---- the hops that are left

abbrev owed_as : ChainId → ℕ → OwedHop
owed_as chain hop = record { chain = chain; hop = hop }

-- what a hop that is left of a chain is
record IsLeft (set : Set) (reached : ChainId × Reached) (owed : OwedHop) : Type 0 where
  own : reached.0 ≡ owed.chain
  low : reached.1.next ≤ owed.hop
  high : owed.hop < length (hops_of set reached.1.program)

is_left : (set : Set) (reached : ChainId × Reached) (owed : OwedHop) → IsIn owed (left_of set reached) → IsLeft set reached owed
is_left set reached owed there =
    let next = reached.1.next in
    let count = length (hops_of set reached.1.program) in
    let made = in_mapped (owed_as reached.0) (range_with_len next (count - next)) owed there in
    let bounds = range_bounds next (count - next) made.0 made.1 in
    let hop : made.0 ≡ owed.hop = ap (λ (o : OwedHop). o.hop) made.2 in
    record { own = ap (λ (o : OwedHop). o.chain) made.2; low = omega arith; high = omega arith }

left_in : (set : Set) (reached : ChainId × Reached) (owed : OwedHop) → IsLeft set reached owed → IsIn owed (left_of set reached)
left_in set reached owed left =
    let next = reached.1.next in
    let count = length (hops_of set reached.1.program) in
    let low = left.low in
    let high = left.high in
    let there = mapped_in (owed_as reached.0) (range_with_len next (count - next)) owed.hop
    (in_range next (count - next) owed.hop low (omega arith)) in
    subst (λ (c : ChainId). IsIn (owed_as c owed.hop) (left_of set reached)) left.own there

-- what is known of the map of how far chains have come
pub record IsReached (list : List Placed) (m : BTreeMap ChainId Reached) : Type 0 where
  pub ordered : IsOrdered chain_cmp m
  pub found : (chain : ChainId) → get chain_cmp m chain ≡ reached_of list chain

owed_of_left : (set : Set) (list : List Placed) (m : BTreeMap ChainId Reached) (owed : OwedHop) → IsLegal set list → IsReached list m →
    IsIn owed (flat_map (left_of set) m.entries) → IsOwed set list owed
owed_of_left set list m owed legal reached there =
    let from = in_flat (left_of set) m.entries owed there in
    let left = is_left set from.0 owed from.2 in
    by (request_of list owed.chain) refl from.0.1 left.low left.high
    (sym (ap (λ (c : ChainId). get chain_cmp m c) (sym left.own) ∙ found_of_entry m from.0 reached.ordered from.1)
    ∙ reached.found owed.chain ∙ reached_of-legal set list owed.chain legal)
  where
    not_among : length (done_hops owed.chain list) ≤ owed.hop → ¬ IsIn owed.hop (done_hops owed.chain list)
    not_among high among =
        let bounds = range_bounds 0 (length (done_hops owed.chain list)) owed.hop (subst (IsIn owed.hop) (once_and_in_order set list legal owed.chain) among) in
        omega arith

    by : (o : Option Request) → request_of list owed.chain ≡ o → (far : Reached) → far.next ≤ owed.hop → owed.hop < length (hops_of set far.program) →
        Some far ≡ option_map (reached_with list owed.chain) o → IsOwed set list owed
    by None is far low high same = cc
    by (Some request) is far low high same =
        let one : far ≡ reached_with list owed.chain request = cc in
        record {
          request = request;
          begun = is;
          of_program = subst (λ (r : Reached). owed.hop < length (hops_of set r.program)) one high;
          not_done = not_among (subst (λ (r : Reached). r.next ≤ owed.hop) one low);
        }

left_of_owed : (set : Set) (list : List Placed) (m : BTreeMap ChainId Reached) (owed : OwedHop) → IsLegal set list → IsReached list m →
    IsOwed set list owed → IsIn owed (flat_map (left_of set) m.entries)
left_of_owed set list m owed legal reached is =
    let far = reached_with list owed.chain is.request in
    let found : get chain_cmp m owed.chain ≡ Some far =
    reached.found owed.chain ∙ reached_of-legal set list owed.chain legal ∙ ap (option_map (reached_with list owed.chain)) is.begun in
    flat_in (left_of set) m.entries (owed.chain, far) owed (entry_of_found m owed.chain far found)
    (left_in set (owed.chain, far) owed (record { own = refl; low = not_below; high = is.of_program }))
  where
    n : ℕ
    n = length (done_hops owed.chain list)

    not_below : n ≤ owed.hop
    not_below = elim (cases_lt owed.hop n) [
      | inl below ↦ absurd (is.not_done (subst (IsIn owed.hop) (sym (once_and_in_order set list legal owed.chain)) (in_range 0 n owed.hop (omega arith) (omega arith))))
      | inr not ↦ not
    ]

-- ---- the hops of one chain, one after another

-- one more hop is added
pub left_added : (items more old : List OwedHop) (chain : ChainId) (from hop : ℕ) → from ≤ hop →
    items ≡ old ++ map (owed_as chain) (range_with_len from (hop - from)) → more ≡ items ++ owed_as chain hop ∷ [] →
    more ≡ old ++ map (owed_as chain) (range_with_len from (hop + 1 - from))
left_added items more old chain from hop low so_far added =
    let one_more : hop + 1 - from ≡ suc (hop - from) = omega arith in
    let last : from + (hop - from) ≡ hop = omega arith in
    let longer : range_with_len from (hop + 1 - from) ≡ range_with_len from (hop - from) ++ hop ∷ [] =
    ap (range_with_len from) one_more ∙ range_more from (hop - from) ∙ ap (λ n. range_with_len from (hop - from) ++ n ∷ []) last in
    added ∙ ap (λ xs. xs ++ owed_as chain hop ∷ []) so_far ∙ append_assoc old (map (owed_as chain) (range_with_len from (hop - from))) (owed_as chain hop ∷ [])
    ∙ ap (λ xs. old ++ xs) (sym (ap (map (owed_as chain)) longer ∙ map_push (owed_as chain) (range_with_len from (hop - from)) hop))

-- all hops up to the end are added
pub left_to_end : (items old : List OwedHop) (chain : ChainId) (from hop end count : ℕ) → end ≡ count → end ≤ hop → (from ≤ end → hop ≤ end) →
    (end < from → hop ≡ from) → items ≡ old ++ map (owed_as chain) (range_with_len from (hop - from)) →
    items ≡ old ++ map (owed_as chain) (range_with_len from (count - from))
left_to_end items old chain from hop end count same all within at_once added =
    let left : hop - from ≡ count - from = elim (cases_lt end from) [
      | inl over ↦ let stays = at_once over in omega arith
      | inr not ↦ let stops = within not in omega arith
    ] in
    added ∙ ap (λ n. old ++ map (owed_as chain) (range_with_len from n)) left

-- ---- in order

all_in : {X : Type 0} (P : X → Type 0) (xs : List X) → ((x : X) → IsIn x xs → P x) → AllByRecursion P xs
all_in P [] each = tt
all_in P (x ∷ xs) each = (each x (inl refl), all_in P xs (λ y there. each y (inr there)))

in_all : {X : Type 0} (P : X → Type 0) (xs : List X) (x : X) → AllByRecursion P xs → IsIn x xs → P x
in_all P [] x all never = absurd never
in_all P (y ∷ xs) x all (inl same) = subst P same all.0
in_all P (y ∷ xs) x all (inr later) = in_all P xs x all.1 later

sorted-append : {K : Type 0} (cmp : K → K → Ordering) (xs ys : List K) → IsStrictlySortedBy cmp xs → IsStrictlySortedBy cmp ys →
    ((x y : K) → IsIn x xs → IsIn y ys → cmp x y ≡ Less) → IsStrictlySortedBy cmp (xs ++ ys)
unfolding IsStrictlySortedBy
sorted-append cmp [] ys one two across = two
sorted-append {K} cmp (x ∷ xs) ys one two across = (
  all_in (λ y. cmp x y ≡ Less) (xs ++ ys) (λ y there. elim (in-either y xs ys there) [
    | inl left ↦ in_all (λ z. cmp x z ≡ Less) xs y one.0 left
    | inr right ↦ across x y (inl refl) right
  ]),
  sorted-append cmp xs ys one.1 two (λ z y there. across z y (inr there)),
)

own_tie : (chain : ChainId) → chain_cmp chain chain ≡ Equal
own_tie chain =
    ap (λ r. ordering_then r (nat_cmp chain.index chain.index)) (sym (nat_cmp_is chain.origin chain.origin Equal refl))
    ∙ sym (nat_cmp_is chain.index chain.index Equal refl)

left_sorted : (chain : ChainId) (from n : ℕ) → IsStrictlySortedBy owed_cmp (map (owed_as chain) (range_with_len from n))
unfolding IsStrictlySortedBy
left_sorted chain from zero = tt
left_sorted chain from (suc n) = (
  all_in (λ y. owed_cmp (owed_as chain from) y ≡ Less) (map (owed_as chain) (range_with_len (from + 1) n)) (λ y there.
      let made = in_mapped (owed_as chain) (range_with_len (from + 1) n) y there in
      let bounds = range_bounds (from + 1) n made.0 made.1 in
      let below : from < made.0 = omega arith in
      subst (λ z. owed_cmp (owed_as chain from) z ≡ Less) made.2
      (ap (λ r. ordering_then r (nat_cmp from made.0)) (own_tie chain) ∙ sym (nat_cmp_is from made.0 Less below))),
  left_sorted chain (from + 1) n,
)

sorted_left : (set : Set) (es : List (ChainId × Reached)) → IsStrictlySortedBy chain_cmp (keys_of es) → IsStrictlySortedBy owed_cmp (flat_map (left_of set) es)
unfolding IsStrictlySortedBy
sorted_left set [] sorted = tt
sorted_left set (e ∷ es) sorted =
    sorted-append owed_cmp (left_of set e) (flat_map (left_of set) es)
    (left_sorted e.0 e.1.next (length (hops_of set e.1.program) - e.1.next))
    (sorted_left set es sorted.1)
    (λ x y one two.
    let own = is_left set e x one in
    let from = in_flat (left_of set) es y two in
    let other = is_left set from.0 y from.2 in
    let less : chain_cmp e.0 from.0.0 ≡ Less =
    in_all (λ k. chain_cmp e.0 k ≡ Less) (keys_of es) from.0.0 sorted.0 (mapped_in (λ (f : ChainId × Reached). f.0) es from.0 from.1) in
    ap (λ r. ordering_then r (nat_cmp x.hop y.hop)) (ap (λ c. chain_cmp c y.chain) (sym own.own) ∙ ap (chain_cmp e.0) (sym other.own) ∙ less))

-- ---- both

pub left_is_owed : (set : Set) (list : List Placed) (m : BTreeMap ChainId Reached) → IsLegal set list → IsReached list m →
    AreTheOwed set list (flat_map (left_of set) m.entries)
left_is_owed set list m legal reached = record {
  each = λ owed. (owed_of_left set list m owed legal reached, left_of_owed set list m owed legal reached);
  in_order = sorted_left set m.entries reached.ordered;
}

-- what is listed where memory was not wanting
pub owed_where_listed : {V E : Type 0} (items : V → List OwedHop) (set of : Set) (list : List Placed) (m : BTreeMap ChainId Reached) (r : Result V E) →
    of ≡ set → IsLegal set list → ((chain : ChainId) → get chain_cmp m chain ≡ reached_of list chain) → IfOk r (λ owed. IsOrdered chain_cmp m) →
    IfOk r (λ owed. items owed ≡ flat_map (left_of of) m.entries) → IfOk r (λ owed. AreTheOwed set list (items owed))
owed_where_listed items set of list m (Err fault) same legal found ordered listed = tt
owed_where_listed items set of list m (Ok owed) same legal found ordered listed =
    subst (AreTheOwed set list) (sym (listed ∙ ap (λ (s : Set). flat_map (left_of s) m.entries) same))
    (left_is_owed set list m legal (record { ordered = ordered; found = found }))
