use Rattle.std.specs.Prelude.{◌↔◌, IsTrue}
use Rattle.std.proofs.Common.{◌≡◌, ℕ, ◌+◌, ◌<◌, ◌∙◌, List, [], length, get_or, slice_get, None, Some, refl, sym, ap, subst, arith}
use Rattle.std.proofs.lemmas.Option.{slice_get-get_or, slice_get_within}
use Rattle.lynx_names.specs.declared.limits.TheConstants.{MAX_ENTRIES}
use Rattle.lynx_set.specs.Set.{Set}
use Rattle.lynx_keep.specs.Kept.{KeptState}
use Rattle.lynx_server.specs.Serving.{Serving}
use Rattle.lynx_world.specs.Placed.{Placed}
use Rattle.lynx_world.specs.Servers.{Servers}
use Rattle.lynx_weave.specs.inner.Orders.{IsLeastNext, IsNextAt}
use Rattle.lynx_weave.specs.inner.Rebuilt.{AreRebuilt}
use Rattle.lynx_weave.specs.Servers.{histories_of}
use Rattle.lynx_weave.proofs.Ordered.{least_within, place_few, zeros_are}
use Rattle.lynx_weave.proofs.Servings.{many_of}
use Rattle.lynx_weave.specs.Cuts.{fronts}
use Rattle.lynx_weave.specs.inner.Taken.{MayTake}
use Rattle.lynx_weave.proofs.Taking.{IsCutTo, IsHere, cut_end, cut_start, ends_on, entry_read, here_is, nearer_by, takes_on}
use Rattle.lynx_weave.proofs.cutting.cut_servers.Goals as goal

-- the server whose entry comes next, and its place, are there
bounds_of : (servers : Servers) (number : ℕ) (slice places : List ℕ) → slice ≡ places → IsLeastNext (histories_of servers) slice number →
    (number < length servers) × (number < length places)
bounds_of servers number slice places same least =
    least_within servers places number (subst (λ p. IsLeastNext (histories_of servers) p number) same least)

few_at : (set : Set) (servers : Servers) (number place : ℕ) (slice places : List ℕ) → slice ≡ places → IsLeastNext (histories_of servers) slice number →
    AreRebuilt set servers → place ≡ get_or places number place → place < MAX_ENTRIES
few_at set servers number place slice places same least are place_is =
    place_few set servers places number place (subst (λ p. IsLeastNext (histories_of servers) p number) same least) are place_is

-- the entry that comes next, at its server
here_at : (set : Set) (servers : Servers) (slice places counts : List ℕ) (list : List Placed) (number place : ℕ) (here : Serving KeptState) →
    AreRebuilt set servers → IsCutTo set (histories_of servers) places counts list → slice ≡ places → IsLeastNext (histories_of servers) slice number →
    place ≡ get_or places number place → here ≡ get_or servers number here → IsHere set servers places counts list number place here
here_at set servers slice places counts list number place here are going same least place_is is =
    let next = subst (λ p. IsLeastNext (histories_of servers) p number) same least in
    here_is set servers places counts list number place here are going next place_is
    (slice_get-get_or servers number here (least_within servers places number next).0 ∙ ap Some (sym is))

pub offset_bounds-servers-number : goal.offset_bounds-servers-number
offset_bounds-servers-number c =
    let within = bounds_of c.args.servers.now _ _ _ c.as_slice.ensures.value c.in-Some.ensures in
    let inside = within.0 in
    let few = c.servers.ensures.few in
    let value = c.servers.ensures.value in
    let many = c.requires.many in
    omega (arith, inside, few, value, many)

pub bounds-servers-number : goal.bounds-servers-number
bounds-servers-number c =
    let within = bounds_of c.args.servers.now _ _ _ c.as_slice.ensures.value c.in-Some.ensures in
    within.0

pub index-place-requires : goal.index-place-requires
index-place-requires c =
    let within = bounds_of c.args.servers.now _ _ _ c.as_slice.ensures.value c.in-Some.ensures in
    let inside = within.1 in
    let long : length c.loop-number.places.items ≡ length c.as_slice.result.now = ap length (sym c.as_slice.ensures.value) in
    let len = c.as_slice.ensures.len in
    omega (arith, inside, long, len)

pub offset_bounds-history-place : goal.offset_bounds-history-place
offset_bounds-history-place c =
    let few = few_at c.args.set.now c.args.servers.now _ _ _ _ c.as_slice.ensures.value c.in-Some.ensures c.requires c.index-place.ensures in
    omega (arith, few)

pub bounds-history-place : goal.bounds-history-place
bounds-history-place c =
    let here = here_at c.args.set.now c.args.servers.now _ _ _ _ _ _ _ c.requires c.loop-number.invariant.1 c.as_slice.ensures.value c.in-Some.ensures c.index-place.ensures
    c.index-servers-number.is in
    let inside = slice_get_within c.index-servers-number.result.history c.index-place.result.now here.step.least.entry here.entry_is in
    let long : length c.history-history.result.now ≡ length c.index-servers-number.result.history = ap length c.history-history.ensures.value in
    omega (arith, inside, long)

pub overflow_add-place : goal.overflow_add-place
overflow_add-place c =
    let few = few_at c.args.set.now c.args.servers.now _ _ _ _ c.as_slice.ensures.value c.in-Some.ensures c.requires c.index-place.ensures in
    omega (arith, few)

pub overflow_add-place-then-branch : goal.overflow_add-place-then-branch
overflow_add-place-then-branch c =
    let few = few_at c.args.set.now c.args.servers.now _ _ _ _ c.as_slice.ensures.value c.in-Some.ensures c.requires c.index-place.ensures in
    omega (arith, few)

pub index_mut-requires : goal.index_mut-requires
index_mut-requires c =
    let within = bounds_of c.args.servers.now _ _ _ c.as_slice.ensures.value c.in-Some.ensures in
    let inside = within.1 in
    let long : length c.loop-number.places.items ≡ length c.as_slice.result.now = ap length (sym c.as_slice.ensures.value) in
    let len = c.as_slice.ensures.len in
    omega (arith, inside, long, len)

pub index_mut-requires-else-branch : goal.index_mut-requires-else-branch
index_mut-requires-else-branch c =
    let within = bounds_of c.args.servers.now _ _ _ c.as_slice.ensures.value c.in-Some.ensures in
    let inside = within.1 in
    let long : length c.loop-number.places.items ≡ length c.as_slice.result.now = ap length (sym c.as_slice.ensures.value) in
    let len = c.as_slice.ensures.len in
    omega (arith, inside, long, len)

pub index_mut-requires-then-branch : goal.index_mut-requires-then-branch
index_mut-requires-then-branch c =
    let within = bounds_of c.args.servers.now _ _ _ c.as_slice.ensures.value c.in-Some.ensures in
    let inside = within.0 in
    let histories = many_of c.args.servers.now in
    let many = c.loop-number.invariant.1.many_counts in
    let ok = c.loop-number.counts.ok in
    omega (arith, inside, histories, many, ok)

pub loop-number-init : goal.loop-number-init
loop-number-init c =
    let servers = c.args.servers.now in
    let histories = many_of servers in
    let many = c.requires.many in
    let value = c.servers.ensures.value in
    let again = c.servers-2.ensures.value in
    let from = c.from.ensures in
    let from_again = c.from-2.ensures in
    let no_places = c.in_ok-places.ensures.items_if_clones_equal (λ y same. same) in
    let no_counts = c.in_ok-counts.ensures.items_if_clones_equal (λ y same. same) in
    let places_len = c.in_ok-places.ensures.len in
    let counts_len = c.in_ok-counts.ensures.len in (
      [],
      cut_start c.args.set.now (histories_of servers) c.in_ok-places.places.items c.in_ok-counts.counts.items
          (omega (arith, histories, many, value, from, places_len)) (omega (arith, histories, many, again, from_again, counts_len))
          (λ server place is. zeros_are c.from.result server place (subst (λ l. slice_get l server ≡ Some place) no_places is))
          (λ server count is. zeros_are c.from-2.result server count (subst (λ l. slice_get l server ≡ Some count) no_counts is)),
    )

pub loop-number-preserved-then-branch : goal.loop-number-preserved-then-branch
loop-number-preserved-then-branch c =
    let here = here_at c.args.set.now c.args.servers.now _ _ _ _ _ _ _ c.requires c.loop-number.invariant.1 c.as_slice.ensures.value c.in-Some.ensures c.index-place.ensures
    c.index-servers-number.is in
    let read = entry_read _ _ _ _ _ _ _ _ here _ _ c.history-history.ensures.value c.index-history-place.is in
    let histories = histories_of c.args.servers.now in
    let may = subst (λ n. IsTrue c.in_ok-may_take.field-0 ↔ MayTake c.args.set.now (fronts n histories) c.index-history-place.result)
    c.as_slice-in-Some.ensures.value c.in_ok-may_take.ensures in
    takes_on _ _ _ _ _ _ _ _ here (subst (MayTake c.args.set.now (fronts c.loop-number.counts.items histories)) read (may.0 c.if-branch.true))

pub loop-number-smaller-then-branch : goal.loop-number-smaller-then-branch
loop-number-smaller-then-branch c =
    let here = here_at c.args.set.now c.args.servers.now _ _ _ _ _ _ _ c.requires c.loop-number.invariant.1 c.as_slice.ensures.value c.in-Some.ensures c.index-place.ensures
    c.index-servers-number.is in
    nearer_by _ _ _ _ _ _ _ (c.index-place.result.now + 1) _ here (omega arith)

pub loop-number-preserved : goal.loop-number-preserved
loop-number-preserved c =
    let here = here_at c.args.set.now c.args.servers.now _ _ _ _ _ _ _ c.requires c.loop-number.invariant.1 c.as_slice.ensures.value c.in-Some.ensures c.index-place.ensures
    c.index-servers-number.is in
    let read = entry_read _ _ _ _ _ _ _ _ here _ _ c.history-history.ensures.value c.index-history-place.is in
    let histories = histories_of c.args.servers.now in
    let may = subst (λ n. IsTrue c.in_ok-may_take.field-0 ↔ MayTake c.args.set.now (fronts n histories) c.index-history-place.result)
    c.as_slice-in-Some.ensures.value c.in_ok-may_take.ensures in
    let false_is = c.if-branch.false in
    let never : IsTrue c.in_ok-may_take.field-0 → ⊥ = λ yes. let both = sym yes ∙ false_is in cc in
    ends_on _ _ _ _ _ _ _ (length c.history-history.result.now) _ here
    (λ takes. never (may.1 (subst (MayTake c.args.set.now (fronts c.loop-number.counts.items histories)) (sym read) takes)))
    (ap length c.history-history.ensures.value)

pub loop-number-smaller : goal.loop-number-smaller
loop-number-smaller c =
    let here = here_at c.args.set.now c.args.servers.now _ _ _ _ _ _ _ c.requires c.loop-number.invariant.1 c.as_slice.ensures.value c.in-Some.ensures c.index-place.ensures
    c.index-servers-number.is in
    let inside = slice_get_within c.index-servers-number.result.history c.index-place.result.now here.step.least.entry here.entry_is in
    let long : length c.history-history.result.now ≡ length c.index-servers-number.result.history = ap length c.history-history.ensures.value in
    nearer_by _ _ _ _ _ _ _ (length c.history-history.result.now) _ here (omega (arith, inside, long))

pub returns : goal.returns
returns c =
    let servers = c.args.servers.now in
    cut_end c.args.set.now (histories_of servers) c.loop-number.places.items c.loop-number.counts.items c.loop-number.invariant.0 (many_of servers ∙ c.requires.many)
    c.loop-number.invariant.1
    (subst (λ p. IsNextAt (histories_of servers) p None) c.as_slice.ensures.value
    (subst (IsNextAt (histories_of servers) c.as_slice.result.now) c.in_default.is c.least_next.ensures))
