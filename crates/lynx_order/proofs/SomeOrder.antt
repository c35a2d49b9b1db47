-- Of each legal list there is an order of its begun chains that keeps precedence, or a cycle.
use Rattle.std.proofs.Common.{◌≡◌, ℕ, zero, suc, ◌<◌, ◌≤◌, Bool, true, false, List, [], ◌∷◌, ◌++◌, map, length, get_or, replicate, inl, inr, ◌⊎◌, refl, sym, ap, subst, arith}
use Rattle.std.proofs.Math.ListN.{set}
use Rattle.lynx_names.specs.declared.chain.ChainId.{ChainId}
use Rattle.lynx_set.specs.Set.{Set}
use Rattle.lynx_world.specs.Placed.{Placed}
use Rattle.lynx_world.specs.Legal.{IsLegal}
use Rattle.lynx_order.specs.inner.Begun.{begun_chains}
use Rattle.lynx_order.specs.inner.ChainsAt.{chain_at}
use Rattle.lynx_order.specs.inner.Picks.{ArePicked, ComesBefore, IsClosed, IsFree, IsMarked, IsPart, IsRound, IsSquare, IsTrail, LeftBefore, NoneFree}
use Rattle.lynx_order.specs.Explained.{IsOrder}
use Rattle.lynx_order.specs.Precedence.{IsCycle}
use Rattle.lynx_order.proofs.Found.{table_for}
use Rattle.lynx_order.proofs.Judged.{cycle_found, order_found}
use Rattle.lynx_order.proofs.Lists.{split}
use Rattle.lynx_order.proofs.Marks.{mark_count, mark_count-set, marked_within, picked_more, picked_none, round_of_part, trail_closed, trail_more, trail_none}

marked_or_not : (marks : List Bool) (place : ℕ) → IsMarked marks place ⊎ (get_or marks place false ≡ false)
marked_or_not marks place = by (get_or marks place false) refl
  where
    by : (b : Bool) → get_or marks place false ≡ b → IsMarked marks place ⊎ (get_or marks place false ≡ false)
    by true is = inl is
    by false is = inr is

never_both : (marks : List Bool) (place : ℕ) → IsMarked marks place → get_or marks place false ≡ false → ⊥
never_both marks place is isnt = let apart : true ≡ false = cc in cc

-- a place below one more is below, or the last
cases_at : (place end : ℕ) → place < suc end → (place < end) ⊎ (place ≡ end)
cases_at zero zero below = inr refl
cases_at zero (suc end) below = inl (omega arith)
cases_at (suc place) zero below = absurd (omega arith)
cases_at (suc place) (suc end) below = elim (cases_at place end (omega arith)) [ inl less ↦ inl (omega arith) | inr same ↦ inr (ap suc same) ]

-- ---- which chain precedes one

-- none below this place is left and precedes that one
abbrev NoneBefore : List (List Bool) → List Bool → ℕ → ℕ → Type 0
NoneBefore table left place end = (one : ℕ) → one < end → IsMarked left one → ComesBefore table one place → ⊥

before_below : (table : List (List Bool)) (left : List Bool) (place end : ℕ) → ((one : ℕ) × LeftBefore table left one place) ⊎ NoneBefore table left place end
before_below table left place zero = inr (λ one below is before. absurd (omega arith))
before_below table left place (suc end) = elim (before_below table left place end) [
  | inl found ↦ inl found
  | inr none ↦ elim (marked_or_not left end) [
    | inl is_left ↦ elim (marked_or_not (get_or table place []) end) [
      | inl before ↦ inl (end, record { within = marked_within left end is_left; is_left = is_left; before = before })
      | inr apart ↦ inr (below_more none (λ is before. never_both (get_or table place []) end before apart))
    ]
    | inr gone ↦ inr (below_more none (λ is before. never_both left end is gone))
  ]
]
  where
    below_more : NoneBefore table left place end → (IsMarked left end → ComesBefore table end place → ⊥) → NoneBefore table left place (suc end)
    below_more none here one below is before = elim (cases_at one end below) [
      | inl less ↦ none one less is before
      | inr same ↦ here (subst (IsMarked left) same is) (subst (λ o. ComesBefore table o place) same before)
    ]

-- a chain that is left has one before it that is left, or is free
before_or_free : (table : List (List Bool)) (left : List Bool) (place : ℕ) → IsMarked left place →
    ((one : ℕ) × LeftBefore table left one place) ⊎ IsFree table left place
before_or_free table left place is = elim (before_below table left place (length left)) [
  | inl found ↦ inl found
  | inr none ↦ inr (record { within = marked_within left place is; is_left = is; alone = λ one marked before. none one (marked_within left one marked) marked before })
]

-- ---- which chain is free

abbrev NoneFreeBelow : List (List Bool) → List Bool → ℕ → Type 0
NoneFreeBelow table left end = (place : ℕ) → place < end → IsMarked left place → (one : ℕ) × LeftBefore table left one place

free_below : (table : List (List Bool)) (left : List Bool) (end : ℕ) → ((place : ℕ) × IsFree table left place) ⊎ NoneFreeBelow table left end
free_below table left zero = inr (λ place below is. absurd (omega arith))
free_below table left (suc end) = elim (free_below table left end) [
  | inl found ↦ inl found
  | inr none ↦ elim (marked_or_not left end) [
    | inl is ↦ elim (before_or_free table left end is) [
      | inl before ↦ inr (λ place below marked. elim (cases_at place end below) [
        | inl less ↦ none place less marked
        | inr same ↦ (before.0, subst (LeftBefore table left before.0) (sym same) before.1)
      ])
      | inr free ↦ inl (end, free)
    ]
    | inr gone ↦ inr (λ place below marked. elim (cases_at place end below) [
      | inl less ↦ none place less marked
      | inr same ↦ absurd (never_both left end (subst (IsMarked left) same marked) gone)
    ])
  ]
]

free_or_none : (table : List (List Bool)) (left : List Bool) → ((place : ℕ) × IsFree table left place) ⊎ NoneFree table left
free_or_none table left = elim (free_below table left (length left)) [
  | inl found ↦ inl found
  | inr none ↦ inr (λ place is. none place (marked_within left place is) is)
]

-- ---- picking

record Picking (table : List (List Bool)) : Type 0 where
  picked : List ℕ
  left : List Bool
  are : ArePicked table picked left
  none_free : NoneFree table left

pick_on : (fuel : ℕ) (table : List (List Bool)) (picked : List ℕ) (left : List Bool) → ArePicked table picked left → mark_count left ≤ fuel → Picking table
pick_on zero table picked left are few = elim (free_or_none table left) [
  | inl free ↦ absurd (none_fewer (mark_count (set left free.0 false)) (mark_count left) (mark_count-set left free.0 free.1.is_left) few)
  | inr none ↦ record { picked = picked; left = left; are = are; none_free = none }
]
  where
    none_fewer : (a b : ℕ) → a < b → b ≤ zero → ⊥
    none_fewer a b less few = absurd (omega arith)
pick_on (suc fuel) table picked left are few = elim (free_or_none table left) [
  | inl free ↦ pick_on fuel table (picked ++ free.0 ∷ []) (set left free.0 false) (picked_more table picked left free.0 are free.1)
      (one_fewer (mark_count (set left free.0 false)) (mark_count left) (mark_count-set left free.0 free.1.is_left) few)
  | inr none ↦ record { picked = picked; left = left; are = are; none_free = none }
]
  where
    one_fewer : (a b : ℕ) → a < b → b ≤ suc fuel → a ≤ fuel
    one_fewer a b less few = omega arith

-- ---- walking back

record Closing (table : List (List Bool)) (left : List Bool) : Type 0 where
  path : List ℕ
  current : ℕ
  closed : IsClosed table left path current

walk_on : (fuel : ℕ) (table : List (List Bool)) (left fresh : List Bool) (path : List ℕ) (current : ℕ) → length left ≡ length table → NoneFree table left →
    IsTrail table left fresh path current → mark_count fresh ≤ fuel → Closing table left
walk_on zero table left fresh path current whole none trail few = elim (marked_or_not fresh current) [
  | inl is ↦ absurd (none_fewer (mark_count (set fresh current false)) (mark_count fresh) (mark_count-set fresh current is) few)
  | inr met ↦ record { path = path; current = current; closed = trail_closed table left fresh path current trail whole met }
]
  where
    none_fewer : (a b : ℕ) → a < b → b ≤ zero → ⊥
    none_fewer a b less few = absurd (omega arith)
walk_on (suc fuel) table left fresh path current whole none trail few = elim (marked_or_not fresh current) [
  | inl is ↦
      let before = none current trail.is_left in
      walk_on fuel table left (set fresh current false) (current ∷ path) before.0 whole none (trail_more table left fresh path current before.0 trail is before.1)
      (one_fewer (mark_count (set fresh current false)) (mark_count fresh) (mark_count-set fresh current is) few)
  | inr met ↦ record { path = path; current = current; closed = trail_closed table left fresh path current trail whole met }
]
  where
    one_fewer : (a b : ℕ) → a < b → b ≤ suc fuel → a ≤ fuel
    one_fewer a b less few = omega arith

-- from a chain that is left the walk comes to a cycle
some_round : (table : List (List Bool)) (left : List Bool) (start : ℕ) → length left ≡ length table → NoneFree table left → IsMarked left start →
    (round : List ℕ) × IsRound table round
some_round table left start whole none is =
    let fresh = replicate (length table) true in
    let closing = walk_on (mark_count fresh) table left fresh [] start whole none (trail_none table left start is) (omega arith) in
    let at = split closing.current closing.path closing.closed.met in (
      closing.current ∷ at.before,
      round_of_part table left closing.path (closing.current ∷ at.before) closing.current whole closing.closed
          (record { part = at.before; older = at.behind; whole = at.whole; is = refl }),
    )

-- ---- some place is marked, or none

some_below : (marks : List Bool) (end : ℕ) → ((place : ℕ) × IsMarked marks place) ⊎ ((place : ℕ) → place < end → IsMarked marks place → ⊥)
some_below marks zero = inr (λ place below is. absurd (omega arith))
some_below marks (suc end) = elim (some_below marks end) [
  | inl found ↦ inl found
  | inr none ↦ elim (marked_or_not marks end) [
    | inl is ↦ inl (end, is)
    | inr gone ↦ inr (λ place below is. elim (cases_at place end below) [
      | inl less ↦ none place less is
      | inr same ↦ never_both marks end (subst (IsMarked marks) same is) gone
    ])
  ]
]

some_marked : (marks : List Bool) → ((place : ℕ) × IsMarked marks place) ⊎ ((place : ℕ) → IsMarked marks place → ⊥)
some_marked marks = elim (some_below marks (length marks)) [
  | inl found ↦ inl found
  | inr none ↦ inr (λ place is. none place (marked_within marks place is) is)
]

-- ---- an order or a cycle

pub order_or_cycle : (set : Set) (list : List Placed) → IsLegal set list → ((chains : List ChainId) × IsOrder set list chains) ⊎ ((chains : List ChainId) × IsCycle set list chains)
order_or_cycle set list legal =
    let table = table_for set list (begun_chains list) in
    let start = replicate (length table) true in
    let end = pick_on (mark_count start) table [] start (picked_none table) (omega arith) in
    elim (some_marked end.left) [
      | inl left ↦
          let round = some_round table end.left left.0 end.are.whole end.none_free left.1 in
          inr (map (chain_at (begun_chains list)) round.0, cycle_found set list round.0 legal round.1)
      | inr none ↦ inl (map (chain_at (begun_chains list)) end.picked, order_found set list end.picked end.left legal end.are none)
    ]
