-- Programs that are left, and that their tables have no part in the verdict on them.
use Rattle.std.proofs.Common.{◌≡◌, ◌∙◌, ℕ, suc, ◌+◌, ◌≤◌, Bool, true, false, cond, not, List, [], ◌∷◌, ◌++◌, map, length, take, drop, get_or, ◌<◌, Option, Some, None, inl, inr, refl, sym, ap, subst, ⊎_elim, arith}
use Rattle.std.specs.Prelude.{slice_get}
use Rattle.std.specs.List.{IsDistinct, list_any, position_or_len}
use Rattle.std.proofs.lemmas.Bool.{le-ltb, or_from, or_parts}
use Rattle.std.proofs.lemmas.List.{drop_more, length-take, map-append, take-append-drop, take_more}
use Rattle.std.proofs.lemmas.List.Elements.{All-weaker}
use Rattle.std.proofs.lemmas.Option.{get_or_from_slice_get, slice_get_within}
use Rattle.lynx_set.specs.declared.program.Program.{Program}
use Rattle.lynx_set.specs.Set.{Set}
use Rattle.lynx_set.specs.Names.{place_of}
use Rattle.lynx_set.proofs.Same.{none_before, place-same_turned, same_name}
use Rattle.lynx_foot.specs.Conflicts.{MayConflict}
use Rattle.lynx_graph.specs.declared.block.Block.{Block}
use Rattle.lynx_graph.specs.declared.block.Block.TheVariants.{One, Two}
use Rattle.lynx_graph.specs.declared.meeting.Place.{Place}
use Rattle.lynx_graph.specs.declared.visit.Visit.{Visit}
use Rattle.lynx_graph.specs.Acceptance.{IsAccepted}
use Rattle.lynx_graph.specs.Blocks.{IsBlock, IsForward, IsOffendingBlockWalk, Meets, MeetsAround, NoBlockWalkOffends, entrance_of, exit_of}
use Rattle.lynx_check.specs.Reasons.{IsExcuse}
use Rattle.lynx_graph.specs.Walks.{IsClosedWalk, IsOffending, JoinsAround, NoWalkOffends}
use Rattle.lynx_reasons.specs.declared.culprit.Culprit.{Culprit}
use Rattle.lynx_reasons.specs.Culprits.{is_of, left_of}
use Rattle.lynx_reasons.specs.inner.Untabled.{untabled}

-- ---- one program more

pub left_of-more : (culprit : Culprit) (first n : ℕ) (xs : List (List ℕ × Program)) (named : List ℕ × Program) → first + length xs ≡ n →
    left_of culprit first (xs ++ named ∷ []) ≡ left_of culprit first xs ++ cond (is_of culprit n) [] (named ∷ [])
left_of-more culprit first n [] named at =
    let same : first ≡ n = omega (arith, at) in
    ap (λ (m : ℕ). cond (is_of culprit m) [] (named ∷ [])) same
left_of-more culprit first n (x ∷ xs) named at = by_test (is_of culprit first) (left_of-more culprit (first + 1) n xs named (omega (arith, at)))
  where
    by_test : (b : Bool) → left_of culprit (first + 1) (xs ++ named ∷ []) ≡ left_of culprit (first + 1) xs ++ cond (is_of culprit n) [] (named ∷ []) →
        cond b (left_of culprit (first + 1) (xs ++ named ∷ [])) (x ∷ left_of culprit (first + 1) (xs ++ named ∷ []))
        ≡ cond b (left_of culprit (first + 1) xs) (x ∷ left_of culprit (first + 1) xs) ++ cond (is_of culprit n) [] (named ∷ [])
    by_test true later = later
    by_test false later = ap (λ rest. x ∷ rest) later

pub length-left_of : (culprit : Culprit) (first : ℕ) (xs : List (List ℕ × Program)) → length (left_of culprit first xs) ≤ length xs
length-left_of culprit first [] = omega arith
length-left_of culprit first (x ∷ xs) = by_test (is_of culprit first) (length-left_of culprit (first + 1) xs)
  where
    by_test : (b : Bool) → length (left_of culprit (first + 1) xs) ≤ length xs → length (cond b (left_of culprit (first + 1) xs) (x ∷ left_of culprit (first + 1) xs)) ≤ suc (length xs)
    by_test true later = omega (arith, later)
    by_test false later = omega (arith, later)

-- ---- names that are new

none_left : (culprit : Culprit) (first : ℕ) (xs : List (List ℕ × Program)) (name : List ℕ) → list_any (same_name name) (map (λ entry. entry.0) xs) ≡ false →
    list_any (same_name name) (map (λ entry. entry.0) (left_of culprit first xs)) ≡ false
none_left culprit first [] name none = refl
none_left culprit first (x ∷ xs) name none =
    let parts = or_parts (same_name name x.0) (list_any (same_name name) (map (λ entry. entry.0) xs)) none in
    by_test (is_of culprit first) parts.0 (none_left culprit (first + 1) xs name parts.1)
  where
    by_test : (b : Bool) → same_name name x.0 ≡ false → list_any (same_name name) (map (λ entry. entry.0) (left_of culprit (first + 1) xs)) ≡ false →
        list_any (same_name name) (map (λ entry. entry.0) (cond b (left_of culprit (first + 1) xs) (x ∷ left_of culprit (first + 1) xs))) ≡ false
    by_test true here later = later
    by_test false here later = or_from _ _ here later

past : (p : List ℕ → Bool) (names : List (List ℕ)) → list_any p names ≡ false → position_or_len p names ≡ length names
past p [] none = refl
past p (name ∷ names) none =
    let parts = or_parts (p name) (list_any p names) none in
    let later = past p names parts.1 in
    ap (λ b. cond (not b) (1 + position_or_len p names) 0) parts.0 ∙ omega (arith, later)

no_place : (names : List (List ℕ)) (name : List ℕ) → list_any (same_name name) names ≡ false → place_of names name ≡ None
no_place names name none =
    let at : position_or_len (same_name name) names ≡ length names = past (same_name name) names none in
    sym (place-same_turned names name) ∙ ap (λ b. cond b (Some (position_or_len (same_name name) names)) None) (le-ltb (position_or_len (same_name name) names) (length names) (omega (arith, at)))

pub name_is_new : (culprit : Culprit) (xs : List (List ℕ × Program)) (name : List ℕ) → list_any (same_name name) (map (λ entry. entry.0) xs) ≡ false →
    place_of (map (λ entry. entry.0) (left_of culprit 0 xs)) name ≡ None
name_is_new culprit xs name none = no_place (map (λ entry. entry.0) (left_of culprit 0 xs)) name (none_left culprit 0 xs name none)

-- ---- the next program

split_at : {X : Type 0} (xs : List X) (n : ℕ) (x : X) → slice_get xs n ≡ Some x → xs ≡ take n xs ++ x ∷ drop (n + 1) xs
split_at xs n x there =
    let within = slice_get_within xs n x there in
    let is : get_or xs n x ≡ x = get_or_from_slice_get xs n x x there in
    sym (take-append-drop n xs) ∙ ap (λ rest. take n xs ++ rest) (drop_more xs n x within ∙ ap (λ y. y ∷ drop (n + 1) xs) is)

take_one_more : {X : Type 0} (xs : List X) (n : ℕ) (x : X) → slice_get xs n ≡ Some x → take (n + 1) xs ≡ take n xs ++ x ∷ []
take_one_more xs n x there = take_more xs n x (slice_get_within xs n x there) ∙ ap (λ y. take n xs ++ y ∷ []) (get_or_from_slice_get xs n x x there)

pub next_is_new : (culprit : Culprit) (entries left : List (List ℕ × Program)) (n : ℕ) (named : List ℕ × Program) → IsDistinct same_name (map (λ entry. entry.0) entries) →
    slice_get entries n ≡ Some named → left ≡ left_of culprit 0 (take n entries) → place_of (map (λ entry. entry.0) left) named.0 ≡ None
next_is_new culprit entries left n named distinct there is =
    let names : map (λ (entry : List ℕ × Program). entry.0) entries ≡ map (λ entry. entry.0) (take n entries) ++ named.0 ∷ map (λ entry. entry.0) (drop (n + 1) entries) =
    ap (map (λ (entry : List ℕ × Program). entry.0)) (split_at entries n named there) ∙ map-append (λ (entry : List ℕ × Program). entry.0) (take n entries) (named ∷ drop (n + 1) entries) in
    ap (λ (all : List (List ℕ × Program)). place_of (map (λ entry. entry.0) all) named.0) is
    ∙ name_is_new culprit (take n entries) named.0
    (none_before (map (λ (entry : List ℕ × Program). entry.0) (take n entries)) named.0 (map (λ (entry : List ℕ × Program). entry.0) (drop (n + 1) entries)) (subst (IsDistinct same_name) names distinct))

pub few_left : (culprit : Culprit) (entries left : List (List ℕ × Program)) (n : ℕ) → n < length entries → left ≡ left_of culprit 0 (take n entries) → length left ≤ n
few_left culprit entries left n within is =
    let some = length-left_of culprit 0 (take n entries) in
    let taken = length-take n entries in
    let same = ap length is in
    omega (arith, some, taken, same)

pub left_of-next : (culprit : Culprit) (entries left : List (List ℕ × Program)) (n : ℕ) (named : List ℕ × Program) (b : Bool) → slice_get entries n ≡ Some named → is_of culprit n ≡ b →
    left_of culprit 0 (take (n + 1) entries) ≡ left_of culprit 0 (take n entries) ++ cond b [] (named ∷ [])
left_of-next culprit entries left n named b there is =
    let within = slice_get_within entries n named there in
    let taken = length-take n entries in
    ap (left_of culprit 0) (take_one_more entries n named there)
    ∙ left_of-more culprit 0 n (take n entries) named (omega (arith, taken, within))
    ∙ ap (λ c. left_of culprit 0 (take n entries) ++ cond c [] (named ∷ [])) is

-- ---- tables have no part in a verdict

conflict_tabled : (set : Set) (left_program left_hop right_program right_hop : ℕ) → MayConflict set left_program left_hop right_program right_hop →
    MayConflict (untabled set) left_program left_hop right_program right_hop
conflict_tabled set left_program left_hop right_program right_hop may = record { same_server = may.same_server; reaches_may_collide = may.reaches_may_collide }

joins_tabled : (set : Set) (first visit : Visit) (rest : List Visit) → JoinsAround set first visit rest → JoinsAround (untabled set) first visit rest
joins_tabled set first visit [] joins = conflict_tabled set visit.program visit.left first.program first.entered joins
joins_tabled set first visit (next ∷ rest) joins = (conflict_tabled set visit.program visit.left next.program next.entered joins.0, joins_tabled set first next rest joins.1)

closed_tabled : (set : Set) (walk : List Visit) → IsClosedWalk set walk → IsClosedWalk (untabled set) walk
closed_tabled set [] closed = closed
closed_tabled set (only ∷ []) closed = closed
closed_tabled set (first ∷ second ∷ rest) closed = joins_tabled set first first (second ∷ rest) closed

walk_tabled : (set : Set) (walk : List Visit) → IsOffending set walk → IsOffending (untabled set) walk
walk_tabled set walk offends = (closed_tabled set walk offends.0, record { crosses = offends.1.crosses; differ = offends.1.differ })

meets_tabled : (set : Set) (left right : Place) → Meets set left right → Meets (untabled set) left right
meets_tabled set left right meets = record { conflict = conflict_tabled set left.program left.hop right.program right.hop meets.conflict; apart = meets.apart }

block_tabled : (set : Set) (block : Block) → IsBlock set block → IsBlock (untabled set) block
block_tabled set (One program entered left) is = tt
block_tabled set (Two first entered second left) is = is

forward_untabled : (set : Set) (block : Block) → IsForward (untabled set) block → IsForward set block
forward_untabled set (One program entered left) forward = forward
forward_untabled set (Two first entered second left) come = record { hop = come.hop; server = come.server; upto = come.upto; own = come.own; there = come.there }

around_tabled : (set : Set) (first block : Block) (rest : List Block) → MeetsAround set first block rest → MeetsAround (untabled set) first block rest
around_tabled set first block [] around = meets_tabled set (exit_of block) (entrance_of first) around
around_tabled set first block (next ∷ rest) around = (meets_tabled set (exit_of block) (entrance_of next) around.0, around_tabled set first next rest around.1)

blocks_tabled : (set : Set) (walk : List Block) → IsOffendingBlockWalk set walk → IsOffendingBlockWalk (untabled set) walk
blocks_tabled set [] offends = absurd offends.0
blocks_tabled set (only ∷ []) offends = absurd offends.0
blocks_tabled set (first ∷ second ∷ rest) offends =
    let backward = offends.1 in (
      (All-weaker (IsBlock set) (IsBlock (untabled set)) (block_tabled set) (first ∷ second ∷ rest) offends.0.0, around_tabled set first first (second ∷ rest) offends.0.1),
      (backward.0, backward.1, backward.2, backward.3, λ forward. backward.4 (forward_untabled set backward.1 forward)),
    )

pub accepted_tabled : (set : Set) → IsAccepted (untabled set) → IsAccepted set
accepted_tabled set accepted = ⊎_elim walks blocks accepted
  where
    walks : NoWalkOffends (untabled set) → IsAccepted set
    walks none = inl (λ walk offends. none walk (walk_tabled set walk offends))

    blocks : NoBlockWalkOffends (untabled set) → IsAccepted set
    blocks none = inr (λ walk offends. none walk (blocks_tabled set walk offends))

-- ---- nor have they one in that of a set with none

conflict_untabled : (set : Set) (left_program left_hop right_program right_hop : ℕ) → MayConflict (untabled set) left_program left_hop right_program right_hop →
    MayConflict set left_program left_hop right_program right_hop
conflict_untabled set left_program left_hop right_program right_hop may = record { same_server = may.same_server; reaches_may_collide = may.reaches_may_collide }

joins_untabled : (set : Set) (first visit : Visit) (rest : List Visit) → JoinsAround (untabled set) first visit rest → JoinsAround set first visit rest
joins_untabled set first visit [] joins = conflict_untabled set visit.program visit.left first.program first.entered joins
joins_untabled set first visit (next ∷ rest) joins = (conflict_untabled set visit.program visit.left next.program next.entered joins.0, joins_untabled set first next rest joins.1)

closed_untabled : (set : Set) (walk : List Visit) → IsClosedWalk (untabled set) walk → IsClosedWalk set walk
closed_untabled set [] closed = closed
closed_untabled set (only ∷ []) closed = closed
closed_untabled set (first ∷ second ∷ rest) closed = joins_untabled set first first (second ∷ rest) closed

walk_untabled : (set : Set) (walk : List Visit) → IsOffending (untabled set) walk → IsOffending set walk
walk_untabled set walk offends = (closed_untabled set walk offends.0, record { crosses = offends.1.crosses; differ = offends.1.differ })

meets_untabled : (set : Set) (left right : Place) → Meets (untabled set) left right → Meets set left right
meets_untabled set left right meets = record { conflict = conflict_untabled set left.program left.hop right.program right.hop meets.conflict; apart = meets.apart }

block_untabled : (set : Set) (block : Block) → IsBlock (untabled set) block → IsBlock set block
block_untabled set (One program entered left) is = tt
block_untabled set (Two first entered second left) is = is

forward_tabled : (set : Set) (block : Block) → IsForward set block → IsForward (untabled set) block
forward_tabled set (One program entered left) forward = forward
forward_tabled set (Two first entered second left) come = record { hop = come.hop; server = come.server; upto = come.upto; own = come.own; there = come.there }

around_untabled : (set : Set) (first block : Block) (rest : List Block) → MeetsAround (untabled set) first block rest → MeetsAround set first block rest
around_untabled set first block [] around = meets_untabled set (exit_of block) (entrance_of first) around
around_untabled set first block (next ∷ rest) around = (meets_untabled set (exit_of block) (entrance_of next) around.0, around_untabled set first next rest around.1)

blocks_untabled : (set : Set) (walk : List Block) → IsOffendingBlockWalk (untabled set) walk → IsOffendingBlockWalk set walk
blocks_untabled set [] offends = absurd offends.0
blocks_untabled set (only ∷ []) offends = absurd offends.0
blocks_untabled set (first ∷ second ∷ rest) offends =
    let backward = offends.1 in (
      (All-weaker (IsBlock (untabled set)) (IsBlock set) (block_untabled set) (first ∷ second ∷ rest) offends.0.0, around_untabled set first first (second ∷ rest) offends.0.1),
      (backward.0, backward.1, backward.2, backward.3, λ forward. backward.4 (forward_tabled set backward.1 forward)),
    )

pub accepted_untabled : (set : Set) → IsAccepted set → IsAccepted (untabled set)
accepted_untabled set accepted = ⊎_elim walks blocks accepted
  where
    walks : NoWalkOffends set → IsAccepted (untabled set)
    walks none = inl (λ walk offends. none walk (walk_untabled set walk offends))

    blocks : NoBlockWalkOffends set → IsAccepted (untabled set)
    blocks none = inr (λ walk offends. none walk (blocks_untabled set walk offends))

-- ---- an excuse accepts

pub accepted_by_excuse : (set : Set) (excused : Option (List Visit)) → IsExcuse set excused → IsAccepted set
accepted_by_excuse set None none = inl none
accepted_by_excuse set (Some walk) excuse = inr excuse.1
