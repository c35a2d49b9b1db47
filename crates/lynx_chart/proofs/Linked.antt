-- Where one chain precedes another, the two meet; so the links of a right cycle are met.
use Rattle.std.proofs.Common.{◌≡◌, ℕ, zero, suc, ◌<◌, Bool, true, false, cond, ◌||◌, List, [], ◌∷◌, ◌++◌, Option, Some, None, refl, sym, subst, arith}
use Rattle.std.specs.Prelude.{All, IsSome, find, option_map, slice_get}
use Rattle.std.specs.List.{list_any, zip}
use Rattle.std.specs.Option.{option_or}
use Rattle.std.proofs.lemmas.Bool.{false≢true}
use Rattle.std.proofs.lemmas.List.Elements.{All-cons, All-nil}
use Rattle.std.proofs.lemmas.Option.{none-some, same_Some}
use Rattle.lynx_names.specs.declared.chain.ChainId.{ChainId}
use Rattle.lynx_set.specs.Set.{Set}
use Rattle.lynx_foot.specs.Conflicts.{Conflicts}
use Rattle.lynx_foot.specs.Tests.{collide}
use Rattle.lynx_foot.specs.declared.touch.Touch.{Touch}
use Rattle.lynx_foot.proofs.Decides.{Decides-some_collide}
use Rattle.lynx_order.specs.Explained.{CycleIsRight}
use Rattle.lynx_order.specs.Precedence.{Precedes, PrecedesAround, touches_in}
use Rattle.lynx_order.specs.declared.explained.Explained.{Explained}
use Rattle.lynx_order.specs.declared.explained.Explained.TheVariants.{Order, Cycle}
use Rattle.lynx_world.specs.Placed.{Placed}
use Rattle.lynx_chart.specs.Meetings.{AreMet, meeting_at, meeting_behind, meeting_from, meeting_of, node_of, touch_met}
use Rattle.lynx_chart.specs.declared.meeting.Node.{Node}

-- ---- some of several

some_first : {X : Type 0} (one other : Option X) → IsSome one → IsSome (option_or one other)
some_first (Some x) other is = is
some_first None other is = absurd (false≢true is)

some_later : {X : Type 0} (one other : Option X) → IsSome other → IsSome (option_or one other)
some_later (Some x) other is = refl
some_later None other is = is

some_mapped : {X Y : Type 0} (f : X → Y) (found : Option X) → IsSome found → IsSome (option_map f found)
some_mapped f (Some x) is = refl
some_mapped f None is = absurd (false≢true is)

some_found : {X : Type 0} (test : X → Bool) (xs : List X) → list_any test xs ≡ true → IsSome (find test xs)
some_found test [] passes = absurd (false≢true passes)
some_found {X} test (x ∷ xs) passes = by_test (test x) passes (some_found test xs)
  where
    by_test : (b : Bool) → (b || list_any test xs) ≡ true → (list_any test xs ≡ true → IsSome (find test xs)) → IsSome (cond b (Some x) (find test xs))
    by_test true passes rest = refl
    by_test false passes rest = rest passes

-- ---- two chains

-- an entry that touched nothing meets none
pub no_meeting : (set : Set) (other : ChainId) (before : Node) (list : List Placed) → meeting_behind set other before [] list ≡ None
no_meeting set other before [] = refl
no_meeting set other before (after ∷ list) = no_meeting set other before list

-- touches that conflict have a first that does
touches_met : (lefts rights : List Touch) → Conflicts lefts rights → IsSome (touch_met lefts rights)
touches_met lefts rights conflict = some_found (λ left. list_any (collide left) rights) lefts ((Decides-some_collide lefts rights).1 conflict)

-- an entry meets a later one that conflicts with it
met_behind : (set : Set) (other : ChainId) (before : Node) (touches : List Touch) (list : List Placed) (j : ℕ) (second : Placed) →
    slice_get list j ≡ Some second → Conflicts touches (touches_in set other second.entry) → IsSome (meeting_behind set other before touches list)
met_behind set other before touches [] j second there conflict = absurd (none-some second there)
met_behind set other before touches (after ∷ list) zero second there conflict =
    some_first (option_map (meeting_at before after) (touch_met touches (touches_in set other after.entry))) (meeting_behind set other before touches list)
    (some_mapped (meeting_at before after) (touch_met touches (touches_in set other after.entry))
    (subst (λ (p : Placed). IsSome (touch_met touches (touches_in set other p.entry))) (sym (same_Some after second there))
    (touches_met touches (touches_in set other second.entry) conflict)))
met_behind set other before touches (after ∷ list) (suc j) second there conflict =
    some_later (option_map (meeting_at before after) (touch_met touches (touches_in set other after.entry))) (meeting_behind set other before touches list)
    (met_behind set other before touches list j second there conflict)

-- chains with entries that conflict meet
met_at : (set : Set) (one other : ChainId) (list : List Placed) (i j : ℕ) (first second : Placed) → i < j → slice_get list i ≡ Some first → slice_get list j ≡ Some second →
    Conflicts (touches_in set one first.entry) (touches_in set other second.entry) → IsSome (meeting_of set one other list)
met_at set one other [] i j first second order there then conflict = absurd (none-some first there)
met_at set one other (before ∷ list) zero zero first second order there then conflict = absurd (omega arith)
met_at set one other (before ∷ list) zero (suc j) first second order there then conflict =
    some_first (meeting_from set one other before list) (meeting_of set one other list)
    (met_behind set other (node_of before) (touches_in set one before.entry) list j second then
    (subst (λ (p : Placed). Conflicts (touches_in set one p.entry) (touches_in set other second.entry)) (sym (same_Some before first there)) conflict))
met_at set one other (before ∷ list) (suc i) zero first second order there then conflict = absurd (omega arith)
met_at set one other (before ∷ list) (suc i) (suc j) first second order there then conflict =
    some_later (meeting_from set one other before list) (meeting_of set one other list) (met_at set one other list i j first second (omega arith) there then conflict)

-- a chain that precedes another meets it
precedes_met : (set : Set) (list : List Placed) (one other : ChainId) → Precedes set list one other → IsSome (meeting_of set one other list)
precedes_met set list one other precedes =
    met_at set one other list precedes.place precedes.later precedes.first precedes.second precedes.in_order precedes.first_there precedes.second_there precedes.conflict

-- ---- a cycle

around_met : (set : Set) (list : List Placed) (first chain : ChainId) (rest : List ChainId) → PrecedesAround set list first chain rest →
    All (λ (link : ChainId × ChainId). IsSome (meeting_of set link.0 link.1 list)) (zip (chain ∷ rest) (rest ++ first ∷ []))
around_met set list first chain [] precedes =
    All-cons (λ (link : ChainId × ChainId). IsSome (meeting_of set link.0 link.1 list)) (chain, first) [] (precedes_met set list chain first precedes)
    (All-nil (λ (link : ChainId × ChainId). IsSome (meeting_of set link.0 link.1 list)))
around_met set list first chain (next ∷ rest) precedes =
    All-cons (λ (link : ChainId × ChainId). IsSome (meeting_of set link.0 link.1 list)) (chain, next) (zip (next ∷ rest) (rest ++ first ∷ []))
    (precedes_met set list chain next precedes.0) (around_met set list first next rest precedes.1)

pub cycle_met : (set : Set) (list : List Placed) (explained : Explained) → CycleIsRight set list explained → AreMet set list explained
cycle_met set list (Order chains) right = All-nil (λ (link : ChainId × ChainId). IsSome (meeting_of set link.0 link.1 list))
cycle_met set list (Cycle []) right = absurd right
cycle_met set list (Cycle (only ∷ [])) right = absurd right
cycle_met set list (Cycle (first ∷ second ∷ rest)) right = around_met set list first first (second ∷ rest) right.1
