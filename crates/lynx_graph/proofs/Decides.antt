-- The tests of walks decide what they are named for.
use Rattle.std.proofs.Common.{◌≡◌, ◌≢◌, ℕ, Bool, true, false, List, [], ◌∷◌, Option, Some, None, ap, sym, ◌∙◌, refl, arith, zero, suc}
use Rattle.std.specs.Bool.{Decides}
use Rattle.std.specs.List.{Any, list_any}
use Rattle.std.proofs.lemmas.Bool.{false≢true}
use Rattle.std.proofs.lemmas.Bool.Decides.{Decides-eqb, Decides-and, Decides-not, Decides-like}
use Rattle.std.proofs.lemmas.Option.{same_Some}
use Rattle.lynx_set.specs.Set.{Set}
use Rattle.lynx_foot.specs.Reaches.{reaches_of}
use Rattle.lynx_foot.specs.Conflicts.{MayCollide, MayConflict}
use Rattle.lynx_foot.proofs.Decides.{Decides-some_may_collide}
use Rattle.lynx_graph.specs.declared.meeting.Place.{Place}
use Rattle.lynx_graph.specs.declared.visit.Visit.{Visit}
use Rattle.std.proofs.lemmas.List.Folds.{Any-from_list_any, list_any-from_Any}
use Rattle.lynx_graph.specs.Walks.{Crosses, Differ, IsClosedWalk, IsOffending, Joins, JoinsAround}
use Rattle.lynx_graph.specs.Tests.{joins, same_server}
use Rattle.lynx_graph.specs.inner.Tests.{crosses, differs, is_closed, joins_around, joins_next, leaves_origin, offends}
use Rattle.lynx_set.specs.Lookups.{origin_of, server_at}

pub Decides-same_server : (left right : Option ℕ) → Decides (same_server left right) (left ≡ right)
Decides-same_server (Some left) (Some right) = Decides-like (same_server (Some left) (Some right)) (ap Some) (same_Some left right) (Decides-eqb left right)
Decides-same_server (Some left) None = (λ passes. absurd (false≢true passes), λ same. cc)
Decides-same_server None (Some right) = (λ passes. absurd (false≢true passes), λ same. cc)
Decides-same_server None None = (λ _. refl, λ _. refl)

pub Decides-joins : (set : Set) (left right : Place) → Decides (joins set left right) (MayConflict set left.program left.hop right.program right.hop)
Decides-joins set left right = Decides-like
    {P = (server_at set left.program left.hop ≡ server_at set right.program right.hop)
    × Any (λ left. Any (λ right. MayCollide left right) (reaches_of set right.program right.hop)) (reaches_of set left.program left.hop)}
    (joins set left right)
    (λ parts. record { same_server = parts.0; reaches_may_collide = parts.1 })
    (λ whole. (whole.same_server, whole.reaches_may_collide))
    (Decides-and _ _ (Decides-same_server _ _) (Decides-some_may_collide (reaches_of set left.program left.hop) (reaches_of set right.program right.hop)))

pub Decides-joins_next : (set : Set) (visit next : Visit) → Decides (joins_next set visit next) (Joins set visit next)
Decides-joins_next set visit next = Decides-joins set (record { program = visit.program; hop = visit.left }) (record { program = next.program; hop = next.entered })

pub Decides-joins_around : (set : Set) (first visit : Visit) (rest : List Visit) → Decides (joins_around set first visit rest) (JoinsAround set first visit rest)
Decides-joins_around set first visit [] = Decides-joins_next set visit first
Decides-joins_around set first visit (next ∷ rest) = Decides-and _ _ (Decides-joins_next set visit next) (Decides-joins_around set first next rest)

pub Decides-is_closed : (set : Set) (walk : List Visit) → Decides (is_closed set walk) (IsClosedWalk set walk)
Decides-is_closed set [] = (λ passes. absurd (false≢true passes), λ none. absurd none)
Decides-is_closed set (only ∷ []) = (λ passes. absurd (false≢true passes), λ none. absurd none)
Decides-is_closed set (first ∷ second ∷ rest) = Decides-joins_around set first first (second ∷ rest)

pub Decides-crosses : (visit : Visit) → Decides (crosses visit) (Crosses visit)
Decides-crosses visit = Decides-not _ (Decides-eqb visit.entered visit.left)

pub Decides-some_crosses : (walk : List Visit) → Decides (list_any crosses walk) (Any Crosses walk)
Decides-some_crosses walk = (
  λ passes. let found = Any-from_list_any crosses walk passes in (found.0, found.1, found.2, found.3, (Decides-crosses found.1).0 found.4),
  λ found. list_any-from_Any crosses walk (found.0, found.1, found.2, found.3, (Decides-crosses found.1).1 found.4),
)

pub Decides-differs : (set : Set) (origin : Option ℕ) (visit : Visit) → Decides (differs set origin visit) (origin_of set visit.program ≢ origin)
Decides-differs set origin visit = Decides-not _ (Decides-same_server (origin_of set visit.program) origin)

-- some two visits of the list have programs of different origins
abbrev pub DifferSomewhere : Set → List Visit → Type 0
DifferSomewhere set walk = Any (λ visit. Any (λ other. Differ set visit other) walk) walk

-- the first visit and the one that differs from it
two_differ : (set : Set) (first : Visit) (rest : List Visit) → list_any (differs set (origin_of set first.program)) rest ≡ true → DifferSomewhere set (first ∷ rest)
two_differ set first rest passes =
    let found = Any-from_list_any (differs set (origin_of set first.program)) rest passes in
    (suc found.0, found.1, omega (arith, found.2), found.3, (0, first, omega arith, refl, (Decides-differs set (origin_of set first.program) found.1).0 found.4))

-- a visit that differs from the first is one of the rest
some_differs : (set : Set) (first : Visit) (rest : List Visit) → Any (λ visit. origin_of set visit.program ≢ origin_of set first.program) (first ∷ rest) →
    list_any (differs set (origin_of set first.program)) rest ≡ true
some_differs set first rest (zero, visit, within, is, differs) = absurd (differs (ap (λ (v : Visit). origin_of set v.program) (sym is)))
some_differs set first rest (suc k, visit, within, is, differ) =
    list_any-from_Any (differs set (origin_of set first.program)) rest (k, visit, omega (arith, within), is, (Decides-differs set (origin_of set first.program) visit).1 differ)

-- of two visits that differ, one differs from the first
one_differs : (set : Set) (first : Visit) (rest : List Visit) → DifferSomewhere set (first ∷ rest) → list_any (differs set (origin_of set first.program)) rest ≡ true
one_differs set first rest found =
    by_test (same_server (origin_of set found.1.program) (origin_of set first.program)) (Decides-same_server (origin_of set found.1.program) (origin_of set first.program))
  where
    by_test : (b : Bool) → Decides b (origin_of set found.1.program ≡ origin_of set first.program) → list_any (differs set (origin_of set first.program)) rest ≡ true
    by_test true decides =
        let same = decides.0 refl in
        let other = found.4 in
        some_differs set first rest (other.0, other.1, other.2, other.3, λ as_first. other.4 (same ∙ sym as_first))
    by_test false decides =
        some_differs set first rest (found.0, found.1, found.2, found.3, λ as_first. false≢true (decides.1 as_first))

pub Decides-leaves_origin : (set : Set) (walk : List Visit) → Decides (leaves_origin set walk) (DifferSomewhere set walk)
Decides-leaves_origin set [] = (λ passes. absurd (false≢true passes), λ found. absurd (omega (arith, found.2)))
Decides-leaves_origin set (first ∷ rest) = (two_differ set first rest, one_differs set first rest)

pub Decides-offends : (set : Set) (walk : List Visit) → Decides (offends set walk) (IsOffending set walk)
Decides-offends set walk = Decides-like
    {P = (IsClosedWalk set walk × Any Crosses walk) × DifferSomewhere set walk}
    (offends set walk)
    (λ parts. (parts.0.0, record { crosses = parts.0.1; differ = parts.1 }))
    (λ whole. ((whole.0, whole.1.crosses), whole.1.differ))
    (Decides-and _ _ (Decides-and _ _ (Decides-is_closed set walk) (Decides-some_crosses walk)) (Decides-leaves_origin set walk))
