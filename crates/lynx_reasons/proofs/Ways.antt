-- Ways from program to program, and the closed walk that goes along one and back.
use Rattle.std.proofs.Common.{◌≡◌, ◌≢◌, ◌∙◌, ℕ, List, [], ◌∷◌, ◌++◌, refl, sym, subst, ⊎_elim}
use Rattle.std.specs.Prelude.{Any, Contains}
use Rattle.std.proofs.lemmas.Bool.{cases_eq}
use Rattle.std.proofs.lemmas.List.Elements.{Contains-append_left}
use Rattle.lynx_set.specs.Set.{Set}
use Rattle.lynx_set.specs.Lookups.{origin_of}
use Rattle.lynx_foot.specs.Conflicts.{MayConflict}
use Rattle.lynx_foot.proofs.ConflictLaws.{MayConflict-swapped}
use Rattle.lynx_graph.specs.declared.meeting.Place.{Place}
use Rattle.lynx_graph.specs.declared.visit.Visit.{Visit}
use Rattle.lynx_graph.specs.Together.{AreTogether, LeadsTo, Meet}
use Rattle.lynx_graph.specs.Walks.{Crosses, Differ, IsClosedWalk, IsOffending, JoinsAround}
use Rattle.lynx_late.proofs.Lists.{Contains-here, Contains-later}

-- ---- ways

leads_on : (set : Set) (a b c : ℕ) (way further : List ℕ) → LeadsTo set a way b → LeadsTo set b further c → LeadsTo set a (way ++ further) c
leads_on set a b c [] further to on = subst (λ (p : ℕ). LeadsTo set p further c) (sym to) on
leads_on set a b c (next ∷ way) further to on = (to.0, leads_on set next b c way further to.1 on)

pub together_on : (set : Set) (a b c : ℕ) → AreTogether set a b → AreTogether set b c → AreTogether set a c
together_on set a b c to on = (to.0 ++ on.0, leads_on set a b c to.0 on.0 to.1 on.1)

pub met : (set : Set) (a b : ℕ) → Meet set a b → AreTogether set a b
met set a b meet = (b ∷ [], (meet, refl))

pub Meet-swapped : (set : Set) (a b : ℕ) → Meet set a b → Meet set b a
Meet-swapped set a b meet = record { left_hop = meet.right_hop; right_hop = meet.left_hop; conflict = MayConflict-swapped set a meet.left_hop b meet.right_hop meet.conflict }

pub itself : (set : Set) (program : ℕ) → AreTogether set program program
itself set program = ([], refl)

leads_back : (set : Set) (a b : ℕ) (way : List ℕ) → LeadsTo set a way b → AreTogether set b a
leads_back set a b [] same = ([], sym same)
leads_back set a b (next ∷ way) to = together_on set b next a (leads_back set next b way to.1) (met set next a (Meet-swapped set a next to.0))

pub together_back : (set : Set) (a b : ℕ) → AreTogether set a b → AreTogether set b a
together_back set a b to = leads_back set a b to.0 to.1

-- ---- a walk along a way, and back

abbrev visit_of : ℕ → ℕ → ℕ → Visit
visit_of program entered left = record { program = program; entered = entered; left = left }

-- one walk, and from its last visit another
around_on : (set : Set) (first visit middle : Visit) (visits more : List Visit) → JoinsAround set middle visit visits → JoinsAround set first middle more →
    JoinsAround set first visit (visits ++ middle ∷ more)
around_on set first visit middle [] more to on = (to, on)
around_on set first visit middle (next ∷ visits) more to on = (to.0, around_on set first next middle visits more to.1 on)

-- a program that is entered at a hop, those that the way leads to, and back to that hop
abbrev tour : (set : Set) (program entered last : ℕ) (way : List ℕ) → LeadsTo set program way last → List Visit
tour set program entered last [] to = visit_of program entered entered ∷ []
tour set program entered last (next ∷ way) to =
    visit_of program entered to.0.left_hop ∷ (tour set next to.0.right_hop last way to.1 ++ visit_of program to.0.left_hop entered ∷ [])

tour_joins : (set : Set) (first visit : Visit) (hop program entered last : ℕ) (way : List ℕ) (to : LeadsTo set program way last) →
    MayConflict set visit.program visit.left program entered → MayConflict set program entered first.program first.entered →
    JoinsAround set first visit (tour set program entered last way to)
tour_joins set first visit hop program entered last [] to came goes = (came, goes)
tour_joins set first visit hop program entered last (next ∷ way) to came goes =
    let out = visit_of program entered to.0.left_hop in
    let back = visit_of program to.0.left_hop entered in (
      came,
      around_on set first out back (tour set next to.0.right_hop last way to.1) []
          (tour_joins set back out hop next to.0.right_hop last way to.1 to.0.conflict (MayConflict-swapped set program to.0.left_hop next to.0.right_hop to.0.conflict))
          goes,
    )

-- it comes to the last
tour_comes : (set : Set) (program entered last : ℕ) (way : List ℕ) (to : LeadsTo set program way last) →
    (visit : Visit) × Contains (tour set program entered last way to) visit × (visit.program ≡ last)
tour_comes set program entered last [] to = (visit_of program entered entered, Contains-here (visit_of program entered entered) [], to)
tour_comes set program entered last (next ∷ way) to =
    let rest = tour_comes set next to.0.right_hop last way to.1 in
    (rest.0, Contains-later (visit_of program entered to.0.left_hop) rest.0 _ (Contains-append_left (tour set next to.0.right_hop last way to.1) (visit_of program to.0.left_hop entered ∷ []) rest.0 rest.1), rest.2)

-- ---- it offends

-- the hop may conflict with one
pub record HasEdge (set : Set) (program hop : ℕ) : Type 0 where
  pub other : Place
  pub conflict : MayConflict set program hop other.program other.hop

closed_from : (set : Set) (first second : Visit) (visits : List Visit) → JoinsAround set first first (visits ++ second ∷ []) → IsClosedWalk set (first ∷ (visits ++ second ∷ []))
closed_from set first second [] around = around
closed_from set first second (next ∷ visits) around = around

-- from a program by one hop to the first of a way, along it and back, and to what another hop of the program meets
walk_by : (set : Set) (program hop next last : ℕ) (way : List ℕ) (meet : Meet set program next) (to : LeadsTo set next way last) → HasEdge set program hop →
    hop ≢ meet.left_hop → origin_of set program ≢ origin_of set last → (walk : List Visit) × IsOffending set walk
walk_by set program hop next last way meet to edge differs apart =
    (walk, (closed_from set first other (visits ++ back ∷ []) joins, record { crosses = crosses; differ = differ }))
  where
    first : Visit
    first = visit_of program hop meet.left_hop

    back : Visit
    back = visit_of program meet.left_hop hop

    other : Visit
    other = visit_of edge.other.program edge.other.hop edge.other.hop

    visits : List Visit
    visits = tour set next meet.right_hop last way to

    walk : List Visit
    walk = first ∷ ((visits ++ back ∷ []) ++ other ∷ [])

    joins : JoinsAround set first first ((visits ++ back ∷ []) ++ other ∷ [])
    joins = around_on set first first other (visits ++ back ∷ []) []
        (around_on set other first back visits [] (tour_joins set back first hop next meet.right_hop last way to meet.conflict (MayConflict-swapped set program meet.left_hop next meet.right_hop meet.conflict)) edge.conflict)
        (MayConflict-swapped set program hop edge.other.program edge.other.hop edge.conflict)

    here : Contains walk first
    here = Contains-here first ((visits ++ back ∷ []) ++ other ∷ [])

    crosses : Any Crosses walk
    crosses = (here.0, first, here.1, here.2, differs)

    comes : (visit : Visit) × Contains visits visit × (visit.program ≡ last)
    comes = tour_comes set next meet.right_hop last way to

    there : Contains walk comes.0
    there = Contains-later first comes.0 ((visits ++ back ∷ []) ++ other ∷ []) (Contains-append_left (visits ++ back ∷ []) (other ∷ []) comes.0 (Contains-append_left visits (back ∷ []) comes.0 comes.1))

    differ : Any (λ visit. Any (λ other. Differ set visit other) walk) walk
    differ = (here.0, first, here.1, here.2, (there.0, comes.0, there.1, there.2, subst (λ (p : ℕ). origin_of set program ≢ origin_of set p) (sym comes.2) apart))

-- a program has edges at two of its hops, and is together with one of another origin
pub walk_of_mixed : (set : Set) (program last left right : ℕ) → AreTogether set program last → origin_of set program ≢ origin_of set last →
    left ≢ right → HasEdge set program left → HasEdge set program right → (walk : List Visit) × IsOffending set walk
walk_of_mixed set program last left right together apart differs edge other = by together.0 together.1
  where
    by : (way : List ℕ) → LeadsTo set program way last → (walk : List Visit) × IsOffending set walk
    by [] same = absurd (apart (subst (λ (p : ℕ). origin_of set program ≡ origin_of set p) same refl))
    by (next ∷ way) to =
        ⊎_elim
        (λ same. walk_by set program right next last way to.0 to.1 other (λ its. differs (same ∙ sym its)) apart)
        (λ another. walk_by set program left next last way to.0 to.1 edge another apart)
        (cases_eq left to.0.left_hop)
