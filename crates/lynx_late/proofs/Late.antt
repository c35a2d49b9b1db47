-- The list of late blocks has those that are late, and they are what makes a walk of blocks offend.
use Rattle.std.proofs.Common.{◌≡◌, ◌≢◌, ◌∙◌, ℕ, zero, suc, ◌<◌, true, not, List, [], ◌∷◌, filter, map, length, Some, refl, sym, ap, subst, ⊎_elim, arith}
use Rattle.std.specs.Prelude.{◌==◌, ◌&&◌, Contains, nat_lt, option_map, slice_get}
use Rattle.std.specs.Bool.{Decides}
use Rattle.std.proofs.lemmas.Bool.{and_from, and_parts, cases_eq, eq-eqb, eqb-true, ltb-true, ne_eqb, not-true, not_from_false, false≢true}
use Rattle.std.proofs.lemmas.List.Elements.{All-cons, All-nil, Contains-append_cases, Contains-append_left, Contains-append_right}
use Rattle.std.proofs.lemmas.List.Folds.{Any-from_list_any, list_any-from_Any}
use Rattle.std.proofs.lemmas.Option.{get_or_from_slice_get, none-some, same_Some, slice_get_read, slice_get_within}
use Rattle.lynx_set.specs.Set.{Set}
use Rattle.lynx_set.specs.Lookups.{origin_of}
use Rattle.lynx_set.specs.declared.program.Hop.{Hop}
use Rattle.lynx_foot.proofs.ConflictLaws.{MayConflict-swapped}
use Rattle.lynx_graph.specs.declared.block.Block.{Block}
use Rattle.lynx_graph.specs.declared.block.Block.TheVariants.{One, Two}
use Rattle.lynx_graph.specs.declared.meeting.Place.{Place}
use Rattle.lynx_graph.specs.Blocks.{IsBlock, IsOffendingBlockWalk, Meets, MeetsAround, NoBlockWalkOffends, entrance_of, exit_of}
use Rattle.lynx_graph.specs.Nodes.{places_of}
use Rattle.lynx_graph.specs.Tests.{has_come, same_server}
use Rattle.lynx_graph.proofs.Decides.{Decides-same_server}
use Rattle.lynx_graph.proofs.DecidesBlocks.{Decides-is_backward, Decides-meets}
use Rattle.lynx_graph.proofs.Places.{hop_left, place_of}
use Rattle.lynx_late.specs.Abroad.{ReachesAbroad, hops_abroad, meets, reaches_abroad}
use Rattle.lynx_late.specs.Blocks.{IsLate, IsListed, ends_of, has_not_come, is_before, late_blocks, late_from, one_chain, two_chains}
use Rattle.lynx_late.proofs.Lists.{Contains-here, contains-filter, contains-flat_map, contains-map, filter-contains, flat_map-contains, map-contains}

-- ---- meetings

Meets-swapped : (set : Set) (left right : Place) → Meets set left right → Meets set right left
Meets-swapped set left right meets = record {
  conflict = MayConflict-swapped set left.program left.hop right.program right.hop meets.conflict;
  apart = λ same. meets.apart (sym same);
}

-- a hop that meets another is a hop of the set
is_hop : (set : Set) (place other : Place) → Meets set place other → Contains (places_of set) place
is_hop set place other meets =
    let hop = hop_left set place other meets.conflict in
    let at = place_of set place hop.0 hop.1 in
    (at.0, slice_get_within (places_of set) at.0 place at.1, get_or_from_slice_get (places_of set) at.0 place place at.1)

pub Decides-reaches_abroad : (set : Set) (place : Place) → Decides (reaches_abroad set place) (ReachesAbroad set place)
Decides-reaches_abroad set place = (
  λ passes. let found = Any-from_list_any (meets set place) (places_of set) passes in (found.1, (Decides-meets set place found.1).0 found.4),
  λ reaches. let has = is_hop set reaches.0 place (Meets-swapped set place reaches.0 reaches.1) in
      list_any-from_Any (meets set place) (places_of set) (has.0, reaches.0, has.1, has.2, (Decides-meets set place reaches.0).1 reaches.1),
)

-- those abroad are the hops that it meets
pub abroad_meets : (set : Set) (place other : Place) → Contains (hops_abroad set place) other → Meets set place other
abroad_meets set place other has = (Decides-meets set place other).0 (filter-contains (meets set place) (places_of set) other has).1

pub meets_abroad : (set : Set) (place other : Place) → Meets set place other → Contains (hops_abroad set place) other
meets_abroad set place other met =
    contains-filter (meets set place) (places_of set) other (is_hop set other place (Meets-swapped set place other met)) ((Decides-meets set place other).1 met)

end_reaches : (set : Set) (place : Place) → Contains (ends_of set) place → ReachesAbroad set place
end_reaches set place has = (Decides-reaches_abroad set place).0 (filter-contains (reaches_abroad set) (places_of set) place has).1

is_end : (set : Set) (place : Place) → ReachesAbroad set place → Contains (ends_of set) place
is_end set place reaches =
    contains-filter (reaches_abroad set) (places_of set) place (is_hop set place reaches.0 reaches.1) ((Decides-reaches_abroad set place).1 reaches)

-- ---- two chains of one program

pub two_of_one : (set : Set) (program entered left : ℕ) → IsLate set (Two program entered program left) → IsLate set (One program entered left)
two_of_one set program entered left late =
    let entrance : Place = record { program = program; hop = entered } in
    let hop = hop_left set entrance late.entered_abroad.0 late.entered_abroad.1.conflict in
    let server = ap (option_map (λ (found : Hop). found.server)) hop.1 in
    record {
      is_block = tt;
      not_forward = λ upto. late.not_forward (record { hop = entered; server = hop.0.server; upto = upto; own = server; there = server });
      entered_abroad = late.entered_abroad;
      left_abroad = late.left_abroad;
    }

-- ---- what is listed is late

one_is_late : (set : Set) (entrance exit : Place) → Contains (ends_of set) entrance → Contains (filter (is_before entrance) (ends_of set)) exit →
    IsLate set (one_chain entrance exit) × IsListed (one_chain entrance exit)
one_is_late set entrance exit enters leaves =
    let end = filter-contains (is_before entrance) (ends_of set) exit leaves in
    let parts = and_parts (exit.program == entrance.program) (nat_lt exit.hop entrance.hop) end.1 in
    let program = eqb-true exit.program entrance.program parts.0 in
    let before : exit.hop < entrance.hop = ltb-true exit.hop entrance.hop parts.1 in (
      record {
        is_block = tt;
        not_forward = λ upto. absurd (omega (arith, before, upto));
        entered_abroad = end_reaches set entrance enters;
        left_abroad = subst (λ (p : ℕ). ReachesAbroad set (record { program = p; hop = exit.hop })) program (end_reaches set exit end.0);
      },
      tt,
    )

two_is_late : (set : Set) (entrance exit : Place) → Contains (ends_of set) entrance → Contains (filter (has_not_come set entrance) (ends_of set)) exit →
    IsLate set (two_chains entrance exit) × IsListed (two_chains entrance exit)
two_is_late set entrance exit enters leaves =
    let end = filter-contains (has_not_come set entrance) (ends_of set) exit leaves in
    let parts = and_parts (not (exit.program == entrance.program) && same_server (origin_of set entrance.program) (origin_of set exit.program)) (not (has_come set entrance exit.program exit.hop)) end.1 in
    let of = and_parts (not (exit.program == entrance.program)) (same_server (origin_of set entrance.program) (origin_of set exit.program)) parts.0 in (
      record {
        is_block = (Decides-same_server (origin_of set entrance.program) (origin_of set exit.program)).0 of.1;
        not_forward = (Decides-is_backward set (two_chains entrance exit)).0 parts.1;
        entered_abroad = end_reaches set entrance enters;
        left_abroad = end_reaches set exit end.0;
      },
      λ same. false≢true (sym (not-true _ of.0) ∙ eq-eqb exit.program entrance.program (sym same)),
    )

from_late : (set : Set) (entrance : Place) (block : Block) → Contains (ends_of set) entrance → Contains (late_from set (ends_of set) entrance) block → IsLate set block × IsListed block
from_late set entrance block enters has =
    ⊎_elim one two (Contains-append_cases (map (one_chain entrance) (filter (is_before entrance) (ends_of set))) (map (two_chains entrance) (filter (has_not_come set entrance) (ends_of set))) block has)
  where
    one : Contains (map (one_chain entrance) (filter (is_before entrance) (ends_of set))) block → IsLate set block × IsListed block
    one found =
        let exit = map-contains (one_chain entrance) (filter (is_before entrance) (ends_of set)) block found in
        subst (λ (b : Block). IsLate set b × IsListed b) exit.2 (one_is_late set entrance exit.0 enters exit.1)

    two : Contains (map (two_chains entrance) (filter (has_not_come set entrance) (ends_of set))) block → IsLate set block × IsListed block
    two found =
        let exit = map-contains (two_chains entrance) (filter (has_not_come set entrance) (ends_of set)) block found in
        subst (λ (b : Block). IsLate set b × IsListed b) exit.2 (two_is_late set entrance exit.0 enters exit.1)

pub listed_is_late : (set : Set) (block : Block) → Contains (late_blocks set) block → IsLate set block × IsListed block
listed_is_late set block has =
    let entrance = flat_map-contains (late_from set (ends_of set)) (ends_of set) block has in
    from_late set entrance.0 block entrance.1 entrance.2

-- ---- what is late is listed

pub late_is_listed : (set : Set) (block : Block) → IsLate set block → IsListed block → Contains (late_blocks set) block
late_is_listed set (One program entered left) late listed =
    let entrance : Place = record { program = program; hop = entered } in
    let exit : Place = record { program = program; hop = left } in
    let before : is_before entrance exit ≡ true = and_from (program == program) (nat_lt left entered) (eq-eqb program program refl) ((Decides-is_backward set (One program entered left)).1 late.not_forward) in
    contains-flat_map (late_from set (ends_of set)) (ends_of set) entrance (One program entered left) (is_end set entrance late.entered_abroad)
    (Contains-append_left (map (one_chain entrance) (filter (is_before entrance) (ends_of set))) (map (two_chains entrance) (filter (has_not_come set entrance) (ends_of set))) (One program entered left)
    (contains-map (one_chain entrance) (filter (is_before entrance) (ends_of set)) exit
    (contains-filter (is_before entrance) (ends_of set) exit (is_end set exit late.left_abroad) before)))
late_is_listed set (Two first entered second left) late listed =
    let entrance : Place = record { program = first; hop = entered } in
    let exit : Place = record { program = second; hop = left } in
    let another : not (second == first) ≡ true = not_from_false _ (ne_eqb second first (λ same. listed (sym same))) in
    let one_origin : same_server (origin_of set first) (origin_of set second) ≡ true = (Decides-same_server (origin_of set first) (origin_of set second)).1 late.is_block in
    let not_come : has_not_come set entrance exit ≡ true =
    and_from _ _ (and_from _ _ another one_origin) ((Decides-is_backward set (Two first entered second left)).1 late.not_forward) in
    contains-flat_map (late_from set (ends_of set)) (ends_of set) entrance (Two first entered second left) (is_end set entrance late.entered_abroad)
    (Contains-append_right (map (one_chain entrance) (filter (is_before entrance) (ends_of set))) (map (two_chains entrance) (filter (has_not_come set entrance) (ends_of set))) (Two first entered second left)
    (contains-map (two_chains entrance) (filter (has_not_come set entrance) (ends_of set)) exit
    (contains-filter (has_not_come set entrance) (ends_of set) exit (is_end set exit late.left_abroad) not_come)))

-- ---- a late block makes a walk

-- one chain that is entered and left at the hop
abbrev one_at : Place → Block
one_at place = One place.program place.hop place.hop

-- the same chains, entered where the block is left
abbrev turned : Block → Block
turned (One program entered left) = One program left entered
turned (Two first entered second left) = Two second left first entered

turned_entrance : (block : Block) → entrance_of (turned block) ≡ exit_of block
turned_entrance (One program entered left) = refl
turned_entrance (Two first entered second left) = refl

turned_exit : (block : Block) → exit_of (turned block) ≡ entrance_of block
turned_exit (One program entered left) = refl
turned_exit (Two first entered second left) = refl

turned_is_block : (set : Set) (block : Block) → IsBlock set block → IsBlock set (turned block)
turned_is_block set (One program entered left) is = tt
turned_is_block set (Two first entered second left) is = sym is

-- through the block and back by the same chains
pub walk_of_late : (set : Set) (block : Block) → IsLate set block → (walk : List Block) × IsOffendingBlockWalk set walk
walk_of_late set block late =
    let behind = late.left_abroad.0 in
    let before = late.entered_abroad.0 in
    let again : Meets set behind (entrance_of (turned block)) = subst (Meets set behind) (sym (turned_entrance block)) (Meets-swapped set (exit_of block) behind late.left_abroad.1) in
    let back : Meets set (exit_of (turned block)) before = subst (λ (p : Place). Meets set p before) (sym (turned_exit block)) late.entered_abroad.1 in
    let closes : Meets set before (entrance_of block) = Meets-swapped set (entrance_of block) before late.entered_abroad.1 in (
      block ∷ one_at behind ∷ turned block ∷ one_at before ∷ [],
      (
        (
          All-cons (IsBlock set) block (one_at behind ∷ turned block ∷ one_at before ∷ []) late.is_block
              (All-cons (IsBlock set) (one_at behind) (turned block ∷ one_at before ∷ []) tt
              (All-cons (IsBlock set) (turned block) (one_at before ∷ []) (turned_is_block set block late.is_block)
              (All-cons (IsBlock set) (one_at before) [] tt (All-nil (IsBlock set))))),
          (late.left_abroad.1, (again, (back, closes))),
        ),
        (0, block, omega arith, refl, late.not_forward),
      ),
    )

-- ---- a walk that offends has a late block

-- the block meets others where it is entered and where it is left
record IsMet (set : Set) (block : Block) : Type 0 where
  enters : ReachesAbroad set (entrance_of block)
  leaves : ReachesAbroad set (exit_of block)

met_around : (set : Set) (first block : Block) (rest : List Block) → MeetsAround set first block rest → ReachesAbroad set (entrance_of block) →
    (k : ℕ) (one : Block) → slice_get (block ∷ rest) k ≡ Some one → IsMet set one
met_around set first block [] around enters zero one there =
    subst (IsMet set) (same_Some block one there) (record { enters = enters; leaves = (entrance_of first, around) })
met_around set first block [] around enters (suc k) one there = absurd (none-some one there)
met_around set first block (next ∷ rest) around enters zero one there =
    subst (IsMet set) (same_Some block one there) (record { enters = enters; leaves = (entrance_of next, around.0) })
met_around set first block (next ∷ rest) around enters (suc k) one there =
    met_around set first next rest around.1 (exit_of block, Meets-swapped set (exit_of block) (entrance_of next) around.0) k one there

-- where the first block is entered
first_entered : (set : Set) (first block : Block) (rest : List Block) → MeetsAround set first block rest → ReachesAbroad set (entrance_of first)
first_entered set first block [] around = (exit_of block, Meets-swapped set (exit_of block) (entrance_of first) around)
first_entered set first block (next ∷ rest) around = first_entered set first next rest around.1

pub late_of_walk : (set : Set) (walk : List Block) → IsOffendingBlockWalk set walk → (block : Block) × IsLate set block
late_of_walk set [] offends = absurd offends.0
late_of_walk set (only ∷ []) offends = absurd offends.0
late_of_walk set (first ∷ second ∷ rest) offends =
    let walk = first ∷ second ∷ rest in
    let around = offends.0.1 in
    let found = offends.1 in
    let block = found.1 in
    let is = met_around set first first (second ∷ rest) around (first_entered set first first (second ∷ rest) around) found.0 block
    (slice_get_read walk (length walk) found.0 block refl found.2 (sym found.3)) in (
      block,
      record {
        is_block = subst (IsBlock set) found.3 (offends.0.0 found.0 block found.2);
        not_forward = found.4;
        entered_abroad = is.enters;
        left_abroad = is.leaves;
      },
    )

-- ---- none

pub none_listed : (set : Set) → NoBlockWalkOffends set → late_blocks set ≡ []
none_listed set none = by_list (late_blocks set) refl
  where
    by_list : (blocks : List Block) → late_blocks set ≡ blocks → late_blocks set ≡ []
    by_list [] is = is
    by_list (block ∷ blocks) is =
        let late = listed_is_late set block (subst (λ (all : List Block). Contains all block) (sym is) (Contains-here block blocks)) in
        let walk = walk_of_late set block late.0 in
        absurd (none walk.0 walk.1)

none_is_late : (set : Set) (block : Block) → late_blocks set ≡ [] → IsLate set block → IsListed block → ⊥
none_is_late set block none late listed =
    let has : Contains [] block = subst (λ (all : List Block). Contains all block) none (late_is_listed set block late listed) in
    absurd (omega (arith, has.1))

not_one : (set : Set) (block : Block) → late_blocks set ≡ [] → IsLate set block → ⊥
not_one set (One program entered left) none late = none_is_late set (One program entered left) none late tt
not_one set (Two first entered second left) none late = ⊎_elim same other (cases_eq first second)
  where
    same : first ≡ second → ⊥
    same is =
        let one : IsLate set (One second entered left) = two_of_one set second entered left (subst (λ (p : ℕ). IsLate set (Two p entered second left)) is late) in
        none_is_late set (One second entered left) none one tt

    other : first ≢ second → ⊥
    other apart = none_is_late set (Two first entered second left) none late apart

pub none_offends : (set : Set) → late_blocks set ≡ [] → NoBlockWalkOffends set
none_offends set none walk offends = let late = late_of_walk set walk offends in not_one set late.0 none late.1
