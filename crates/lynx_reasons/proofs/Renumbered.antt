-- A program that is left has a new number in the set without others, and is there what it was.
use Rattle.std.proofs.Common.{◌≡◌, ◌∙◌, ℕ, zero, suc, ◌+◌, Bool, true, false, cond, not, List, [], ◌∷◌, map, Option, refl, sym, ap, subst, arith}
use Rattle.std.specs.Prelude.{All, Any, Contains, ◌==◌, ◌&&◌, option_and_then, option_map, slice_get, unwrap_or}
use Rattle.std.specs.List.{filter_map, list_any}
use Rattle.std.proofs.lemmas.Bool.{and_parts, eqb-true, not-true}
use Rattle.std.proofs.lemmas.List.Elements.{All-contains}
use Rattle.std.proofs.lemmas.List.Folds.{Any-from_list_any}
use Rattle.lynx_set.specs.declared.program.Hop.{Hop}
use Rattle.lynx_set.specs.declared.program.Program.{Program}
use Rattle.lynx_set.specs.Lookups.{origin_of, program_at, server_at}
use Rattle.lynx_set.specs.Set.{Set}
use Rattle.lynx_foot.specs.declared.reach.Reach.{Reach}
use Rattle.lynx_foot.specs.Conflicts.{MayCollide, MayConflict}
use Rattle.lynx_foot.specs.Feet.{foot_of}
use Rattle.lynx_foot.specs.Reaches.{reach_of, reaches_of}
use Rattle.lynx_graph.specs.declared.block.Block.{Block}
use Rattle.lynx_graph.specs.declared.block.Block.TheVariants.{One, Two}
use Rattle.lynx_graph.specs.declared.meeting.Place.{Place}
use Rattle.lynx_graph.specs.Blocks.{Meets, NoBlockWalkOffends, entrance_of, exit_of}
use Rattle.lynx_late.specs.Abroad.{ReachesAbroad}
use Rattle.lynx_late.specs.Blocks.{IsLate}
use Rattle.lynx_late.proofs.Late.{listed_is_late, walk_of_late}
use Rattle.lynx_reasons.specs.declared.culprit.Culprit.{Culprit}
use Rattle.lynx_reasons.specs.declared.sift.End.{End}
use Rattle.lynx_reasons.specs.declared.sift.Sift.{Sift}
use Rattle.lynx_reasons.specs.Culprits.{is_of, left_of, set_without}
use Rattle.lynx_reasons.specs.inner.Numbers.{number_from, number_of}
use Rattle.lynx_reasons.specs.inner.Sifts.{IsEnd, IsSift, MeetsProgram, is_block_left, is_end_at, is_end_left, leaves_late}

-- ---- the new number

left_at : (culprit : Culprit) (first k : ℕ) (xs : List (List ℕ × Program)) → is_of culprit (first + k) ≡ false →
    slice_get (left_of culprit first xs) (number_from culprit first k) ≡ slice_get xs k
left_at culprit first k [] kept = refl
left_at culprit first zero (x ∷ xs) kept =
    let same : first + 0 ≡ first = omega arith in
    ap (λ b. slice_get (cond b (left_of culprit (first + 1) xs) (x ∷ left_of culprit (first + 1) xs)) 0) (subst (λ (n : ℕ). is_of culprit n ≡ false) same kept)
left_at culprit first (suc k) (x ∷ xs) kept = by_test (is_of culprit first) (left_at culprit (first + 1) k xs (subst (λ (n : ℕ). is_of culprit n ≡ false) same kept))
  where
    same : first + suc k ≡ first + 1 + k
    same = omega arith

    by_test : (b : Bool) → slice_get (left_of culprit (first + 1) xs) (number_from culprit (first + 1) k) ≡ slice_get xs k →
        slice_get (cond b (left_of culprit (first + 1) xs) (x ∷ left_of culprit (first + 1) xs)) (cond b (number_from culprit (first + 1) k) (suc (number_from culprit (first + 1) k))) ≡ slice_get xs k
    by_test true later = later
    by_test false later = later

program_left : (set : Set) (culprit : Culprit) (program : ℕ) → is_of culprit program ≡ false → program_at (set_without set culprit) (number_of culprit program) ≡ program_at set program
program_left set culprit program kept =
    let same : program ≡ 0 + program = omega arith in
    ap (option_map (λ (named : List ℕ × Program). named.1)) (left_at culprit 0 program set.programs (subst (λ (n : ℕ). is_of culprit n ≡ false) same kept))

server_left : (set : Set) (culprit : Culprit) (program hop : ℕ) → is_of culprit program ≡ false → server_at (set_without set culprit) (number_of culprit program) hop ≡ server_at set program hop
server_left set culprit program hop kept =
    ap (λ (o : Option Program). option_map (λ (found : Hop). found.server) (option_and_then (λ (of : Program). slice_get of.hops hop) o)) (program_left set culprit program kept)

pub origin_left : (set : Set) (culprit : Culprit) (program : ℕ) → is_of culprit program ≡ false → origin_of (set_without set culprit) (number_of culprit program) ≡ origin_of set program
origin_left set culprit program kept = server_left set culprit program 0 kept

reaches_left : (set : Set) (culprit : Culprit) (program hop : ℕ) → is_of culprit program ≡ false → reaches_of (set_without set culprit) (number_of culprit program) hop ≡ reaches_of set program hop
reaches_left set culprit program hop kept =
    ap (λ (o : Option Program). map (reach_of (unwrap_or (option_map (λ (found : Program). found.ranges) o) []))
    (filter_map foot_of (unwrap_or (option_map (λ (found : Hop). found.actions) (option_and_then (λ (of : Program). slice_get of.hops hop) o)) []))) (program_left set culprit program kept)

-- ---- what conflicts still does

pub conflict_left : (set : Set) (culprit : Culprit) (left_program left_hop right_program right_hop : ℕ) → is_of culprit left_program ≡ false → is_of culprit right_program ≡ false →
    MayConflict set left_program left_hop right_program right_hop → MayConflict (set_without set culprit) (number_of culprit left_program) left_hop (number_of culprit right_program) right_hop
conflict_left set culprit left_program left_hop right_program right_hop left right may = record {
  same_server = server_left set culprit left_program left_hop left ∙ may.same_server ∙ sym (server_left set culprit right_program right_hop right);
  reaches_may_collide =
      subst (λ (lefts : List Reach). Any (λ l. Any (λ r. MayCollide l r) (reaches_of (set_without set culprit) (number_of culprit right_program) right_hop)) lefts)
      (sym (reaches_left set culprit left_program left_hop left))
      (subst (λ (rights : List Reach). Any (λ l. Any (λ r. MayCollide l r) rights) (reaches_of set left_program left_hop))
      (sym (reaches_left set culprit right_program right_hop right)) may.reaches_may_collide);
}

abbrev pub place_left : Culprit → Place → Place
place_left culprit place = record { program = number_of culprit place.program; hop = place.hop }

-- a hop that is left meets one abroad that is left
record MeetsLeft (set : Set) (culprit : Culprit) (place : Place) : Type 0 where
  pub own : is_of culprit place.program ≡ false
  pub other : Place
  pub its : is_of culprit other.program ≡ false
  pub meets : Meets set place other

reaches_abroad_left : (set : Set) (culprit : Culprit) (place : Place) → MeetsLeft set culprit place → ReachesAbroad (set_without set culprit) (place_left culprit place)
reaches_abroad_left set culprit place met = (
  place_left culprit met.other,
  record {
    conflict = conflict_left set culprit place.program place.hop met.other.program met.other.hop met.own met.its met.meets.conflict;
    apart = λ same. met.meets.apart (sym (origin_left set culprit place.program met.own) ∙ same ∙ origin_left set culprit met.other.program met.its);
  },
)

-- ---- late blocks

abbrev block_left : Culprit → Block → Block
block_left culprit (One program entered left) = One (number_of culprit program) entered left
block_left culprit (Two first entered second left) = Two (number_of culprit first) entered (number_of culprit second) left

late_left : (set : Set) (culprit : Culprit) (block : Block) → IsLate set block → MeetsLeft set culprit (entrance_of block) → MeetsLeft set culprit (exit_of block) →
    IsLate (set_without set culprit) (block_left culprit block)
late_left set culprit (One program entered left) late entrance exit = record {
  is_block = tt;
  not_forward = late.not_forward;
  entered_abroad = reaches_abroad_left set culprit (record { program = program; hop = entered }) entrance;
  left_abroad = reaches_abroad_left set culprit (record { program = program; hop = left }) exit;
}
late_left set culprit (Two first entered second left) late entrance exit = record {
  is_block = origin_left set culprit first entrance.own ∙ late.is_block ∙ sym (origin_left set culprit second exit.own);
  not_forward = λ come. late.not_forward (record {
    hop = come.hop;
    server = come.server;
    upto = come.upto;
    own = sym (server_left set culprit second come.hop exit.own) ∙ come.own;
    there = sym (server_left set culprit first entered entrance.own) ∙ come.there;
  });
  entered_abroad = reaches_abroad_left set culprit (record { program = first; hop = entered }) entrance;
  left_abroad = reaches_abroad_left set culprit (record { program = second; hop = left }) exit;
}

-- ---- by a sift

meets_left : (set : Set) (culprit : Culprit) (ends : List End) (place : Place) → All (IsEnd set) ends → list_any (is_end_at culprit place) ends ≡ true → MeetsLeft set culprit place
meets_left set culprit ends place are some =
    let found = Any-from_list_any (is_end_at culprit place) ends some in
    let end = found.1 in
    let is : IsEnd set end = All-contains (IsEnd set) ends end are (found.0, found.2, found.3) in
    let parts = and_parts (end.place.program == place.program && end.place.hop == place.hop) (is_end_left culprit end) found.4 in
    let at = and_parts (end.place.program == place.program) (end.place.hop == place.hop) parts.0 in
    let left = and_parts (not (is_of culprit end.place.program)) (list_any (λ program. not (is_of culprit program)) end.meets) parts.1 in
    let meet = Any-from_list_any (λ program. not (is_of culprit program)) end.meets left.1 in
    let meets : MeetsProgram set end.place meet.1 = All-contains (MeetsProgram set end.place) end.meets meet.1 is (meet.0, meet.2, meet.3) in
    by end.place.program end.place.hop (eqb-true _ _ at.0) (eqb-true _ _ at.1) (not-true _ left.0) meet.1 (not-true _ meet.4) meets
  where
    by : (program hop : ℕ) → program ≡ place.program → hop ≡ place.hop → is_of culprit program ≡ false → (other : ℕ) → is_of culprit other ≡ false →
        MeetsProgram set (record { program = program; hop = hop }) other → MeetsLeft set culprit place
    by program hop same_program same_hop own other its meets = record {
      own = subst (λ (p : ℕ). is_of culprit p ≡ false) same_program own;
      other = record { program = other; hop = meets.0 };
      its = its;
      meets =
          subst (λ (p : ℕ). Meets set (record { program = p; hop = place.hop }) (record { program = other; hop = meets.0 })) same_program
          (subst (λ (h : ℕ). Meets set (record { program = program; hop = h }) (record { program = other; hop = meets.0 })) same_hop meets.1);
    }

-- a block that the sift leaves late is late in the set without these programs
pub late_by_sift : (set : Set) (culprit : Culprit) (sift : Sift) → IsSift set sift → leaves_late culprit sift ≡ true → NoBlockWalkOffends (set_without set culprit) → ⊥
late_by_sift set culprit sift is leaves none =
    let ends = sift.ends.items in
    let found = Any-from_list_any (is_block_left culprit ends) sift.blocks.items leaves in
    let block = found.1 in
    let listed : Contains sift.blocks.items block = (found.0, found.2, found.3) in
    let late = (listed_is_late set block (subst (λ (blocks : List Block). Contains blocks block) is.blocks listed)).0 in
    let entrance = list_any (is_end_at culprit (entrance_of block)) ends in
    let exit = list_any (is_end_at culprit (exit_of block)) ends in
    let first = and_parts (not (is_of culprit (entrance_of block).program) && not (is_of culprit (exit_of block).program) && entrance) exit found.4 in
    let second = and_parts (not (is_of culprit (entrance_of block).program) && not (is_of culprit (exit_of block).program)) entrance first.0 in
    let walk = walk_of_late (set_without set culprit) (block_left culprit block)
    (late_left set culprit block late (meets_left set culprit ends (entrance_of block) is.ends second.1) (meets_left set culprit ends (exit_of block) is.ends first.1)) in
    none walk.0 walk.1
