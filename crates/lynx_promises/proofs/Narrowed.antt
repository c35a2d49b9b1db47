-- A set is accepted where one that extends it is: its walks are walks of that set.
use Rattle.std.proofs.Common.{◌≡◌, ◌≢◌, ◌∙◌, ℕ, List, [], ◌∷◌, map, get_or, Option, Some, None, slice_get, option_map, option_and_then, unwrap_or, inl, inr, refl, ap, sym, subst, arith}
use Rattle.std.specs.Prelude.{All, Any}
use Rattle.std.specs.List.{filter_map}
use Rattle.std.proofs.lemmas.List.Elements.{All-cons, All-nil}
use Rattle.lynx_set.specs.declared.program.Hop.{Hop}
use Rattle.lynx_set.specs.declared.program.Program.{Program}
use Rattle.lynx_set.specs.Lookups.{origin_of, program_at}
use Rattle.lynx_set.specs.Set.{Set}
use Rattle.lynx_extend.specs.Extends.{Extends}
use Rattle.lynx_foot.specs.declared.reach.Reach.{Reach}
use Rattle.lynx_foot.specs.Conflicts.{MayCollide, MayConflict}
use Rattle.lynx_foot.specs.Feet.{foot_of}
use Rattle.lynx_foot.specs.Reaches.{reach_of, reaches_of}
use Rattle.lynx_graph.specs.declared.block.Block.{Block}
use Rattle.lynx_graph.specs.declared.block.Block.TheVariants.{One, Two}
use Rattle.lynx_graph.specs.declared.meeting.Place.{Place}
use Rattle.lynx_graph.specs.declared.visit.Visit.{Visit}
use Rattle.lynx_graph.specs.Acceptance.{IsAccepted}
use Rattle.lynx_graph.specs.Blocks.{HasCome, IsBlock, IsForward, IsOffendingBlockWalk, Meets, MeetsAround, entrance_of, exit_of}
use Rattle.lynx_graph.specs.Walks.{Differ, IsOffending, JoinsAround}
use Rattle.lynx_promises.proofs.Extending.{Has, IsSameAt, same_at, server_same}

-- ---- hops that may conflict are there, and may conflict in both

-- what a program that isn't there reaches
abbrev reaches_in : Option Program → ℕ → List Reach
reaches_in program hop =
    map (reach_of (unwrap_or (option_map (λ (p : Program). p.ranges) program) []))
    (filter_map foot_of (unwrap_or (option_map (λ (h : Hop). h.actions) (option_and_then (λ (p : Program). slice_get p.hops hop) program)) []))

some_has : (set : Set) (program hop : ℕ) (P : Reach → Type 0) → Any P (reaches_of set program hop) → Has set program
some_has set program hop P some = by (program_at set program) refl some
  where
    by : (o : Option Program) → program_at set program ≡ o → Any P (reaches_in o hop) → Has set program
    by None at none = let within = none.2 in absurd (omega arith)
    by (Some found) at some = (found, at)

left_has : (set : Set) (p h q k : ℕ) → MayConflict set p h q k → Has set p
left_has set p h q k may = some_has set p h (λ left. Any (λ right. MayCollide left right) (reaches_of set q k)) may.reaches_may_collide

right_has : (set : Set) (p h q k : ℕ) → MayConflict set p h q k → Has set q
right_has set p h q k may = some_has set q k (λ right. MayCollide may.reaches_may_collide.1 right) may.reaches_may_collide.4

reaches_same : (old new : Set) (program hop : ℕ) → IsSameAt old new program → reaches_of new program hop ≡ reaches_of old program hop
reaches_same old new program hop same = ap (λ o. reaches_in o hop) same

conflict_new : (old new : Set) (p h q k : ℕ) → Extends old new → MayConflict old p h q k → MayConflict new p h q k
conflict_new old new p h q k extends may =
    let here = same_at old new p extends (left_has old p h q k may) in
    let there = same_at old new q extends (right_has old p h q k may) in record {
      same_server = server_same old new p h here ∙ may.same_server ∙ sym (server_same old new q k there);
      reaches_may_collide =
          subst (λ lefts. Any (λ left. Any (λ right. MayCollide left right) (reaches_of new q k)) lefts) (sym (reaches_same old new p h here))
          (subst (λ rights. Any (λ left. Any (λ right. MayCollide left right) rights) (reaches_of old p h)) (sym (reaches_same old new q k there)) may.reaches_may_collide);
    }

origins_same : (old new : Set) (program : ℕ) → IsSameAt old new program → origin_of new program ≡ origin_of old program
origins_same old new program same = server_same old new program 0 same

apart_new : (old new : Set) (program other : ℕ) → IsSameAt old new program → IsSameAt old new other → origin_of old program ≢ origin_of old other →
    origin_of new program ≢ origin_of new other
apart_new old new program other here there apart same = apart (sym (origins_same old new program here) ∙ same ∙ origins_same old new other there)

-- what some have that are all so
any_so : {X : Type 0} (K P Q : X → Type 0) (xs : List X) → All K xs → ((x : X) → K x → P x → Q x) → Any P xs → Any Q xs
any_so K P Q xs all so some = (some.0, some.1, some.2, some.3, so some.1 (subst K some.3 (all some.0 some.1 some.2)) some.4)

-- ---- closed walks

abbrev HasVisit : Set → Visit → Type 0
HasVisit set visit = Has set visit.program

joins_has : (set : Set) (first visit : Visit) (rest : List Visit) → JoinsAround set first visit rest → All (HasVisit set) (visit ∷ rest)
joins_has set first visit [] joins = All-cons (HasVisit set) visit [] (left_has set visit.program visit.left first.program first.entered joins) (All-nil (HasVisit set))
joins_has set first visit (next ∷ rest) joins =
    All-cons (HasVisit set) visit (next ∷ rest) (left_has set visit.program visit.left next.program next.entered joins.0) (joins_has set first next rest joins.1)

joins_new : (old new : Set) (first visit : Visit) (rest : List Visit) → Extends old new → JoinsAround old first visit rest → JoinsAround new first visit rest
joins_new old new first visit [] extends joins = conflict_new old new visit.program visit.left first.program first.entered extends joins
joins_new old new first visit (next ∷ rest) extends joins =
    (conflict_new old new visit.program visit.left next.program next.entered extends joins.0, joins_new old new first next rest extends joins.1)

differ_new : (old new : Set) (walk : List Visit) → Extends old new → All (HasVisit old) walk →
    Any (λ visit. Any (λ other. Differ old visit other) walk) walk → Any (λ visit. Any (λ other. Differ new visit other) walk) walk
differ_new old new walk extends all differ =
    any_so (HasVisit old) (λ visit. Any (λ other. Differ old visit other) walk) (λ visit. Any (λ other. Differ new visit other) walk) walk all
    (λ visit has some. any_so (HasVisit old) (λ other. Differ old visit other) (λ other. Differ new visit other) walk all
    (λ other too apart. apart_new old new visit.program other.program (same_at old new visit.program extends has) (same_at old new other.program extends too) apart) some) differ

offending_new : (old new : Set) (walk : List Visit) → Extends old new → IsOffending old walk → IsOffending new walk
offending_new old new [] extends offends = absurd offends.0
offending_new old new (only ∷ []) extends offends = absurd offends.0
offending_new old new (first ∷ second ∷ rest) extends offends = (
  joins_new old new first first (second ∷ rest) extends offends.0,
  record {
    crosses = offends.1.crosses;
    differ = differ_new old new (first ∷ second ∷ rest) extends (joins_has old first first (second ∷ rest) offends.0) offends.1.differ;
  },
)

-- ---- walks of blocks

-- both ends of a block are there
abbrev HasBlock : Set → Block → Type 0
HasBlock set block = Has set (entrance_of block).program × Has set (exit_of block).program

abbrev HasEntrances : Set → List Block → Type 0
HasEntrances set blocks = All (λ block. Has set (entrance_of block).program) blocks

exits_has : (set : Set) (first block : Block) (rest : List Block) → MeetsAround set first block rest → All (λ one. Has set (exit_of one).program) (block ∷ rest)
exits_has set first block [] meets =
    All-cons (λ one. Has set (exit_of one).program) block []
    (left_has set (exit_of block).program (exit_of block).hop (entrance_of first).program (entrance_of first).hop meets.conflict) (All-nil (λ one. Has set (exit_of one).program))
exits_has set first block (next ∷ rest) meets =
    All-cons (λ one. Has set (exit_of one).program) block (next ∷ rest)
    (left_has set (exit_of block).program (exit_of block).hop (entrance_of next).program (entrance_of next).hop meets.0.conflict) (exits_has set first next rest meets.1)

-- .. of the first, and of those behind this one
entrances_has : (set : Set) (first block : Block) (rest : List Block) → MeetsAround set first block rest →
    Has set (entrance_of first).program × All (λ one. Has set (entrance_of one).program) rest
entrances_has set first block [] meets =
    (right_has set (exit_of block).program (exit_of block).hop (entrance_of first).program (entrance_of first).hop meets.conflict, All-nil (λ one. Has set (entrance_of one).program))
entrances_has set first block (next ∷ rest) meets =
    let others = entrances_has set first next rest meets.1 in (
      others.0,
      All-cons (λ one. Has set (entrance_of one).program) next rest
          (right_has set (exit_of block).program (exit_of block).hop (entrance_of next).program (entrance_of next).hop meets.0.conflict) others.1,
    )

blocks_has : (set : Set) (first : Block) (rest : List Block) → MeetsAround set first first rest → All (HasBlock set) (first ∷ rest)
blocks_has set first rest meets place block within =
    let entrances = entrances_has set first first rest meets in
    (All-cons (λ one. Has set (entrance_of one).program) first rest entrances.0 entrances.1 place block within, exits_has set first first rest meets place block within)

block_new : (old new : Set) (block : Block) → Extends old new → HasBlock old block → IsBlock old block → IsBlock new block
block_new old new (One program entered left) extends has is = tt
block_new old new (Two first entered second left) extends has is =
    origins_same old new first (same_at old new first extends has.0) ∙ is ∙ sym (origins_same old new second (same_at old new second extends has.1))

blocks_new : (old new : Set) (blocks : List Block) → Extends old new → All (HasBlock old) blocks → All (IsBlock old) blocks → All (IsBlock new) blocks
blocks_new old new blocks extends all are place block within = block_new old new (get_or blocks place block) extends (all place block within) (are place block within)

come_old : (old new : Set) (place : Place) (program last : ℕ) → IsSameAt old new place.program → IsSameAt old new program → HasCome new place program last → HasCome old place program last
come_old old new place program last here there has = record {
  hop = has.hop;
  server = has.server;
  upto = has.upto;
  own = sym (server_same old new program has.hop there) ∙ has.own;
  there = sym (server_same old new place.program place.hop here) ∙ has.there;
}

forward_old : (old new : Set) (block : Block) → Extends old new → HasBlock old block → IsForward new block → IsForward old block
forward_old old new (One program entered left) extends has forward = forward
forward_old old new (Two first entered second left) extends has forward =
    come_old old new (record { program = first; hop = entered }) second left (same_at old new first extends has.0) (same_at old new second extends has.1) forward

meets_new : (old new : Set) (left right : Place) → Extends old new → Meets old left right → Meets new left right
meets_new old new left right extends meets = record {
  conflict = conflict_new old new left.program left.hop right.program right.hop extends meets.conflict;
  apart = apart_new old new left.program right.program (same_at old new left.program extends (left_has old left.program left.hop right.program right.hop meets.conflict))
      (same_at old new right.program extends (right_has old left.program left.hop right.program right.hop meets.conflict)) meets.apart;
}

around_new : (old new : Set) (first block : Block) (rest : List Block) → Extends old new → MeetsAround old first block rest → MeetsAround new first block rest
around_new old new first block [] extends meets = meets_new old new (exit_of block) (entrance_of first) extends meets
around_new old new first block (next ∷ rest) extends meets =
    (meets_new old new (exit_of block) (entrance_of next) extends meets.0, around_new old new first next rest extends meets.1)

block_walk_new : (old new : Set) (walk : List Block) → Extends old new → IsOffendingBlockWalk old walk → IsOffendingBlockWalk new walk
block_walk_new old new [] extends offends = absurd offends.0
block_walk_new old new (only ∷ []) extends offends = absurd offends.0
block_walk_new old new (first ∷ second ∷ rest) extends offends =
    let all = blocks_has old first (second ∷ rest) offends.0.1 in (
      (blocks_new old new (first ∷ second ∷ rest) extends all offends.0.0, around_new old new first first (second ∷ rest) extends offends.0.1),
      any_so (HasBlock old) (λ block. ¬ IsForward old block) (λ block. ¬ IsForward new block) (first ∷ second ∷ rest) all
          (λ block has never forward. never (forward_old old new block extends has forward)) offends.1,
    )

-- ---- acceptance

pub extended_accepted : (old new : Set) → Extends old new → IsAccepted new → IsAccepted old
extended_accepted old new extends (inl none) = inl (λ walk offends. none walk (offending_new old new walk extends offends))
extended_accepted old new extends (inr none) = inr (λ walk offends. none walk (block_walk_new old new walk extends offends))
