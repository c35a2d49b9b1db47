-- Chains that precede one another around a cycle give a closed walk that offends.
use Rattle.std.proofs.Common.{◌≡◌, ◌≢◌, ℕ, zero, suc, ◌+◌, ◌<◌, ◌≤◌, Bool, true, false, cond, List, [], ◌∷◌, length, Option, Some, slice_get, inl, inr, ◌⊎◌, refl, sym, ap, ◌∙◌, subst, arith}
use Rattle.std.specs.Prelude.{All, Any}
use Rattle.std.specs.List.{range_with_len}
use Rattle.std.proofs.lemmas.Bool.{cases_lt}
use Rattle.std.proofs.lemmas.Bool.Decides.{eqb_tells}
use Rattle.std.proofs.lemmas.List.Elements.{All-weaker}
use Rattle.lynx_names.specs.declared.chain.ChainId.{ChainId}
use Rattle.lynx_names.specs.declared.limits.TheConstants.{MAX_SERVERS}
use Rattle.lynx_shards.specs.Shards.{server_of}
use Rattle.lynx_set.specs.Home.{AreLiteralsHome}
use Rattle.lynx_set.specs.Set.{Set}
use Rattle.lynx_foot.specs.declared.touch.Touch.{Touch}
use Rattle.lynx_foot.specs.Conflicts.{Conflicts, KeysLieAtServer, MayConflict}
use Rattle.lynx_foot.proofs.ConflictLaws.{Any-weaker, Conflicts-swapped, MayConflict-from_Conflicts}
use Rattle.lynx_graph.specs.declared.visit.Visit.{Visit}
use Rattle.lynx_graph.specs.Walks.{Crosses, Differ, NoWalkOffends, JoinsAround}
use Rattle.lynx_commute.specs.Acts.{touched}
use Rattle.lynx_entry.specs.declared.entry.Entry.{Entry}
use Rattle.lynx_entry.specs.declared.entry.Entry.TheVariants.{Begun, Refused, Hop as HopRan}
use Rattle.lynx_rules.specs.Deliveries.{same_chain}
use Rattle.lynx_world.specs.Placed.{Placed}
use Rattle.lynx_world.specs.Legal.{IsLegal}
use Rattle.lynx_world.specs.Order.{hop_in, done_hops}
use Rattle.lynx_world.proofs.Members.{above_range}
use Rattle.lynx_world.proofs.Once.{known, program_of, once_and_in_order, same_name}
use Rattle.lynx_world.proofs.Origins.{origin_order}
use Rattle.lynx_world.proofs.Standing.{stands}
use Rattle.lynx_order.specs.Lists.{StandsBefore}
use Rattle.lynx_order.specs.Precedence.{IsCycle, Precedes, PrecedesAround, touches_in}
use Rattle.lynx_order.proofs.Dones.{Done, begun_as, ran_as, done_in, is_done}
use Rattle.lynx_order.proofs.Explains.{touches_are}
use Rattle.lynx_order.proofs.Keys.{LiesAt}
use Rattle.lynx_order.proofs.Places.{before_of_places, in_at}
use Rattle.lynx_set.specs.Intervals.{are_in_range}
use Rattle.lynx_set.specs.Lookups.{origin_of, ranges_of, server_at}

-- ---- a hop at a place

-- a hop of the chain, and where it stands
pub record HopAt (set : Set) (list : List Placed) (chain : ChainId) : Type 0 where
  pub done : Done
  pub chain_is : done.chain ≡ chain
  pub place : ℕ
  pub placed : Placed
  pub there : slice_get list place ≡ Some placed
  pub is : done_in placed.entry ≡ Some done
  pub in_range : are_in_range (ranges_of set done.act.program) done.act.args ≡ true
  pub lies : All (LiesAt set placed.server) (touched set done.act)
  pub at : server_at set done.act.program done.act.hop ≡ Some placed.server
  pub origin : origin_of set done.act.program ≡ Some chain.origin
  pub hop_is : hop_in chain placed.entry ≡ Some done.act.hop

-- nothing conflicts with no touches
none_conflict : (rights : List Touch) → Conflicts [] rights → ⊥
none_conflict rights found = let within = found.2 in omega arith

-- an entry in which the chain touched something is one of its hops
pub hop_of_touch : (set : Set) (chain : ChainId) (entry : Entry) (others : List Touch) → Conflicts (touches_in set chain entry) others →
    (done : Done) × (done_in entry ≡ Some done) × (done.chain ≡ chain)
hop_of_touch set chain (Begun begun) others conflict = by (same_chain begun.chain chain) refl conflict
  where
    by : (b : Bool) → same_chain begun.chain chain ≡ b → Conflicts (cond b (touched set (begun_as begun).act) []) others →
        (done : Done) × (done_in (Begun begun) ≡ Some done) × (done.chain ≡ chain)
    by true same collide = (begun_as begun, refl, same_name _ _ same)
    by false differ collide = absurd (none_conflict others collide)
hop_of_touch set chain (Refused refused) others conflict = absurd (none_conflict others conflict)
hop_of_touch set chain (HopRan ran) others conflict = by (same_chain ran.message.chain chain) refl conflict
  where
    by : (b : Bool) → same_chain ran.message.chain chain ≡ b → Conflicts (cond b (touched set (ran_as ran).act) []) others →
        (done : Done) × (done_in (HopRan ran) ≡ Some done) × (done.chain ≡ chain)
    by true same collide = (ran_as ran, refl, same_name _ _ same)
    by false differ collide = absurd (none_conflict others collide)

-- an entry that is one of the chain's hops, at its place
abbrev pub hop_stands : (set : Set) (list : List Placed) (chain : ChainId) (place : ℕ) (placed : Placed) → AreLiteralsHome set → IsLegal set list → slice_get list place ≡ Some placed →
    (done : Done) × (done_in placed.entry ≡ Some done) × (done.chain ≡ chain) → HopAt set list chain
hop_stands set list chain place placed is legal there own =
    let stood = stands set list placed legal (in_at list place placed there) in
    let told = is_done set stood.before placed.server placed.entry own.0 is stood.may_follow own.1 in
    record {
      done = own.0;
      chain_is = own.2;
      place = place;
      placed = placed;
      there = there;
      is = own.1;
      in_range = told.in_range;
      lies = told.lies;
      at = told.at;
      origin = told.origin ∙ ap (λ (c : ChainId). Some c.origin) own.2;
      hop_is = ap (λ c. hop_in c placed.entry) (sym own.2) ∙ told.hop_is;
    }

-- an entry in which the chain touched something, at its place
hop_at : (set : Set) (list : List Placed) (chain : ChainId) (place : ℕ) (placed : Placed) (others : List Touch) → AreLiteralsHome set → IsLegal set list →
    slice_get list place ≡ Some placed → Conflicts (touches_in set chain placed.entry) others → HopAt set list chain
hop_at set list chain place placed others is legal there conflict =
    hop_stands set list chain place placed is legal there (hop_of_touch set chain placed.entry others conflict)

-- ---- one precedence

-- a hop of the one chain stands before one of the other, with which it may conflict
pub record Link (set : Set) (list : List Placed) (one other : ChainId) : Type 0 where
  pub different : one ≢ other
  pub left : HopAt set list one
  pub entered : HopAt set list other
  pub in_order : left.place < entered.place
  pub may : MayConflict set left.done.act.program left.done.act.hop entered.done.act.program entered.done.act.hop
  pub same_server : left.placed.server ≡ entered.placed.server

keys_lie : (set : Set) (list : List Placed) (chain : ChainId) (hop : HopAt set list chain) →
    KeysLieAtServer set hop.done.act.program hop.done.act.hop hop.done.act.args
keys_lie set list chain hop =
    All-weaker (LiesAt set hop.placed.server) (λ touch. server_at set hop.done.act.program hop.done.act.hop ≡ Some (server_of set.shards touch.table touch.key))
    (λ touch here. hop.at ∙ ap Some (sym here)) (touched set hop.done.act) hop.lies

pub one_server : (a b : ℕ) → Some a ≡ Some b → a ≡ b
one_server a b e = cc

touches_at : (set : Set) (list : List Placed) (chain : ChainId) (hop : HopAt set list chain) → touches_in set chain hop.placed.entry ≡ touched set hop.done.act
touches_at set list chain hop =
    ap (λ c. touches_in set c hop.placed.entry) (sym hop.chain_is) ∙ touches_are set hop.placed.entry hop.done hop.is

link : (set : Set) (list : List Placed) (one other : ChainId) → AreLiteralsHome set → IsLegal set list → Precedes set list one other → Link set list one other
unfolding hop_at
link set list one other is legal precedes =
    let back = Conflicts-swapped (touches_in set one precedes.first.entry) (touches_in set other precedes.second.entry) precedes.conflict in
    let left = hop_at set list one precedes.place precedes.first (touches_in set other precedes.second.entry) is legal precedes.first_there precedes.conflict in
    let entered = hop_at set list other precedes.later precedes.second (touches_in set one precedes.first.entry) is legal precedes.second_there back in
    let conflict : Conflicts (touched set left.done.act) (touched set entered.done.act) =
    subst (λ t. Conflicts t (touched set entered.done.act)) (touches_at set list one left)
    (subst (Conflicts (touches_in set one precedes.first.entry)) (touches_at set list other entered) precedes.conflict) in
    let may = MayConflict-from_Conflicts set left.done.act.program left.done.act.hop entered.done.act.program entered.done.act.hop
    left.done.act.args entered.done.act.args left.in_range entered.in_range (keys_lie set list one left) (keys_lie set list other entered) conflict in
    record {
      different = precedes.different;
      left = left;
      entered = entered;
      in_order = precedes.in_order;
      may = may;
      same_server = one_server _ _ (sym left.at ∙ may.same_server ∙ entered.at);
    }

-- ---- what is told of two hops

-- hops of one chain are of one program
pub same_program : (set : Set) (list : List Placed) (chain : ChainId) → IsLegal set list → (a b : HopAt set list chain) → a.done.act.program ≡ b.done.act.program
same_program set list chain legal a b =
    program_told a ∙ (known set list legal).one_program chain a.placed b.placed a.done.act.hop b.done.act.hop
    (in_at list a.place a.placed a.there) (in_at list b.place b.placed b.there) a.hop_is b.hop_is ∙ sym (program_told b)
  where
    told : (entry : Entry) (done : Done) → done_in entry ≡ Some done → done.act.program ≡ program_of entry
    told (Begun begun) done is = let same : begun_as begun ≡ done = cc in ap (λ (d : Done). d.act.program) (sym same)
    told (Refused refused) done is = cc
    told (HopRan ran) done is = let same : ran_as ran ≡ done = cc in ap (λ (d : Done). d.act.program) (sym same)

    program_told : (hop : HopAt set list chain) → hop.done.act.program ≡ program_of hop.placed.entry
    program_told hop = told hop.placed.entry hop.done hop.is

-- numbers of a range rise
pub range_rises : (from n a b : ℕ) → StandsBefore a b (range_with_len from n) → a < b
range_rises from zero a b never = absurd never
range_rises from (suc n) a b (inl here) = let least = above_range (from + 1) n b here.1 in let same = here.0 in omega arith
range_rises from (suc n) a b (inr later) = range_rises (from + 1) n a b later

-- hops of a chain rise in the order of their places
pub hops_rise : (set : Set) (list : List Placed) (chain : ChainId) → IsLegal set list → (a b : HopAt set list chain) → a.place < b.place →
    a.done.act.hop < b.done.act.hop
hops_rise set list chain legal a b less =
    let before = before_of_places (λ (p : Placed). hop_in chain p.entry) a.done.act.hop b.done.act.hop list a.place b.place a.placed b.placed
    a.there b.there less a.hop_is b.hop_is in
    range_rises 0 (length (done_hops chain list)) a.done.act.hop b.done.act.hop
    (subst (StandsBefore a.done.act.hop b.done.act.hop) (once_and_in_order set list legal chain) before)

-- a hop of a chain stands at one place
not_before : (set : Set) (list : List Placed) (chain : ChainId) → IsLegal set list → (a b : HopAt set list chain) → a.done.act.hop ≡ b.done.act.hop →
    a.place < b.place → ⊥
not_before set list chain legal a b same less = let rise = hops_rise set list chain legal a b less in omega arith

same_place : (set : Set) (list : List Placed) (chain : ChainId) → IsLegal set list → (a b : HopAt set list chain) → a.done.act.hop ≡ b.done.act.hop →
    a.place ≡ b.place
same_place set list chain legal a b same = elim (cases_lt a.place b.place) [
  | inl less ↦ absurd (not_before set list chain legal a b same less)
  | inr rest ↦ elim (cases_lt b.place a.place) [
    | inl more ↦ absurd (not_before set list chain legal b a (sym same) more)
    | inr other ↦ omega arith
  ]
]

-- of two chains of one origin the one that precedes the other began first
pub index_rises : (set : Set) (list : List Placed) (one other : ChainId) → set.servers ≤ MAX_SERVERS → IsLegal set list → Link set list one other → one.origin ≡ other.origin →
    one.index < other.index
index_rises set list one other few legal link origin = elim (cases_lt one.index other.index) [
  | inl less ↦ less
  | inr rest ↦ elim (cases_lt other.index one.index) [
    | inl more ↦
        let late = origin_order set list few legal other one (sym origin) more link.left.placed.server link.entered.place link.left.place
        (record { placed = link.entered.placed; there = link.entered.there; here = sym link.same_server; hop = link.entered.done.act.hop; is = link.entered.hop_is })
        (record { placed = link.left.placed; there = link.left.there; here = refl; hop = link.left.done.act.hop; is = link.left.hop_is }) in
        let before = link.in_order in
        absurd (omega arith)
    | inr least ↦
        let index : one.index ≡ other.index = omega arith in
        absurd (link.different (λ i. record { origin = origin i; index = index i }))
  ]
]

-- ---- around the cycle

abbrev pub LinksAround : Set → List Placed → ChainId → ChainId → List ChainId → Type 0
LinksAround set list first chain [] = Link set list chain first
LinksAround set list first chain (next ∷ rest) = Link set list chain next × LinksAround set list first next rest

pub links : (set : Set) (list : List Placed) (first chain : ChainId) (rest : List ChainId) → AreLiteralsHome set → IsLegal set list →
    PrecedesAround set list first chain rest → LinksAround set list first chain rest
links set list first chain [] is legal around = link set list chain first is legal around
links set list first chain (next ∷ rest) is legal around = (link set list chain next is legal around.0, links set list first next rest is legal around.1)

-- the hop by which the last chain enters the first
abbrev pub closing : (set : Set) (list : List Placed) (first chain : ChainId) (rest : List ChainId) → LinksAround set list first chain rest → HopAt set list first
closing set list first chain [] around = around.entered
closing set list first chain (next ∷ rest) around = closing set list first next rest around.1

-- the hop by which the chain is left
abbrev pub leaving : (set : Set) (list : List Placed) (first chain : ChainId) (rest : List ChainId) → LinksAround set list first chain rest → HopAt set list chain
leaving set list first chain [] around = around.left
leaving set list first chain (next ∷ rest) around = around.0.left

abbrev pub visit_of : (set : Set) (list : List Placed) (chain : ChainId) → HopAt set list chain → HopAt set list chain → Visit
visit_of set list chain entered left = record { program = entered.done.act.program; entered = entered.done.act.hop; left = left.done.act.hop }

-- the visits behind the first
abbrev pub visits_behind : (set : Set) (list : List Placed) (first chain : ChainId) (rest : List ChainId) → LinksAround set list first chain rest → List Visit
visits_behind set list first chain [] around = []
visits_behind set list first chain (next ∷ rest) around =
    visit_of set list next around.0.entered (leaving set list first next rest around.1) ∷ visits_behind set list first next rest around.1

-- the hops of a link join visits
joins_link : (set : Set) (list : List Placed) (one other : ChainId) → IsLegal set list → (link : Link set list one other) (entered : HopAt set list one) →
    MayConflict set entered.done.act.program link.left.done.act.hop link.entered.done.act.program link.entered.done.act.hop
joins_link set list one other legal link entered =
    subst (λ program. MayConflict set program link.left.done.act.hop link.entered.done.act.program link.entered.done.act.hop)
    (same_program set list one legal link.left entered) link.may

joins : (set : Set) (list : List Placed) (first chain : ChainId) (rest : List ChainId) → IsLegal set list → (around : LinksAround set list first chain rest) →
    (entered : HopAt set list chain) (visit : Visit) → visit.program ≡ (closing set list first chain rest around).done.act.program →
    visit.entered ≡ (closing set list first chain rest around).done.act.hop →
    JoinsAround set visit (visit_of set list chain entered (leaving set list first chain rest around)) (visits_behind set list first chain rest around)
joins set list first chain [] legal around entered visit program hop =
    subst (λ p. MayConflict set entered.done.act.program around.left.done.act.hop p visit.entered) (sym program)
    (subst (λ h. MayConflict set entered.done.act.program around.left.done.act.hop around.entered.done.act.program h) (sym hop)
    (joins_link set list chain first legal around entered))
joins set list first chain (next ∷ rest) legal around entered visit program hop = (
  joins_link set list chain next legal around.0 entered,
  joins set list first next rest legal around.1 around.0.entered visit program hop,
)

pub any-here : {X : Type 0} (P : X → Type 0) (x : X) (xs : List X) → P x → Any P (x ∷ xs)
any-here P x xs holds = (0, x, omega arith, refl, holds)

pub any-later : {X : Type 0} (P : X → Type 0) (x : X) (xs : List X) → Any P xs → Any P (x ∷ xs)
any-later P x xs found = (suc found.0, found.1, omega arith, found.3, found.4)

-- some visit crosses, or places rise to the hop that closes the cycle
crosses_or_rises : (set : Set) (list : List Placed) (first chain : ChainId) (rest : List ChainId) → IsLegal set list → (around : LinksAround set list first chain rest) →
    (entered : HopAt set list chain) →
    Any Crosses (visit_of set list chain entered (leaving set list first chain rest around) ∷ visits_behind set list first chain rest around)
    ⊎ (entered.place < (closing set list first chain rest around).place)
crosses_or_rises set list first chain [] legal around entered = elim (eqb_tells entered.done.act.hop around.left.done.act.hop) [
  | inl same ↦
      let place = same_place set list chain legal entered around.left same.1 in
      let before = around.in_order in
      inr (omega arith)
  | inr differ ↦ inl (any-here Crosses (visit_of set list chain entered around.left) [] differ.1)
]
crosses_or_rises set list first chain (next ∷ rest) legal around entered = elim (crosses_or_rises set list first next rest legal around.1 around.0.entered) [
  | inl found ↦ inl (any-later Crosses (visit_of set list chain entered around.0.left) (visits_behind set list first chain (next ∷ rest) around) found)
  | inr rises ↦ elim (eqb_tells entered.done.act.hop around.0.left.done.act.hop) [
    | inl same ↦
        let place = same_place set list chain legal entered around.0.left same.1 in
        let before = around.0.in_order in
        inr (omega arith)
    | inr differ ↦ inl (any-here Crosses (visit_of set list chain entered around.0.left) (visits_behind set list first chain (next ∷ rest) around) differ.1)
  ]
]

other_origin : (o : Option ℕ) (a b : ℕ) → o ≡ Some a → a ≢ b → o ≢ Some b
other_origin o a b is differ same = differ (one_server a b (sym is ∙ same))

-- some visit is of another origin, or indexes rise to that of the first chain
differ_or_rise : (set : Set) (list : List Placed) (first chain : ChainId) (rest : List ChainId) (origin : ℕ) → set.servers ≤ MAX_SERVERS → IsLegal set list →
    (around : LinksAround set list first chain rest) → first.origin ≡ origin → chain.origin ≡ origin →
    Any (λ visit. origin_of set visit.program ≢ Some origin) (visits_behind set list first chain rest around) ⊎ (chain.index < first.index)
differ_or_rise set list first chain [] origin few legal around home here = inr (index_rises set list chain first few legal around (here ∙ sym home))
differ_or_rise set list first chain (next ∷ rest) origin few legal around home here = elim (eqb_tells next.origin origin) [
  | inl same ↦ elim (differ_or_rise set list first next rest origin few legal around.1 home same.1) [
    | inl found ↦ inl (any-later (λ (visit : Visit). origin_of set visit.program ≢ Some origin)
        (visit_of set list next around.0.entered (leaving set list first next rest around.1)) (visits_behind set list first next rest around.1) found)
    | inr rises ↦
        let one = index_rises set list chain next few legal around.0 (here ∙ sym same.1) in
        inr (omega arith)
  ]
  | inr differ ↦ inl (any-here (λ (visit : Visit). origin_of set visit.program ≢ Some origin)
      (visit_of set list next around.0.entered (leaving set list first next rest around.1)) (visits_behind set list first next rest around.1)
      (other_origin (origin_of set around.0.entered.done.act.program) next.origin origin around.0.entered.origin differ.1))
]

-- where no closed walk offends, there is no cycle
pub no_cycle : (set : Set) (list : List Placed) (chains : List ChainId) → AreLiteralsHome set → set.servers ≤ MAX_SERVERS → IsLegal set list → NoWalkOffends set → IsCycle set list chains → ⊥
no_cycle set list [] is few legal accepted cycle = cycle
no_cycle set list (only ∷ []) is few legal accepted cycle = cycle
no_cycle set list (first ∷ second ∷ rest) is few legal accepted cycle =
    let around = links set list first first (second ∷ rest) is legal cycle.1 in
    let entered = closing set list first first (second ∷ rest) around in
    let start = visit_of set list first entered around.0.left in
    let behind = visits_behind set list first first (second ∷ rest) around in
    elim (crosses_or_rises set list first first (second ∷ rest) legal around entered) [
      | inr rises ↦ omega arith
      | inl crosses ↦ elim (differ_or_rise set list first first (second ∷ rest) first.origin few legal around refl refl) [
        | inr more ↦ omega arith
        | inl differ ↦ accepted (start ∷ behind) (
          joins set list first first (second ∷ rest) legal around entered start refl refl,
          record {
            crosses = crosses;
            differ = any-here (λ visit. Any (λ other. Differ set visit other) (start ∷ behind)) start behind
                (any-later (λ other. Differ set start other) start behind
                (Any-weaker (λ visit. origin_of set visit.program ≢ Some first.origin) (λ other. Differ set start other)
                (λ other apart same. apart (sym same ∙ entered.origin)) behind differ));
          },
        )
      ]
    ]
