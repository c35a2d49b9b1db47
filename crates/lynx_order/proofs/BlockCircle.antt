-- Chains that precede one another around a cycle give a walk of blocks that offends.
use Rattle.std.proofs.Common.{◌≡◌, ◌≢◌, ℕ, ◌<◌, ◌≤◌, List, [], ◌∷◌, length, Some, inl, inr, ◌⊎◌, refl, sym, ap, ◌∙◌, subst, arith}
use Rattle.std.specs.Prelude.{All, Any}
use Rattle.std.proofs.lemmas.Bool.{cases_lt}
use Rattle.std.proofs.lemmas.Bool.Decides.{eqb_tells}
use Rattle.std.proofs.lemmas.List.Elements.{All-cons, All-nil}
use Rattle.lynx_names.specs.declared.chain.ChainId.{ChainId}
use Rattle.lynx_names.specs.declared.limits.TheConstants.{MAX_SERVERS}
use Rattle.lynx_set.specs.Home.{AreLiteralsHome}
use Rattle.lynx_set.specs.Set.{Set}
use Rattle.lynx_set.specs.Lookups.{server_at}
use Rattle.lynx_graph.specs.declared.block.Block.{Block}
use Rattle.lynx_graph.specs.declared.block.Block.TheVariants.{One, Two}
use Rattle.lynx_graph.specs.declared.meeting.Place.{Place}
use Rattle.lynx_graph.specs.Blocks.{entrance_of, exit_of, IsBlock, HasCome, IsForward, Meets, MeetsAround, NoBlockWalkOffends}
use Rattle.lynx_entry.specs.declared.entry.Entry.{Entry}
use Rattle.lynx_entry.specs.declared.entry.Entry.TheVariants.{Begun, Refused, Hop as HopRan}
use Rattle.lynx_rules.specs.Deliveries.{same_chain}
use Rattle.lynx_world.specs.Placed.{Placed}
use Rattle.lynx_world.specs.Legal.{IsLegal}
use Rattle.lynx_world.specs.Order.{hop_in, done_hops}
use Rattle.lynx_world.proofs.Members.{in_range, below_range}
use Rattle.lynx_world.proofs.Once.{chosen_hop, once_and_in_order, same_name}
use Rattle.lynx_world.proofs.Origins.{origin_order}
use Rattle.lynx_order.specs.Lists.{IsIn}
use Rattle.lynx_order.specs.Precedence.{IsCycle}
use Rattle.lynx_order.proofs.Dones.{Done, begun_as, ran_as, done_in}
use Rattle.lynx_order.proofs.Places.{given_in, in_at, place_of_in}
use Rattle.lynx_order.proofs.Circle.{HopAt, Link, LinksAround, any-here, any-later, hop_stands, hops_rise, index_rises, links, one_server, same_program}

-- ---- chains of one origin

-- chains of one origin, of which the first began before the other
abbrev pub BeginsBefore : ChainId → ChainId → Type 0
BeginsBefore one other = (one.origin ≡ other.origin) × (one.index < other.index)

-- the chain itself, or one of its origin that began later
abbrev pub RunsTo : ChainId → ChainId → Type 0
RunsTo one other = (one ≡ other) ⊎ BeginsBefore one other

-- of three chains the first began before the last
begins-onward : (one middle other : ChainId) → BeginsBefore one middle → BeginsBefore middle other → BeginsBefore one other
begins-onward one middle other first second =
    let less = first.1 in
    let more = second.1 in
    (first.0 ∙ second.0, omega arith)

-- a run to a chain, and one from it on, are a run
runs-onward : (one middle other : ChainId) → RunsTo one middle → RunsTo middle other → RunsTo one other
runs-onward one middle other (inl same) runs = subst (λ c. RunsTo c other) (sym same) runs
runs-onward one middle other (inr later) (inl same) = subst (λ c. RunsTo one c) same (inr later)
runs-onward one middle other (inr first) (inr second) = inr (begins-onward one middle other first second)

-- the chains of a run are of one origin
one_origin : (one other : ChainId) → RunsTo one other → one.origin ≡ other.origin
one_origin one other (inl same) = ap (λ (c : ChainId). c.origin) same
one_origin one other (inr later) = later.0

-- ---- stays

-- a hop of some chain, and where it stands
pub record Step (set : Set) (list : List Placed) : Type 0 where
  pub chain : ChainId
  pub hop : HopAt set list chain

-- the hop as a place of the set
abbrev pub place_of : (set : Set) (list : List Placed) → Step set list → Place
place_of set list step = record { program = step.hop.done.act.program; hop = step.hop.done.act.hop }

-- a run of chains of one origin, entered at a hop of the first and left by one of the last
pub record Stay (set : Set) (list : List Placed) : Type 0 where
  pub entered : Step set list
  pub left : Step set list
  pub runs : RunsTo entered.chain left.chain

-- the one hop stands before the other, may conflict with it, and is of another origin
pub record Leads (set : Set) (list : List Placed) (left entered : Step set list) : Type 0 where
  pub in_order : left.hop.place < entered.hop.place
  pub meets : Meets set (place_of set list left) (place_of set list entered)

-- the hop leads to the first of the stays, each of them to the next, and the last to the hop at the end
abbrev pub LeadsThrough : (set : Set) (list : List Placed) → Step set list → Step set list → List (Stay set list) → Type 0
LeadsThrough set list end left [] = Leads set list left end
LeadsThrough set list end left (stay ∷ rest) = Leads set list left stay.entered × LeadsThrough set list end stay.left rest

-- ---- the block of a stay

-- a stay with one chain is a block of one, any longer a block of its first chain and its last
abbrev pub block_by : (set : Set) (list : List Placed) (entered left : Step set list) → RunsTo entered.chain left.chain → Block
block_by set list entered left (inl same) = One entered.hop.done.act.program entered.hop.done.act.hop left.hop.done.act.hop
block_by set list entered left (inr later) =
    Two entered.hop.done.act.program entered.hop.done.act.hop left.hop.done.act.program left.hop.done.act.hop

abbrev pub block_of : (set : Set) (list : List Placed) → Stay set list → Block
block_of set list stay = block_by set list stay.entered stay.left stay.runs

abbrev pub blocks_of : (set : Set) (list : List Placed) → List (Stay set list) → List Block
blocks_of set list [] = []
blocks_of set list (stay ∷ rest) = block_of set list stay ∷ blocks_of set list rest

-- hops of one chain are of one program, whatever names the chain goes by
one_program : (set : Set) (list : List Placed) (one other : ChainId) → IsLegal set list → one ≡ other → (a : HopAt set list one) (b : HopAt set list other) →
    a.done.act.program ≡ b.done.act.program
one_program set list one other legal same a =
    subst (λ c. (b : HopAt set list c) → a.done.act.program ≡ b.done.act.program) same (same_program set list one legal a)

-- the block is entered at the hop at which the stay is
entrance-is : (set : Set) (list : List Placed) (entered left : Step set list) (runs : RunsTo entered.chain left.chain) →
    entrance_of (block_by set list entered left runs) ≡ place_of set list entered
entrance-is set list entered left (inl same) = refl
entrance-is set list entered left (inr later) = refl

-- and left by the hop by which the stay is
exit-is : (set : Set) (list : List Placed) → IsLegal set list → (entered left : Step set list) (runs : RunsTo entered.chain left.chain) →
    exit_of (block_by set list entered left runs) ≡ place_of set list left
exit-is set list legal entered left (inl same) =
    let program = one_program set list entered.chain left.chain legal same entered.hop left.hop in
    λ i. record { program = program i; hop = left.hop.done.act.hop }
exit-is set list legal entered left (inr later) = refl

-- the programs of a stay's chains are of one origin
block_is : (set : Set) (list : List Placed) (entered left : Step set list) (runs : RunsTo entered.chain left.chain) →
    IsBlock set (block_by set list entered left runs)
block_is set list entered left (inl same) = tt
block_is set list entered left (inr later) = entered.hop.origin ∙ ap Some later.0 ∙ sym left.hop.origin

blocks_are : (set : Set) (list : List Placed) (stays : List (Stay set list)) → All (IsBlock set) (blocks_of set list stays)
blocks_are set list [] = All-nil (IsBlock set)
blocks_are set list (stay ∷ rest) =
    All-cons (IsBlock set) (block_of set list stay) (blocks_of set list rest) (block_is set list stay.entered stay.left stay.runs) (blocks_are set list rest)

-- ---- blocks meet

-- where one stay leads to another, its block meets the other's
blocks_meet : (set : Set) (list : List Placed) → IsLegal set list → (stay next : Stay set list) → Leads set list stay.left next.entered →
    Meets set (exit_of (block_of set list stay)) (entrance_of (block_of set list next))
blocks_meet set list legal stay next leads =
    subst (λ place. Meets set place (entrance_of (block_of set list next))) (sym (exit-is set list legal stay.entered stay.left stay.runs))
    (subst (λ place. Meets set (place_of set list stay.left) place) (sym (entrance-is set list next.entered next.left next.runs)) leads.meets)

-- where stays lead around, their blocks meet around
meet_around : (set : Set) (list : List Placed) → IsLegal set list → (first stay : Stay set list) (rest : List (Stay set list)) →
    LeadsThrough set list first.entered stay.left rest →
    MeetsAround set (block_of set list first) (block_of set list stay) (blocks_of set list rest)
meet_around set list legal first stay [] leads = blocks_meet set list legal stay first leads
meet_around set list legal first stay (next ∷ rest) leads = (blocks_meet set list legal stay next leads.0, meet_around set list legal first next rest leads.1)

-- ---- a chain's earlier hops

-- an entry that is a hop of the chain, of that number
done_of_hop : (chain : ChainId) (entry : Entry) (hop : ℕ) → hop_in chain entry ≡ Some hop →
    (done : Done) × (done_in entry ≡ Some done) × (done.chain ≡ chain)
done_of_hop chain (Begun begun) hop is = (begun_as begun, refl, same_name _ _ (chosen_hop (same_chain begun.chain chain) 0 hop is).0)
done_of_hop chain (Refused refused) hop is = cc
done_of_hop chain (HopRan ran) hop is =
    (ran_as ran, refl, same_name _ _ (chosen_hop (same_chain ran.message.chain chain) ran.message.hop hop is).0)

-- where a hop of a chain stands in the list, so does each lower one
lower_hop : (set : Set) (list : List Placed) (chain : ChainId) → AreLiteralsHome set → IsLegal set list → (last : HopAt set list chain) (hop : ℕ) →
    hop ≤ last.done.act.hop → (lower : HopAt set list chain) × (lower.done.act.hop ≡ hop)
lower_hop set list chain is legal last hop upto =
    let order = once_and_in_order set list legal chain in
    let count = length (done_hops chain list) in
    let given = given_in (λ (p : Placed). hop_in chain p.entry) last.placed last.done.act.hop list (in_at list last.place last.placed last.there) last.hop_is in
    let below = below_range 0 count last.done.act.hop (subst (IsIn last.done.act.hop) order given) in
    let lower = subst (IsIn hop) (sym order) (in_range 0 count hop (omega arith) (omega arith)) in
    let found = place_of_in (λ (p : Placed). hop_in chain p.entry) hop list lower in
    let stood = hop_stands set list chain found.0 found.1 is legal found.2 (done_of_hop chain found.1.entry hop found.3) in
    (stood, one_server _ _ (sym stood.hop_is ∙ found.3))

-- ---- places rise

-- no hop of a chain stands before a lower one
hops_keep : (set : Set) (list : List Placed) (one other : ChainId) → IsLegal set list → one ≡ other → (a : HopAt set list one) (b : HopAt set list other) →
    a.done.act.hop ≤ b.done.act.hop → b.place < a.place → ⊥
hops_keep set list one other legal same a =
    subst (λ c. (b : HopAt set list c) → a.done.act.hop ≤ b.done.act.hop → b.place < a.place → ⊥) same
    (λ b upto less. let rise = hops_rise set list one legal b a less in omega arith)

-- where the later chain, by the hop that it is left by, has come to the server where the earlier one was entered, it
-- isn't left before that
come_behind : (set : Set) (list : List Placed) (one other : ChainId) → AreLiteralsHome set → set.servers ≤ MAX_SERVERS → IsLegal set list →
    BeginsBefore one other → (entered : HopAt set list one) (left : HopAt set list other) →
    HasCome set (record { program = entered.done.act.program; hop = entered.done.act.hop }) left.done.act.program left.done.act.hop →
    left.place < entered.place → ⊥
come_behind set list one other is few legal begins entered left come less =
    let found = lower_hop set list other is legal left come.hop come.upto in
    let lower = found.0 in
    let program : left.done.act.program ≡ lower.done.act.program = same_program set list other legal left lower in
    let server : server_at set left.done.act.program come.hop ≡ Some lower.placed.server =
    ap (λ p. server_at set p come.hop) program ∙ ap (server_at set lower.done.act.program) (sym found.1) ∙ lower.at in
    let here = one_server _ _ (sym server ∙ come.own ∙ sym come.there ∙ entered.at) in
    let behind = origin_order set list few legal one other begins.0 begins.1 entered.placed.server entered.place lower.place
    (record { placed = entered.placed; there = entered.there; here = refl; hop = entered.done.act.hop; is = entered.hop_is })
    (record { placed = lower.placed; there = lower.there; here = here; hop = lower.done.act.hop; is = lower.hop_is }) in
    let upto = come.upto in
    let is_hop = found.1 in
    elim (cases_lt left.place lower.place) [
      | inl more ↦ let rise = hops_rise set list other legal left lower more in omega arith
      | inr rest ↦ omega arith
    ]

-- the block of a stay that is left before it is entered isn't forward
backward : (set : Set) (list : List Placed) → AreLiteralsHome set → set.servers ≤ MAX_SERVERS → IsLegal set list → (stay : Stay set list) →
    stay.left.hop.place < stay.entered.hop.place → ¬ IsForward set (block_of set list stay)
backward set list is few legal stay less = by stay.runs
  where
    by : (runs : RunsTo stay.entered.chain stay.left.chain) → ¬ IsForward set (block_by set list stay.entered stay.left runs)
    by (inl same) upto = hops_keep set list stay.entered.chain stay.left.chain legal same stay.entered.hop stay.left.hop upto less
    by (inr later) come =
        come_behind set list stay.entered.chain stay.left.chain is few legal later stay.entered.hop stay.left.hop come less

-- some block isn't forward, or places rise to the hop at the end
backward_or_rises : (set : Set) (list : List Placed) → AreLiteralsHome set → set.servers ≤ MAX_SERVERS → IsLegal set list →
    (end : Step set list) (stay : Stay set list) (rest : List (Stay set list)) → LeadsThrough set list end stay.left rest →
    Any (λ block. ¬ IsForward set block) (block_of set list stay ∷ blocks_of set list rest) ⊎ (stay.entered.hop.place < end.hop.place)
backward_or_rises set list is few legal end stay [] leads = elim (cases_lt stay.left.hop.place stay.entered.hop.place) [
  | inl less ↦ inl (any-here (λ block. ¬ IsForward set block) (block_of set list stay) [] (backward set list is few legal stay less))
  | inr keeps ↦ let before = leads.in_order in inr (omega arith)
]
backward_or_rises set list is few legal end stay (next ∷ rest) leads = elim (backward_or_rises set list is few legal end next rest leads.1) [
  | inl found ↦ inl (any-later (λ block. ¬ IsForward set block) (block_of set list stay) (blocks_of set list (next ∷ rest)) found)
  | inr rises ↦ elim (cases_lt stay.left.hop.place stay.entered.hop.place) [
    | inl less ↦ inl (any-here (λ block. ¬ IsForward set block) (block_of set list stay) (blocks_of set list (next ∷ rest))
        (backward set list is few legal stay less))
    | inr keeps ↦ let before = leads.0.in_order in inr (omega arith)
  ]
]

-- ---- the circle, cut where the origin changes

-- A way from a chain to the first one, cut: the run of the chain is left by a hop, which leads through stays to one at
-- which a run is entered that comes to the first.
pub record Cut (set : Set) (list : List Placed) (first chain : ChainId) : Type 0 where
  pub left : Step set list
  pub runs : RunsTo chain left.chain
  pub stays : List (Stay set list)
  pub entered : Step set list
  pub comes : RunsTo entered.chain first
  pub leads : LeadsThrough set list entered left stays

-- a link of chains of different origins leads
link_leads : (set : Set) (list : List Placed) (one other : ChainId) (link : Link set list one other) → one.origin ≢ other.origin →
    Leads set list (record { chain = one; hop = link.left }) (record { chain = other; hop = link.entered })
link_leads set list one other link differ = record {
  in_order = link.in_order;
  meets = record {
    conflict = link.may;
    apart = λ same. differ (one_server _ _ (sym link.left.origin ∙ same ∙ link.entered.origin));
  };
}

-- of a link's chains, where they are of one origin, the first began before the other
link_begins : (set : Set) (list : List Placed) (one other : ChainId) → set.servers ≤ MAX_SERVERS → IsLegal set list → Link set list one other → one.origin ≡ other.origin →
    BeginsBefore one other
link_begins set list one other few legal link same = (same, index_rises set list one other few legal link same)

-- the way from a chain to the first one can be cut, or is all of one origin, and the chain began before the first
cut_or_runs : (set : Set) (list : List Placed) (first chain : ChainId) (rest : List ChainId) → set.servers ≤ MAX_SERVERS → IsLegal set list →
    LinksAround set list first chain rest → Cut set list first chain ⊎ BeginsBefore chain first
cut_or_runs set list first chain [] few legal link = elim (eqb_tells chain.origin first.origin) [
  | inl same ↦ inr (link_begins set list chain first few legal link same.1)
  | inr differ ↦ inl (record {
    left = record { chain = chain; hop = link.left };
    runs = inl refl;
    stays = [];
    entered = record { chain = first; hop = link.entered };
    comes = inl refl;
    leads = link_leads set list chain first link differ.1;
  })
]
cut_or_runs set list first chain (next ∷ rest) few legal around = elim (eqb_tells chain.origin next.origin) [
  | inl same ↦
      let onward = link_begins set list chain next few legal around.0 same.1 in
      elim (cut_or_runs set list first next rest few legal around.1) [
        | inr runs ↦ inr (begins-onward chain next first onward runs)
        | inl cut ↦ inl (record {
          left = cut.left;
          runs = runs-onward chain next cut.left.chain (inr onward) cut.runs;
          stays = cut.stays;
          entered = cut.entered;
          comes = cut.comes;
          leads = cut.leads;
        })
      ]
  | inr differ ↦
      let leads = link_leads set list chain next around.0 differ.1 in
      elim (cut_or_runs set list first next rest few legal around.1) [
        | inr runs ↦ inl (record {
          left = record { chain = chain; hop = around.0.left };
          runs = inl refl;
          stays = [];
          entered = record { chain = next; hop = around.0.entered };
          comes = inr runs;
          leads = leads;
        })
        | inl cut ↦ inl (record {
          left = record { chain = chain; hop = around.0.left };
          runs = inl refl;
          stays = record { entered = record { chain = next; hop = around.0.entered }; left = cut.left; runs = cut.runs } ∷ cut.stays;
          entered = cut.entered;
          comes = cut.comes;
          leads = (leads, cut.leads);
        })
      ]
]

-- ---- no cycle

-- a hop of one origin leads to none of that origin
leads_away : (set : Set) (list : List Placed) (left entered : Step set list) → Leads set list left entered → entered.chain.origin ≡ left.chain.origin → ⊥
leads_away set list left entered leads same = leads.meets.apart (left.hop.origin ∙ ap Some (sym same) ∙ sym entered.hop.origin)

-- where no walk of blocks offends, no stays lead around
no_stays_around : (set : Set) (list : List Placed) → AreLiteralsHome set → set.servers ≤ MAX_SERVERS → IsLegal set list → NoBlockWalkOffends set →
    (stay : Stay set list) (rest : List (Stay set list)) → LeadsThrough set list stay.entered stay.left rest → ⊥
no_stays_around set list is few legal accepted stay [] leads = leads_away set list stay.left stay.entered leads (one_origin _ _ stay.runs)
no_stays_around set list is few legal accepted stay (next ∷ rest) leads = elim (backward_or_rises set list is few legal stay.entered stay (next ∷ rest) leads) [
  | inr rises ↦ omega arith
  | inl backward ↦ accepted (blocks_of set list (stay ∷ next ∷ rest)) (
    (blocks_are set list (stay ∷ next ∷ rest), meet_around set list legal stay stay (next ∷ rest) leads),
    backward,
  )
]

-- where no walk of blocks offends, there is no cycle
pub no_cycle_by_blocks : (set : Set) (list : List Placed) (chains : List ChainId) → AreLiteralsHome set → set.servers ≤ MAX_SERVERS → IsLegal set list → NoBlockWalkOffends set → IsCycle set list chains → ⊥
no_cycle_by_blocks set list [] is few legal accepted cycle = cycle
no_cycle_by_blocks set list (only ∷ []) is few legal accepted cycle = cycle
no_cycle_by_blocks set list (first ∷ second ∷ rest) is few legal accepted cycle =
    elim (cut_or_runs set list first first (second ∷ rest) few legal (links set list first first (second ∷ rest) is legal cycle.1)) [
      | inr runs ↦ let less = runs.1 in omega arith
      | inl cut ↦ no_stays_around set list is few legal accepted
          (record { entered = cut.entered; left = cut.left; runs = runs-onward cut.entered.chain first cut.left.chain cut.comes cut.runs }) cut.stays cut.leads
    ]
