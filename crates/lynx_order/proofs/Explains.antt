-- An order of the begun chains in which a chain stands before those that it precedes explains a legal list.
use Rattle.std.proofs.Common.{◌≡◌, ℕ, ◌≤◌, Bool, true, false, cond, List, [], ◌∷◌, ◌++◌, length, Option, Some, None, filter, inl, inr, ◌⊎◌, refl, sym, ap, ◌∙◌, subst, arith}
use Rattle.std.specs.Prelude.{IsSome}
use Rattle.std.specs.List.{flat_map}
use Rattle.std.proofs.lemmas.List.{length-append}
use Rattle.lynx_names.specs.declared.chain.ChainId.{ChainId}
use Rattle.lynx_cells.specs.Database.{empty_database}
use Rattle.lynx_set.specs.Home.{AreLiteralsHome}
use Rattle.lynx_set.specs.Set.{Set}
use Rattle.lynx_foot.specs.Conflicts.{Conflicts}
use Rattle.lynx_commute.specs.Acts.{Act, touched}
use Rattle.lynx_entry.specs.declared.entry.Entry.{Entry}
use Rattle.lynx_entry.specs.declared.entry.Entry.TheVariants.{Begun, Refused, Hop as HopRan}
use Rattle.lynx_entry.specs.declared.request.Request.{Request}
use Rattle.lynx_rules.specs.Deliveries.{same_chain}
use Rattle.lynx_world.specs.Placed.{Placed}
use Rattle.lynx_world.specs.Legal.{IsLegal}
use Rattle.lynx_world.proofs.Once.{same_chain-self, same_name}
use Rattle.lynx_order.specs.Lists.{IsIn, AreDifferent, StandsBefore}
use Rattle.lynx_order.specs.Explanations.{AreTheBegun, IsExplanation, request_of}
use Rattle.lynx_order.specs.Precedence.{KeepsPrecedence, Precedes, touches_in}
use Rattle.lynx_order.proofs.Lists.{before-first, before-second, different-append}
use Rattle.lynx_order.proofs.Places.{in-filter, from-filter, before-filter, in-flat_map, from-flat_map, before-flat_map_one, before-flat_map_two, places_of_before}
use Rattle.lynx_order.proofs.Dones.{Done, begun_as, ran_as, done_in, dones}
use Rattle.lynx_order.proofs.ChainForm.{Form, IsChainOf, dones_of, told}
use Rattle.lynx_order.proofs.OneDatabase.{Replays, replayed, may_swap, one_database}
use Rattle.lynx_order.proofs.Reorder.{IsReordered, reordered}
use Rattle.lynx_order.proofs.Serial.{AllBegun, serial_runs}

-- ---- each hop once

-- a call's hops from one on have at least its number
hop_from : (program : ℕ) (args : List ℕ) (earlier : List (List ℕ)) (list : List Done) (done : Done) → IsChainOf program args earlier list → IsIn done list →
    length earlier ≤ done.act.hop
hop_from program args earlier [] done chain never = absurd never
hop_from program args earlier (first ∷ list) done chain (inl same) =
    let hop : done.act.hop ≡ length earlier = ap (λ (d : Done). d.act.hop) (sym same) ∙ ap (λ (a : Act). a.hop) chain.0 in omega arith
hop_from program args earlier (first ∷ list) done chain (inr later) =
    let more = hop_from program args (earlier ++ first.results ∷ []) list done chain.1 later in
    let one = length-append earlier (first.results ∷ []) in omega arith

chain_different : (program : ℕ) (args : List ℕ) (earlier : List (List ℕ)) (list : List Done) → IsChainOf program args earlier list → AreDifferent list
chain_different program args earlier [] chain = tt
chain_different program args earlier (first ∷ list) chain = (
  λ there.
      let more = hop_from program args (earlier ++ first.results ∷ []) list first chain.1 there in
      let one = length-append earlier (first.results ∷ []) in
      let hop : first.act.hop ≡ length earlier = ap (λ (a : Act). a.hop) chain.0 in
      absurd (omega arith),
  chain_different program args (earlier ++ first.results ∷ []) list chain.1,
)

form_different : (o : Option Request) (list : List Done) → Form o list → AreDifferent list
form_different None list form = subst AreDifferent (sym form) tt
form_different (Some request) list form = chain_different request.program request.args [] list form.0

-- hops are different where those of each chain are
all_different : (list : List Done) → ((chain : ChainId) → AreDifferent (filter (λ done. same_chain done.chain chain) list)) → AreDifferent list
all_different [] each = tt
all_different (first ∷ list) each = (
  λ there.
      let own = subst (λ b. AreDifferent (cond b (first ∷ filter (λ done. same_chain done.chain first.chain) list) (filter (λ done. same_chain done.chain first.chain) list)))
      (same_chain-self first.chain) (each first.chain) in
      own.0 (in-filter (λ done. same_chain done.chain first.chain) first list (same_chain-self first.chain) there),
  all_different list (λ chain. behind chain (same_chain first.chain chain) (each chain)),
)
  where
    behind : (chain : ChainId) (b : Bool) →
        AreDifferent (cond b (first ∷ filter (λ done. same_chain done.chain chain) list) (filter (λ done. same_chain done.chain chain) list)) →
        AreDifferent (filter (λ done. same_chain done.chain chain) list)
    behind chain true once = once.1
    behind chain false once = once

-- ---- chain by chain

chain_of : (list : List Placed) (chain : ChainId) (done : Done) → IsIn done (dones_of list chain) → done.chain ≡ chain
chain_of list chain done there = same_name _ _ (from-filter (λ d. same_chain d.chain chain) done (dones list) there).0

flat_different : (list : List Placed) (chains : List ChainId) → ((chain : ChainId) → AreDifferent (dones_of list chain)) → AreDifferent chains →
    AreDifferent (flat_map (dones_of list) chains)
flat_different list [] each once = tt
flat_different list (chain ∷ chains) each once =
    different-append (dones_of list chain) (flat_map (dones_of list) chains) (each chain) (flat_different list chains each once.1)
    (λ done here there.
    let found = from-flat_map (dones_of list) done chains there in
    let same : found.0 ≡ chain = sym (chain_of list found.0 done found.2) ∙ chain_of list chain done here in
    once.0 (subst (λ c. IsIn c chains) same found.1))

-- the chain of a hop has begun
pub has_begun : (o : Option Request) (list : List Done) (done : Done) → Form o list → IsIn done list → IsSome o
has_begun None list done form there = absurd (subst (IsIn done) form there)
has_begun (Some request) list done form there = refl

pub own_dones : (list : List Placed) (done : Done) → IsIn done (dones list) → IsIn done (dones_of list done.chain)
own_dones list done there = in-filter (λ d. same_chain d.chain done.chain) done (dones list) (same_chain-self done.chain) there

-- ---- precedence

-- what the entry of a hop touched
pub touches_are : (set : Set) (entry : Entry) (done : Done) → done_in entry ≡ Some done → touches_in set done.chain entry ≡ touched set done.act
touches_are set (Begun begun) done is =
    let same : begun_as begun ≡ done = cc in
    subst (λ (d : Done). touches_in set d.chain (Begun begun) ≡ touched set d.act) same
    (ap (λ b. cond b (touched set (begun_as begun).act) []) (same_chain-self begun.chain))
touches_are set (Refused refused) done is = cc
touches_are set (HopRan ran) done is =
    let same : ran_as ran ≡ done = cc in
    subst (λ (d : Done). touches_in set d.chain (HopRan ran) ≡ touched set d.act) same
    (ap (λ b. cond b (touched set (ran_as ran).act) []) (same_chain-self ran.message.chain))

-- hops of one chain, or hops that conflict
abbrev pub Collides : Set → Done → Done → Type 0
Collides set one other = (one.chain ≡ other.chain) ⊎ Conflicts (touched set one.act) (touched set other.act)

precedes : (set : Set) (list : List Placed) (one other : Done) → same_chain one.chain other.chain ≡ false →
    Conflicts (touched set one.act) (touched set other.act) → StandsBefore one other (dones list) → Precedes set list one.chain other.chain
precedes set list one other differ conflict before =
    let at = places_of_before (λ (p : Placed). done_in p.entry) one other list before in
    record {
      different = λ same. collide (sym (ap (λ c. same_chain c other.chain) same ∙ same_chain-self other.chain) ∙ differ);
      place = at.place;
      later = at.later;
      in_order = at.in_order;
      first = at.first;
      second = at.second;
      first_there = at.first_there;
      second_there = at.second_there;
      conflict = subst (λ t. Conflicts t (touches_in set other.chain at.second.entry)) (sym (touches_are set at.first.entry one at.first_gives))
          (subst (Conflicts (touched set one.act)) (sym (touches_are set at.second.entry other at.second_gives)) conflict);
    }
  where
    collide : true ≡ false → ⊥
    collide e = cc

-- ---- the order

in_order : (set : Set) (list : List Placed) (chains : List ChainId) → ((done : Done) → IsIn done (dones list) → IsIn done.chain chains) →
    KeepsPrecedence set list chains → (one other : Done) → StandsBefore one other (dones list) → Collides set one other →
    StandsBefore one other (flat_map (dones_of list) chains)
in_order set list chains there keeps one other before collide = by (same_chain one.chain other.chain) refl collide
  where
    here : IsIn one (dones list)
    here = before-first one other (dones list) before

    by : (b : Bool) → same_chain one.chain other.chain ≡ b → Collides set one other → StandsBefore one other (flat_map (dones_of list) chains)
    by true same collide =
        before-flat_map_one (dones_of list) other.chain one other chains (there other (before-second one other (dones list) before))
        (before-filter (λ d. same_chain d.chain other.chain) one other (dones list) same (same_chain-self other.chain) before)
    by false differ (inl same) = absurd (never (sym (ap (λ c. same_chain c other.chain) same ∙ same_chain-self other.chain) ∙ differ))
      where
        never : true ≡ false → ⊥
        never e = cc
    by false differ (inr conflict) =
        before-flat_map_two (dones_of list) one.chain other.chain one other chains (keeps one.chain other.chain (precedes set list one other differ conflict before))
        (own_dones list one here) (own_dones list other (before-second one other (dones list) before))

all_begun : (list : List Placed) (chains : List ChainId) → ((chain : ChainId) → IsIn chain chains → IsSome (request_of list chain)) → AllBegun list chains
all_begun list [] each = tt
all_begun list (chain ∷ chains) each = (each chain (inl refl), all_begun list chains (λ c there. each c (inr there)))

-- each order of the begun chains that respects precedence explains the list
pub order_explains : (set : Set) (list : List Placed) (chains : List ChainId) → AreLiteralsHome set → IsLegal set list → AreTheBegun list chains →
    KeepsPrecedence set list chains → IsExplanation set list chains
order_explains set list chains is legal begun keeps =
    let one = one_database set list is legal in
    let form = (told set list legal).form in
    let each : (chain : ChainId) → AreDifferent (dones_of list chain) = λ chain. form_different (request_of list chain) (dones_of list chain) (form chain) in
    let there : (done : Done) → IsIn done (dones list) → IsIn done.chain chains = λ done at.
    (begun.each done.chain).1 (has_begun (request_of list done.chain) (dones_of list done.chain) done (form done.chain) (own_dones list done at)) in
    let same : IsReordered (Collides set) (dones list) (flat_map (dones_of list) chains) = record {
      there = λ done at. in-flat_map (dones_of list) done.chain done chains (there done at) (own_dones list done at);
      back = λ done at. let found = from-flat_map (dones_of list) done chains at in (from-filter (λ d. same_chain d.chain found.0) done (dones list) found.2).1;
      once = all_different (dones list) each;
      once_too = flat_different list chains each begun.once;
      in_order = in_order set list chains there keeps;
    } in
    let runs = reordered (Replays set) (replayed set) (Collides set) (may_swap set (Collides set) (λ a b none conflict. none (inr conflict))) one.last
    (dones list) (flat_map (dones_of list) chains) same empty_database one.runs in
    record {
      the_begun = begun;
      last = one.last;
      runs = serial_runs set list chains empty_database one.last form (all_begun list chains (λ chain at. (begun.each chain).0 at)) runs;
      tables = one.tables;
    }
