-- What the search finds is an order that explains, or a cycle.
use Rattle.std.proofs.Common.{◌≡◌, ℕ, ◌<◌, ◌≤◌, Bool, List, [], ◌∷◌, ◌++◌, map, length, inl, inr, Some, slice_get, refl, sym, ap, ◌∙◌, subst}
use Rattle.std.specs.Prelude.{All, IfOk, IsSome, Result, Ok, Err}
use Rattle.lynx_names.specs.declared.chain.ChainId.{ChainId}
use Rattle.lynx_names.specs.declared.limits.TheConstants.{MAX_SERVERS}
use Rattle.lynx_names.specs.declared.memory.Memory.{Memory}
use Rattle.lynx_set.specs.Home.{AreLiteralsHome}
use Rattle.lynx_set.specs.Set.{Set}
use Rattle.lynx_foot.specs.declared.touch.Touch.{Touch}
use Rattle.lynx_foot.specs.Conflicts.{Conflicts}
use Rattle.lynx_foot.proofs.ConflictLaws.{Conflicts-swapped}
use Rattle.lynx_graph.specs.Acceptance.{IsAccepted}
use Rattle.lynx_world.specs.Placed.{Placed}
use Rattle.lynx_world.specs.Legal.{IsLegal}
use Rattle.lynx_order.specs.declared.explained.Explained.{Explained}
use Rattle.lynx_order.specs.declared.explained.Explained.TheVariants.{Order, Cycle}
use Rattle.lynx_order.specs.inner.Begun.{begun_chains}
use Rattle.lynx_order.specs.inner.ChainsAt.{chain_at}
use Rattle.lynx_order.specs.Explained.{CycleIsRight, GivesOrder, IsOrder}
use Rattle.lynx_order.specs.Explanations.{AreTheBegun, request_of}
use Rattle.lynx_order.specs.Lists.{IsIn, AreDifferent, StandsBefore}
use Rattle.lynx_order.specs.inner.Picks.{AreLinked, ArePicked, ComesBefore, IsMarked, IsRound, IsSquare}
use Rattle.lynx_order.specs.Precedence.{IsCycle, KeepsPrecedence, Precedes, PrecedesAround, touches_in}
use Rattle.lynx_order.proofs.ChainForm.{dones_of, told}
use Rattle.lynx_order.proofs.BlockCircle.{no_cycle_by_blocks}
use Rattle.lynx_order.proofs.Circle.{hop_of_touch, no_cycle}
use Rattle.lynx_order.proofs.Dones.{done_in}
use Rattle.lynx_order.proofs.Explains.{has_begun, order_explains, own_dones}
use Rattle.lynx_order.proofs.Found.{begun_once, begun_some, some_begun, edge_precedes, in_place, one_place, place_of, precedes_edge, table_for, table_length, table_square}
use Rattle.lynx_order.specs.Touchings.{touchings_of}
use Rattle.lynx_order.proofs.Marks.{all_of_in}
use Rattle.lynx_order.proofs.Places.{given_in, in_at}

-- ---- mapped lists

in-map : {X Y : Type 0} (f : X → Y) (x : X) (xs : List X) → IsIn x xs → IsIn (f x) (map f xs)
in-map f x [] never = absurd never
in-map f x (y ∷ xs) (inl same) = inl (ap f same)
in-map f x (y ∷ xs) (inr later) = inr (in-map f x xs later)

from-map : {X Y : Type 0} (f : X → Y) (y : Y) (xs : List X) → IsIn y (map f xs) → (x : X) × IsIn x xs × (f x ≡ y)
from-map f y [] never = absurd never
from-map f y (x ∷ xs) (inl same) = (x, inl refl, same)
from-map f y (x ∷ xs) (inr later) = let found = from-map f y xs later in (found.0, inr found.1, found.2)

before-map : {X Y : Type 0} (f : X → Y) (a b : X) (xs : List X) → StandsBefore a b xs → StandsBefore (f a) (f b) (map f xs)
before-map f a b [] never = absurd never
before-map f a b (x ∷ xs) (inl here) = inl (ap f here.0, in-map f b xs here.1)
before-map f a b (x ∷ xs) (inr later) = inr (before-map f a b xs later)

different-map : {X Y : Type 0} (f : X → Y) (xs : List X) → ((a b : X) → IsIn a xs → IsIn b xs → f a ≡ f b → a ≡ b) → AreDifferent xs → AreDifferent (map f xs)
different-map f [] apart once = tt
different-map f (x ∷ xs) apart once = (
  λ there.
      let found = from-map f (f x) xs there in
      once.0 (subst (λ y. IsIn y xs) (apart found.0 x (inr found.1) (inl refl) found.2) found.1),
  different-map f xs (λ a b one two same. apart a b (inr one) (inr two) same) once.1,
)

-- chains of different places below the count
pub different_chains : (chains : List ChainId) (places : List ℕ) → AreDifferent chains → ((place : ℕ) → IsIn place places → place < length chains) →
    AreDifferent places → AreDifferent (map (chain_at chains) places)
different_chains chains places once within different =
    different-map (chain_at chains) places
    (λ a b one two same. one_place chains a b (record { origin = 0; index = 0 }) once (within a one) (within b two) same) different

-- ---- chains that precede have begun

acts_begun : (set : Set) (list : List Placed) (chain : ChainId) (place : ℕ) (placed : Placed) (others : List Touch) → IsLegal set list →
    slice_get list place ≡ Some placed → Conflicts (touches_in set chain placed.entry) others → IsIn chain (begun_chains list)
acts_begun set list chain place placed others legal there conflict =
    let own = hop_of_touch set chain placed.entry others conflict in
    let done = given_in (λ (p : Placed). done_in p.entry) placed own.0 list (in_at list place placed there) own.1 in
    some_begun chain list (subst (λ c. IsSome (request_of list c)) own.2
    (has_begun (request_of list own.0.chain) (dones_of list own.0.chain) own.0 ((told set list legal).form own.0.chain) (own_dones list own.0 done)))

-- ---- an order

-- chains that precede each other have places, of which the first stands before the second
abbrev pub KeepsPlaces : Set → List Placed → List ℕ → Type 0
KeepsPlaces set list order =
    (one other : ChainId) → Precedes set list one other →
    (first : ℕ) × (second : ℕ) × (chain_at (begun_chains list) first ≡ one) × (chain_at (begun_chains list) second ≡ other) × StandsBefore first second order

-- an order of the places of all begun chains, each once, that keeps what precedes what
pub order_right : (set : Set) (list : List Placed) (order : List ℕ) → IsLegal set list → AreDifferent order →
    ((place : ℕ) → IsIn place order → place < length (begun_chains list)) → ((place : ℕ) → place < length (begun_chains list) → IsIn place order) →
    KeepsPlaces set list order → IsOrder set list (map (chain_at (begun_chains list)) order)
order_right set list order legal once within all keeps_places =
    let begun : AreTheBegun list (map (chain_at (begun_chains list)) order) = record {
      each = λ chain. (
        λ there.
            let found = from-map (chain_at (begun_chains list)) chain order there in
            begun_some chain list (subst (λ c. IsIn c (begun_chains list)) found.2
            (in_place (begun_chains list) found.0 (record { origin = 0; index = 0 }) (within found.0 found.1))),
        λ some.
            let at = place_of (begun_chains list) chain (record { origin = 0; index = 0 }) (some_begun chain list some) in
            subst (λ c. IsIn c (map (chain_at (begun_chains list)) order)) at.2
            (in-map (chain_at (begun_chains list)) at.0 order (all at.0 at.1)),
      );
      once = different_chains (begun_chains list) order (begun_once set list legal) within once;
    } in
    let keeps : KeepsPrecedence set list (map (chain_at (begun_chains list)) order) = λ one other precedes.
    let at = keeps_places one other precedes in
    subst (λ c. StandsBefore c other (map (chain_at (begun_chains list)) order)) at.2
    (subst (λ c. StandsBefore (chain_at (begun_chains list) at.0) c (map (chain_at (begun_chains list)) order)) at.3
    (before-map (chain_at (begun_chains list)) at.0 at.1 order at.4)) in
    record {
      the_begun = begun;
      in_order = keeps;
      explains = λ is. order_explains set list (map (chain_at (begun_chains list)) order) is legal begun keeps;
    }

pub order_found : (set : Set) (list : List Placed) (picked : List ℕ) (left : List Bool) → IsLegal set list →
    ArePicked (table_for set list (begun_chains list)) picked left → ((place : ℕ) → IsMarked left place → ⊥) →
    IsOrder set list (map (chain_at (begun_chains list)) picked)
order_found set list picked left legal are none =
    order_right set list picked legal are.once within all (λ one other precedes.
    let back = Conflicts-swapped (touches_in set one precedes.first.entry) (touches_in set other precedes.second.entry) precedes.conflict in
    let first = place_of (begun_chains list) one (record { origin = 0; index = 0 })
    (acts_begun set list one precedes.place precedes.first (touches_in set other precedes.second.entry) legal precedes.first_there precedes.conflict) in
    let second = place_of (begun_chains list) other (record { origin = 0; index = 0 })
    (acts_begun set list other precedes.later precedes.second (touches_in set one precedes.first.entry) legal precedes.second_there back) in
    let edge = precedes_edge set list (begun_chains list) first.0 second.0 first.1 second.1
    (subst (λ c. Precedes set list c (chain_at (begun_chains list) second.0)) (sym first.2) (subst (Precedes set list one) (sym second.2) precedes)) in
    (first.0, second.0, first.2, second.2, are.in_order first.0 second.0 (subst (λ n. first.0 < n) (sym whole) first.1) (all second.0 second.1) edge))
  where
    whole : length (table_for set list (begun_chains list)) ≡ length (begun_chains list)
    whole = table_length set list (begun_chains list)

    within : (place : ℕ) → IsIn place picked → place < length (begun_chains list)
    within place there = subst (λ n. place < n) whole (are.within place there)

    all : (place : ℕ) → place < length (begun_chains list) → IsIn place picked
    all place below = elim (are.either place (subst (λ n. place < n) (sym whole) below)) [
      | inl there ↦ there
      | inr marked ↦ absurd (none place marked)
    ]

-- ---- a cycle

around : (set : Set) (list : List Placed) (chains : List ChainId) (first place : ℕ) (rest : List ℕ) → AreDifferent chains →
    first < length chains → ((other : ℕ) → IsIn other (place ∷ rest) → other < length chains) →
    AreLinked (ComesBefore (table_for set list chains)) (place ∷ (rest ++ first ∷ [])) →
    PrecedesAround set list (chain_at chains first) (chain_at chains place) (map (chain_at chains) rest)
around set list chains first place [] once home within linked =
    edge_precedes set list chains place first once (within place (inl refl)) home linked.0
around set list chains first place (next ∷ rest) once home within linked = (
  edge_precedes set list chains place next once (within place (inl refl)) (within next (inr (inl refl))) linked.0,
  around set list chains first next rest once home (λ other there. within other (inr there)) linked.1,
)

round_cycle : (set : Set) (list : List Placed) (chains : List ChainId) (first : ℕ) (rest : List ℕ) → AreDifferent chains → AreDifferent (first ∷ rest) →
    ((other : ℕ) → IsIn other (first ∷ rest) → other < length chains) →
    AreLinked (ComesBefore (table_for set list chains)) (first ∷ (rest ++ first ∷ [])) →
    IsCycle set list (map (chain_at chains) (first ∷ rest))
round_cycle set list chains first [] once different within linked =
    (edge_precedes set list chains first first once (within first (inl refl)) (within first (inl refl)) linked.0).different refl
round_cycle set list chains first (second ∷ rest) once different within linked = (
  different_chains chains (first ∷ second ∷ rest) once within different,
  around set list chains first first (second ∷ rest) once (within first (inl refl)) within linked,
)

pub cycle_found : (set : Set) (list : List Placed) (places : List ℕ) → IsLegal set list → IsRound (table_for set list (begun_chains list)) places →
    IsCycle set list (map (chain_at (begun_chains list)) places)
cycle_found set list places legal round =
    let whole = table_length set list (begun_chains list) in
    subst (λ l. IsCycle set list (map (chain_at (begun_chains list)) l)) (sym round.whole)
    (round_cycle set list (begun_chains list) round.first round.rest (begun_once set list legal)
    (subst AreDifferent round.whole round.once)
    (λ other there. subst (λ n. other < n) whole (round.within other (subst (IsIn other) (sym round.whole) there)))
    (subst (λ l. AreLinked (ComesBefore (table_for set list (begun_chains list))) (l ++ round.first ∷ [])) round.whole round.linked))

-- ---- accepted sets

-- by either reason there is no cycle
pub no_cycle_accepted : (set : Set) (list : List Placed) (chains : List ChainId) → AreLiteralsHome set → set.servers ≤ MAX_SERVERS → IsLegal set list → IsAccepted set → IsCycle set list chains → ⊥
no_cycle_accepted set list chains is few legal (inl no_walk) = no_cycle set list chains is few legal no_walk
no_cycle_accepted set list chains is few legal (inr no_blocks) = no_cycle_by_blocks set list chains is few legal no_blocks

pub accepted_order : (set : Set) (list : List Placed) (explained : Explained) → set.servers ≤ MAX_SERVERS → IsLegal set list → CycleIsRight set list explained → AreLiteralsHome set → IsAccepted set →
    GivesOrder explained
accepted_order set list (Order chains) few legal right is accepted = tt
accepted_order set list (Cycle chains) few legal right is accepted = no_cycle_accepted set list chains is few legal accepted right

-- ---- what the search computes

-- the chains and the table that the search goes by
pub record IsSearched (set : Set) (list : List Placed) (chains : List ChainId) (table : List (List Bool)) : Type 0 where
  pub chains_are : chains ≡ begun_chains list
  pub table_is : table ≡ table_for set list (begun_chains list)

pub square : (set : Set) (list : List Placed) (chains : List ChainId) (table : List (List Bool)) → IsSearched set list chains table → IsSquare table
square set list chains table are = subst IsSquare (sym are.table_is) (table_square (map (touchings_of set list) (begun_chains list)))

places_within : (set : Set) (list : List Placed) (chains : List ChainId) (table : List (List Bool)) (places : List ℕ) → IsSearched set list chains table →
    ((place : ℕ) → IsIn place places → place < length table) → All (λ place. place < length chains) places
places_within set list chains table places are within =
    let whole : length table ≡ length chains = ap length are.table_is ∙ table_length set list (begun_chains list) ∙ ap length (sym are.chains_are) in
    all_of_in (λ place. place < length chains) places (λ place there. subst (λ n. place < n) whole (within place there))

pub picked_within : (set : Set) (list : List Placed) (chains : List ChainId) (table : List (List Bool)) (order places : List ℕ) (left : List Bool) → IsSearched set list chains table →
    ArePicked table order left → places ≡ order → All (λ place. place < length chains) places
picked_within set list chains table order places left are picked same = places_within set list chains table places are (λ place there. picked.within place (subst (IsIn place) same there))

pub round_within : (set : Set) (list : List Placed) (chains : List ChainId) (table : List (List Bool)) (round places : List ℕ) → IsSearched set list chains table →
    IsRound table round → places ≡ round → All (λ place. place < length chains) places
round_within set list chains table round places are is same = places_within set list chains table places are (λ place there. is.within place (subst (IsIn place) same there))

pub order_given : (set : Set) (list : List Placed) (chains found : List ChainId) (table : List (List Bool)) (order places : List ℕ) (left marks : List Bool) → IsLegal set list →
    IsSearched set list chains table → ArePicked table order left → places ≡ order → marks ≡ left → ((place : ℕ) → IsMarked marks place → ⊥) →
    found ≡ map (chain_at chains) places → IsOrder set list found
order_given set list chains found table order places left marks legal are picked same unmarked none is =
    subst (IsOrder set list) (sym (is ∙ ap (λ cs. map (chain_at cs) places) are.chains_are ∙ ap (map (chain_at (begun_chains list))) same))
    (order_found set list order left legal (subst (λ t. ArePicked t order left) are.table_is picked) (λ place marked. none place (subst (λ m. IsMarked m place) (sym unmarked) marked)))

pub cycle_given : (set : Set) (list : List Placed) (chains found : List ChainId) (table : List (List Bool)) (round places : List ℕ) → IsLegal set list →
    IsSearched set list chains table → IsRound table round → places ≡ round → found ≡ map (chain_at chains) places → IsCycle set list found
cycle_given set list chains found table round places legal are is same found_is =
    subst (IsCycle set list) (sym (found_is ∙ ap (λ cs. map (chain_at cs) places) are.chains_are ∙ ap (map (chain_at (begun_chains list))) same))
    (cycle_found set list round legal (subst (λ t. IsRound t round) are.table_is is))

pub accepted_given : (set : Set) (list : List Placed) (result : Result Explained Memory) → set.servers ≤ MAX_SERVERS → IsLegal set list → IfOk result (λ explained. CycleIsRight set list explained) →
    IfOk result (λ explained. AreLiteralsHome set → IsAccepted set → GivesOrder explained)
accepted_given set list (Ok explained) few legal right = λ is accepted. accepted_order set list explained few legal right is accepted
accepted_given set list (Err memory) few legal right = right
