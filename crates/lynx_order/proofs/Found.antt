-- The table tells which begun chains precede which; an order and a cycle by it are an order and a cycle of chains.
use Rattle.std.proofs.Common.{◌≡◌, ◌≢◌, ℕ, zero, suc, ◌+◌, ◌<◌, Bool, true, false, cond, not, ◌&&◌, ◌||◌, List, [], ◌∷◌, map, length, get_or, Option, Some, None, nat_eq, nat_lt, slice_get, inl, inr, refl, sym, ap, ◌∙◌, subst, arith}
use Rattle.std.specs.Prelude.{IsSome}
use Rattle.std.specs.List.{cons_option, list_any, range_with_len}
use Rattle.std.specs.Option.{option_or}
use Rattle.std.proofs.lemmas.Bool.{lt-ltb, ltb-true}
use Rattle.std.proofs.lemmas.Bool.Decides.{eqb_tells}
use Rattle.std.proofs.lemmas.List.{length-map}
use Rattle.lynx_names.specs.declared.chain.ChainId.{ChainId}
use Rattle.lynx_set.specs.Set.{Set}
use Rattle.lynx_foot.specs.declared.touch.Touch.{Touch}
use Rattle.lynx_foot.specs.Conflicts.{Conflicts}
use Rattle.lynx_foot.proofs.ConflictLaws.{Conflicts-swapped}
use Rattle.lynx_foot.specs.Tests.{some_collide}
use Rattle.lynx_foot.proofs.Decides.{Decides-some_collide}
use Rattle.lynx_entry.specs.declared.entry.Entry.{Entry}
use Rattle.lynx_entry.specs.declared.entry.Entry.TheVariants.{Begun, Refused, Hop as HopRan}
use Rattle.lynx_entry.specs.declared.request.Request.{Request}
use Rattle.lynx_rules.specs.Deliveries.{same_chain}
use Rattle.lynx_world.specs.Placed.{Placed}
use Rattle.lynx_world.specs.Legal.{IsLegal}
use Rattle.lynx_world.specs.Order.{hop_in, done_hops}
use Rattle.lynx_world.proofs.Once.{both, once_and_in_order, same_chain-self, same_name}
use Rattle.lynx_world.proofs.Tests.{and-true}
use Rattle.lynx_order.specs.declared.touching.Touching.{Touching}
use Rattle.lynx_order.specs.inner.Begun.{begun_chains, begun_in, chain_begun}
use Rattle.lynx_order.specs.inner.ChainsAt.{chain_at}
use Rattle.lynx_order.specs.Explanations.{request_in, request_of}
use Rattle.lynx_order.specs.Lists.{IsIn, AreDifferent, StandsBefore}
use Rattle.lynx_order.specs.inner.Picks.{ComesBefore, IsSquare}
use Rattle.lynx_order.specs.Precedence.{Precedes, touches_in}
use Rattle.lynx_order.specs.Touchings.{stands_before, meet, precede_at, row_of, table_of, touchings_from, touchings_of}
use Rattle.lynx_order.proofs.Circle.{range_rises}
use Rattle.lynx_order.proofs.Places.{before_of_places, places_of_before}

-- ---- tables

pub get_or-map_range : {X : Type 0} (f : ℕ → X) (from n i : ℕ) (d : X) → i < n → get_or (map f (range_with_len from n)) i d ≡ f (from + i)
get_or-map_range f from zero i d within = absurd (omega arith)
get_or-map_range f from (suc n) zero d within = ap f (omega arith)
get_or-map_range f from (suc n) (suc i) d within = get_or-map_range f (from + 1) n i d (omega arith) ∙ ap f (omega arith)

pub length-map_range : {X : Type 0} (f : ℕ → X) (from n : ℕ) → length (map f (range_with_len from n)) ≡ n
length-map_range f from zero = refl
length-map_range f from (suc n) = let rest = length-map_range f (from + 1) n in omega arith

pub get_or-mapped : {X Y : Type 0} (f : X → Y) (xs : List X) (i : ℕ) (d : X) (e : Y) → i < length xs → get_or (map f xs) i e ≡ f (get_or xs i d)
get_or-mapped f [] i d e within = absurd (omega arith)
get_or-mapped f (x ∷ xs) zero d e within = refl
get_or-mapped f (x ∷ xs) (suc i) d e within = get_or-mapped f xs i d e (omega arith)

-- the table of so many chains is square
pub table_square : (all : List (List Touching)) → IsSquare (table_of all)
table_square all place within =
    let n = length all in
    let whole = length-map_range (row_of all) 0 n in
    ap length (get_or-map_range (row_of all) 0 n place [] (omega arith)) ∙ length-map_range (precede_at all (0 + place)) 0 n ∙ sym whole

-- what the table has at two places
table_has : (all : List (List Touching)) (one other : ℕ) → one < length all → other < length all →
    get_or (get_or (table_of all) other []) one false ≡ precede_at all other one
table_has all one other first second =
    let n = length all in
    ap (λ row. get_or row one false) (get_or-map_range (row_of all) 0 n other [] second ∙ ap (row_of all) (omega arith))
    ∙ get_or-map_range (precede_at all other) 0 n one false first
    ∙ ap (precede_at all other) (omega arith)

-- ---- touching hops

pub any_in : {X : Type 0} (test : X → Bool) (xs : List X) → list_any test xs ≡ true → (x : X) × IsIn x xs × (test x ≡ true)
any_in test [] is = cc
any_in {X} test (first ∷ xs) is = by (test first) refl is (any_in test xs)
  where
    by : (b : Bool) → test first ≡ b → (b || list_any test xs) ≡ true → (list_any test xs ≡ true → (x : X) × IsIn x xs × (test x ≡ true)) →
        (x : X) × IsIn x (first ∷ xs) × (test x ≡ true)
    by true same any rest = (first, inl refl, same)
    by false same any rest = let found = rest any in (found.0, inr found.1, found.2)

any_of : {X : Type 0} (test : X → Bool) (xs : List X) (x : X) → IsIn x xs → test x ≡ true → list_any test xs ≡ true
any_of test [] x never passes = absurd never
any_of test (first ∷ xs) x (inl same) passes = ap (λ b. b || list_any test xs) (ap test same ∙ passes)
any_of test (first ∷ xs) x (inr later) passes = behind (test first) (any_of test xs x later passes)
  where
    behind : (b : Bool) → list_any test xs ≡ true → (b || list_any test xs) ≡ true
    behind true there = refl
    behind false there = there

-- a touching hop stands in the list
record StandsIn (set : Set) (chain : ChainId) (from : ℕ) (list : List Placed) (hop : Touching) : Type 0 where
  offset : ℕ
  placed : Placed
  place_is : hop.place ≡ from + offset
  there : slice_get list offset ≡ Some placed
  touches_are : hop.touches ≡ touches_in set chain placed.entry

stands_more : (set : Set) (chain : ChainId) (from : ℕ) (first : Placed) (list : List Placed) (hop : Touching) → StandsIn set chain (from + 1) list hop →
    StandsIn set chain from (first ∷ list) hop
stands_more set chain from first list hop old = record {
  offset = suc old.offset;
  placed = old.placed;
  place_is = old.place_is ∙ (omega arith);
  there = old.there;
  touches_are = old.touches_are;
}

touching_stands : (set : Set) (chain : ChainId) (from : ℕ) (list : List Placed) (hop : Touching) → IsIn hop (touchings_from set chain from list) → StandsIn set chain from list hop
touching_stands set chain from [] hop never = absurd never
touching_stands set chain from (first ∷ list) hop there =
    by (nat_eq (length (touches_in set chain first.entry)) 0) there (touching_stands set chain (from + 1) list hop)
  where
    by : (b : Bool) → IsIn hop (cons_option (cond b None (Some (record { place = from; touches = touches_in set chain first.entry }))) (touchings_from set chain (from + 1) list)) →
        (IsIn hop (touchings_from set chain (from + 1) list) → StandsIn set chain (from + 1) list hop) → StandsIn set chain from (first ∷ list) hop
    by true later rest = stands_more set chain from first list hop (rest later)
    by false (inr later) rest = stands_more set chain from first list hop (rest later)
    by false (inl same) rest = record {
      offset = 0;
      placed = first;
      place_is = ap (λ (t : Touching). t.place) (sym same) ∙ (omega arith);
      there = refl;
      touches_are = ap (λ (t : Touching). t.touches) (sym same);
    }

touching_there : (set : Set) (chain : ChainId) (from : ℕ) (list : List Placed) (offset : ℕ) (placed : Placed) → slice_get list offset ≡ Some placed →
    nat_eq (length (touches_in set chain placed.entry)) 0 ≡ false →
    IsIn (record { place = from + offset; touches = touches_in set chain placed.entry }) (touchings_from set chain from list)
touching_there set chain from [] offset placed there some = cc
touching_there set chain from (first ∷ list) zero placed there some =
    let same : first ≡ placed = cc in
    subst (λ b. IsIn (record { place = from + 0; touches = touches_in set chain placed.entry }) (cons_option (cond b None (Some (record { place = from; touches = touches_in set chain first.entry }))) (touchings_from set chain (from + 1) list)))
    (sym (ap (λ (p : Placed). nat_eq (length (touches_in set chain p.entry)) 0) same ∙ some))
    (let at : from ≡ from + 0 = omega arith in inl (λ i. record { place = at i; touches = touches_in set chain (same i).entry }))
touching_there set chain from (first ∷ list) (suc offset) placed there some =
    behind (nat_eq (length (touches_in set chain first.entry)) 0)
    (subst (λ n. IsIn (record { place = n; touches = touches_in set chain placed.entry }) (touchings_from set chain (from + 1) list)) (omega arith)
    (touching_there set chain (from + 1) list offset placed there some))
  where
    behind : (b : Bool) → IsIn (record { place = from + suc offset; touches = touches_in set chain placed.entry }) (touchings_from set chain (from + 1) list) →
        IsIn (record { place = from + suc offset; touches = touches_in set chain placed.entry })
        (cons_option (cond b None (Some (record { place = from; touches = touches_in set chain first.entry }))) (touchings_from set chain (from + 1) list))
    behind true later = later
    behind false later = inr later

-- hops that conflict touch something
touches_some : (lefts rights : List Touch) → Conflicts lefts rights → nat_eq (length lefts) 0 ≡ false
touches_some [] rights conflict = let within = conflict.2 in absurd (omega arith)
touches_some (left ∷ lefts) rights conflict = elim (eqb_tells (length (left ∷ lefts)) 0) [
  | inl same ↦ let none : length (left ∷ lefts) ≡ 0 = same.1 in absurd (omega arith)
  | inr differ ↦ differ.0
]

-- ---- chains that meet

-- chains whose hops meet so precede one another
meet_precedes : (set : Set) (list : List Placed) (one other : ChainId) → one ≢ other → meet (touchings_of set list one) (touchings_of set list other) ≡ true →
    Precedes set list one other
meet_precedes set list one other differ is =
    let first = any_in (λ hop. list_any (λ later. stands_before hop later) (touchings_of set list other)) (touchings_of set list one) is in
    let second = any_in (λ later. stands_before first.0 later) (touchings_of set list other) first.2 in
    let tests = both (nat_lt first.0.place second.0.place) (some_collide first.0.touches second.0.touches) second.2 in
    let stands = touching_stands set one 0 list first.0 first.1 in
    let follows = touching_stands set other 0 list second.0 second.1 in
    let less : first.0.place < second.0.place = ltb-true _ _ tests.0 in
    record {
      different = differ;
      place = stands.offset;
      later = follows.offset;
      in_order = let here = stands.place_is in let there = follows.place_is in omega arith;
      first = stands.placed;
      second = follows.placed;
      first_there = stands.there;
      second_there = follows.there;
      conflict = subst (λ t. Conflicts t (touches_in set other follows.placed.entry)) stands.touches_are
          (subst (Conflicts first.0.touches) follows.touches_are ((Decides-some_collide first.0.touches second.0.touches).0 tests.1));
    }

-- and chains that precede one another meet so
precedes_meet : (set : Set) (list : List Placed) (one other : ChainId) → Precedes set list one other → meet (touchings_of set list one) (touchings_of set list other) ≡ true
precedes_meet set list one other precedes =
    let lefts = touches_in set one precedes.first.entry in
    let rights = touches_in set other precedes.second.entry in
    let first : Touching = record { place = 0 + precedes.place; touches = lefts } in
    let second : Touching = record { place = 0 + precedes.later; touches = rights } in
    let less : first.place < second.place = let before = precedes.in_order in omega arith in
    any_of (λ hop. list_any (λ later. stands_before hop later) (touchings_of set list other)) (touchings_of set list one) first
    (touching_there set one 0 list precedes.place precedes.first precedes.first_there (touches_some lefts rights precedes.conflict))
    (any_of (λ later. stands_before first later) (touchings_of set list other) second
    (touching_there set other 0 list precedes.later precedes.second precedes.second_there
    (touches_some rights lefts (Conflicts-swapped lefts rights precedes.conflict)))
    (and-true _ _ (lt-ltb first.place second.place less) ((Decides-some_collide lefts rights).1 precedes.conflict)))

-- ---- places of chains

pub in_place : {X : Type 0} (xs : List X) (i : ℕ) (d : X) → i < length xs → IsIn (get_or xs i d) xs
in_place [] i d within = absurd (omega arith)
in_place (x ∷ xs) zero d within = inl refl
in_place (x ∷ xs) (suc i) d within = inr (in_place xs i d (omega arith))

pub place_of : {X : Type 0} (xs : List X) (x d : X) → IsIn x xs → (i : ℕ) × (i < length xs) × (get_or xs i d ≡ x)
place_of [] x d never = absurd never
place_of (y ∷ xs) x d (inl same) = (0, omega arith, same)
place_of (y ∷ xs) x d (inr later) = let found = place_of xs x d later in (suc found.0, omega arith, found.2)

-- each of different values has one place
pub one_place : {X : Type 0} (xs : List X) (i j : ℕ) (d : X) → AreDifferent xs → i < length xs → j < length xs → get_or xs i d ≡ get_or xs j d → i ≡ j
one_place [] i j d once one two same = absurd (omega arith)
one_place (x ∷ xs) zero zero d once one two same = refl
one_place (x ∷ xs) zero (suc j) d once one two same = absurd (once.0 (subst (λ y. IsIn y xs) (sym same) (in_place xs j d (omega arith))))
one_place (x ∷ xs) (suc i) zero d once one two same = absurd (once.0 (subst (λ y. IsIn y xs) same (in_place xs i d (omega arith))))
one_place (x ∷ xs) (suc i) (suc j) d once one two same = ap suc (one_place xs i j d once.1 (omega arith) (omega arith) same)

-- ---- the table of the chains

-- the table of these chains
abbrev pub table_for : Set → List Placed → List ChainId → List (List Bool)
table_for set list chains = table_of (map (touchings_of set list) chains)

pub table_length : (set : Set) (list : List Placed) (chains : List ChainId) → length (table_for set list chains) ≡ length chains
table_length set list chains =
    length-map_range (row_of (map (touchings_of set list) chains)) 0 (length (map (touchings_of set list) chains)) ∙ length-map chains (touchings_of set list)

-- what the table has for two chains
table_for_has : (set : Set) (list : List Placed) (chains : List ChainId) (one other : ℕ) → one < length chains → other < length chains →
    get_or (get_or (table_for set list chains) other []) one false
    ≡ (not (nat_eq one other) && meet (touchings_of set list (chain_at chains one)) (touchings_of set list (chain_at chains other)))
table_for_has set list chains one other first second =
    let all = map (touchings_of set list) chains in
    let whole = length-map chains (touchings_of set list) in
    table_has all one other (omega arith) (omega arith)
    ∙ ap (λ hops. not (nat_eq one other) && meet hops (get_or all other [])) (get_or-mapped (touchings_of set list) chains one (record { origin = 0; index = 0 }) [] first)
    ∙ ap (λ hops. not (nat_eq one other) && meet (touchings_of set list (chain_at chains one)) hops) (get_or-mapped (touchings_of set list) chains other (record { origin = 0; index = 0 }) [] second)

pub edge_precedes : (set : Set) (list : List Placed) (chains : List ChainId) (one other : ℕ) → AreDifferent chains → one < length chains → other < length chains →
    ComesBefore (table_for set list chains) one other → Precedes set list (chain_at chains one) (chain_at chains other)
edge_precedes set list chains one other once first second edge =
    let tests = both (not (nat_eq one other)) _ (sym (table_for_has set list chains one other first second) ∙ edge) in
    meet_precedes set list (chain_at chains one) (chain_at chains other)
    (λ same. apart tests.0 (one_place chains one other (record { origin = 0; index = 0 }) once first second same)) tests.1
  where
    apart : not (nat_eq one other) ≡ true → one ≡ other → ⊥
    apart test same = elim (eqb_tells one other) [
      | inl alike ↦ collide (sym (ap not alike.0) ∙ test)
      | inr differ ↦ differ.1 same
    ]
      where
        collide : false ≡ true → ⊥
        collide e = cc

pub precedes_edge : (set : Set) (list : List Placed) (chains : List ChainId) (one other : ℕ) → one < length chains → other < length chains →
    Precedes set list (chain_at chains one) (chain_at chains other) → ComesBefore (table_for set list chains) one other
precedes_edge set list chains one other first second precedes =
    table_for_has set list chains one other first second
    ∙ and-true _ _ (elim (eqb_tells one other) [
      | inl same ↦ absurd (precedes.different (ap (chain_at chains) same.1))
      | inr differ ↦ ap not differ.0
    ]) (precedes_meet set list (chain_at chains one) (chain_at chains other) precedes)

-- ---- the chains that began

some_or : (o p : Option Request) → IsSome p → IsSome (option_or o p)
some_or None p some = some
some_or (Some x) p some = refl

pub begun_some : (chain : ChainId) (list : List Placed) → IsIn chain (begun_chains list) → IsSome (request_of list chain)
begun_some chain [] never = absurd never
begun_some chain (placed ∷ list) there = by placed.entry there (begun_some chain list)
  where
    by : (entry : Entry) → IsIn chain (cons_option (chain_begun entry) (begun_chains list)) → (IsIn chain (begun_chains list) → IsSome (request_of list chain)) →
        IsSome (option_or (request_in chain entry) (request_of list chain))
    by (Begun begun) (inl same) rest =
        subst (λ b. IsSome (option_or (cond b (Some begun.request) None) (request_of list chain)))
        (sym (ap (λ c. same_chain c chain) same ∙ same_chain-self chain)) refl
    by (Begun begun) (inr later) rest = some_or (request_in chain (Begun begun)) (request_of list chain) (rest later)
    by (Refused refused) later rest = rest later
    by (HopRan ran) later rest = rest later

pub some_begun : (chain : ChainId) (list : List Placed) → IsSome (request_of list chain) → IsIn chain (begun_chains list)
some_begun chain [] never = cc
some_begun chain (placed ∷ list) some = by placed.entry some (some_begun chain list)
  where
    first : (entry : Entry) (begun_chain : ChainId) (request : Request) (b : Bool) → same_chain begun_chain chain ≡ b →
        IsSome (option_or (cond b (Some request) None) (request_of list chain)) → (IsSome (request_of list chain) → IsIn chain (begun_chains list)) →
        IsIn chain (begun_chain ∷ begun_chains list)
    first entry begun_chain request true same found rest = inl (same_name _ _ same)
    first entry begun_chain request false same found rest = inr (rest found)

    by : (entry : Entry) → IsSome (option_or (request_in chain entry) (request_of list chain)) → (IsSome (request_of list chain) → IsIn chain (begun_chains list)) →
        IsIn chain (cons_option (chain_begun entry) (begun_chains list))
    by (Begun begun) found rest = first (Begun begun) begun.chain begun.request (same_chain begun.chain chain) refl found rest
    by (Refused refused) found rest = rest found
    by (HopRan ran) found rest = rest found

pub different_from_before : {X : Type 0} (xs : List X) → ((x : X) → StandsBefore x x xs → ⊥) → AreDifferent xs
different_from_before [] none = tt
different_from_before (x ∷ xs) none = (λ there. none x (inl (refl, there)), different_from_before xs (λ y before. none y (inr before)))

begun_hop : (placed : Placed) (chain : ChainId) → begun_in placed ≡ Some chain → hop_in chain placed.entry ≡ Some 0
begun_hop placed chain is = by placed.entry is
  where
    by : (entry : Entry) → chain_begun entry ≡ Some chain → hop_in chain entry ≡ Some 0
    by (Begun begun) same =
        let one : begun.chain ≡ chain = cc in
        ap (λ b. cond b (Some 0) None) (ap (λ c. same_chain c chain) one ∙ same_chain-self chain)
    by (Refused refused) same = cc
    by (HopRan ran) same = cc

pub begun_once : (set : Set) (list : List Placed) → IsLegal set list → AreDifferent (begun_chains list)
begun_once set list legal = different_from_before (begun_chains list) (λ chain before.
    let at = places_of_before begun_in chain chain list before in
    let twice = before_of_places (λ (p : Placed). hop_in chain p.entry) 0 0 list at.place at.later at.first at.second at.first_there at.second_there at.in_order
    (begun_hop at.first chain at.first_gives) (begun_hop at.second chain at.second_gives) in
    let rise = range_rises 0 (length (done_hops chain list)) 0 0 (subst (StandsBefore 0 0) (once_and_in_order set list legal chain) twice) in
    omega arith)
