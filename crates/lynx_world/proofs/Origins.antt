-- Chains of one origin act at each server in the order in which they began.
use Rattle.std.proofs.Common.{◌≡◌, ℕ, zero, suc, ◌<◌, ◌≤◌, List, [], ◌∷◌, ◌++◌, length, get_or, Some, inl, inr, ◌⊎◌, append_assoc, refl, sym, ap, ◌∙◌, subst, arith}
use Rattle.std.specs.Prelude.{slice_get}
use Rattle.std.proofs.lemmas.Bool.{cases_lt}
use Rattle.std.proofs.lemmas.List.{append-nil, length-append, get_or_append_left}
use Rattle.std.proofs.Math.Seq.{get_or-append_seam}
use Rattle.std.proofs.lemmas.Option.{slice_get_within, get_or_from_slice_get, slice_get-get_or}
use Rattle.lynx_names.specs.declared.chain.ChainId.{ChainId}
use Rattle.lynx_names.specs.declared.limits.TheConstants.{MAX_SERVERS}
use Rattle.lynx_set.specs.Set.{Set}
use Rattle.lynx_entry.specs.declared.entry.Entry.{Entry}
use Rattle.lynx_entry.specs.declared.entry.Entry.TheVariants.{Begun, Refused, Hop as HopRan}
use Rattle.lynx_rules.specs.Turns.{ends_visit, turn_of}
use Rattle.lynx_rules.specs.Lawful.{IsLawful}
use Rattle.lynx_rules.specs.Deliveries.{same_chain}
use Rattle.lynx_world.specs.Placed.{Placed}
use Rattle.lynx_world.specs.Worlds.{history_of}
use Rattle.lynx_world.specs.Legal.{MayFollow, IsLegal}
use Rattle.lynx_world.proofs.LegalSteps.{legal-push}
use Rattle.lynx_world.specs.Order.{hop_in, StandsAt, IsInOriginOrder}
use Rattle.lynx_world.proofs.Members.{IsIn, in-append, in-last}
use Rattle.lynx_world.proofs.Once.{same_name, chosen_hop}
use Rattle.lynx_world.proofs.Standing.{stands, legal_induction}
use Rattle.lynx_world.proofs.Counts.{count-grows}
use Rattle.lynx_world.proofs.Numbers.{BeginsAt}
use Rattle.lynx_world.proofs.Rises.{rises}
use Rattle.lynx_world.proofs.Acts.{number_of, acts}
use Rattle.lynx_world.proofs.Turns.{acts_in_turn}

-- ---- places of a list

-- what stands at a place is in the list
in_place : {X : Type 0} (xs : List X) (i : ℕ) (d : X) → i < length xs → IsIn (get_or xs i d) xs
in_place [] i d below = absurd (omega arith)
in_place (x ∷ xs) zero d below = inl refl
in_place (x ∷ xs) (suc i) d below = inr (in_place xs i d (omega arith))

in_at : {X : Type 0} (xs : List X) (i : ℕ) (x : X) → slice_get xs i ≡ Some x → IsIn x xs
in_at xs i x is = subst (λ y. IsIn y xs) (get_or_from_slice_get xs i x x is) (in_place xs i x (slice_get_within xs i x is))

-- a place of a list with one more at its end is one of the list, or the last
at-push : {X : Type 0} (xs : List X) (y x : X) (i : ℕ) → slice_get (xs ++ y ∷ []) i ≡ Some x →
    ((i < length xs) × (slice_get xs i ≡ Some x)) ⊎ ((i ≡ length xs) × (y ≡ x))
at-push {X} xs y x i is = elim (cases_lt i (length xs)) [
  | inl below ↦ inl (
    below,
    slice_get-get_or xs i x below
        ∙ ap Some (sym (get_or_append_left xs (y ∷ []) x i below) ∙ get_or_from_slice_get (xs ++ y ∷ []) i x x is),
  )
  | inr least ↦
      let within = slice_get_within (xs ++ y ∷ []) i x is in
      let last : i ≡ length xs = omega (arith, length-append xs (y ∷ [])) in
      inr (last, sym (get_or-append_seam xs y [] x) ∙ ap (λ n. get_or (xs ++ y ∷ []) n x) (sym last) ∙ get_or_from_slice_get (xs ++ y ∷ []) i x x is)
]

-- ---- turns

-- the turn never falls
turn-front : (set : Set) (server origin : ℕ) (before behind : List Placed) →
    turn_of set server (history_of server before) origin ≤ turn_of set server (history_of server (before ++ behind)) origin
turn-front set server origin before [] =
    let same = ap (λ l. turn_of set server (history_of server l) origin) (append-nil before) in omega arith
turn-front set server origin before (placed ∷ behind) =
    let first = count-grows (ends_visit set server origin) server before placed in
    let rest = turn-front set server origin (before ++ placed ∷ []) behind in
    let same = ap (λ l. turn_of set server (history_of server l) origin) (append_assoc before (placed ∷ []) behind) in
    omega arith

-- the number of a chain that acted is at most the turn
number_reached : (set : Set) (list : List Placed) (server : ℕ) (entry : Entry) (chain : ChainId) (hop : ℕ) → server < MAX_SERVERS → IsLegal set list →
    IsIn (record { server = server; entry = entry }) list → hop_in chain entry ≡ Some hop →
    number_of entry server ≤ turn_of set server (history_of server list) chain.origin
number_reached set list server entry chain hop below legal there is =
    let stood = stands set list (record { server = server; entry = entry }) legal there in
    let turn = acts_in_turn set server (history_of server stood.before) entry chain hop below stood.may_follow.lawful is in
    let grows = turn-front set server chain.origin stood.before (record { server = server; entry = entry } ∷ stood.behind) in
    let same = ap (λ l. turn_of set server (history_of server l) chain.origin) stood.whole in
    omega arith

-- ---- numbers

-- of two chains of one origin the one that began first has the lower number for each server at which both act
lower_number : (set : Set) (list : List Placed) (server : ℕ) (one other : Entry) (earlier later : ChainId) (hop last : ℕ) → server < MAX_SERVERS → IsLegal set list →
    earlier.origin ≡ later.origin → earlier.index < later.index →
    IsIn (record { server = server; entry = one }) list → hop_in earlier one ≡ Some hop →
    IsIn (record { server = server; entry = other }) list → hop_in later other ≡ Some last →
    number_of one server < number_of other server
lower_number set list server one other earlier later hop last below legal origin index here is there was =
    let first = acts set list server one earlier hop legal here is in
    let second = acts set list server other later last legal there was in
    let rise = rises set later.origin server list below legal in
    let first_index = ap (λ (c : ChainId). c.index) first.chain_is in
    let second_index = ap (λ (c : ChainId). c.index) second.chain_is in
    let first_there = subst (λ o. BeginsAt o first.begun list) origin first.there in
    let less = rise.rising first.begun second.begun first_there second.there first.visiting second.visiting (omega arith) in
    let first_number = first.number in let second_number = second.number in
    omega arith

-- no entry is a hop of two chains
chains_of : (entry : Entry) (one other : ChainId) (hop last : ℕ) → hop_in one entry ≡ Some hop → hop_in other entry ≡ Some last → one ≡ other
chains_of (Begun begun) one other hop last is was =
    let first = chosen_hop (same_chain begun.chain one) 0 hop is in
    let second = chosen_hop (same_chain begun.chain other) 0 last was in
    sym (same_name _ _ first.0) ∙ same_name _ _ second.0
chains_of (Refused refused) one other hop last is was = cc
chains_of (HopRan ran) one other hop last is was =
    let first = chosen_hop (same_chain ran.message.chain one) ran.message.hop hop is in
    let second = chosen_hop (same_chain ran.message.chain other) ran.message.hop last was in
    sym (same_name _ _ first.0) ∙ same_name _ _ second.0

-- ---- the order

-- an entry at its server
placed_is : (placed : Placed) (server : ℕ) (list : List Placed) → placed.server ≡ server → IsIn placed list → IsIn (record { server = server; entry = placed.entry }) list
placed_is placed server list here there =
    subst (λ (p : Placed). IsIn p list) (λ i. record { server = here i; entry = placed.entry }) there

-- where a hop of the later chain stands already, none of the earlier one follows
none_behind : (set : Set) (list : List Placed) (last : Placed) (server hop done : ℕ) (earlier later : ChainId) (acted : Placed) → set.servers ≤ MAX_SERVERS → IsLegal set list → MayFollow set list last →
    earlier.origin ≡ later.origin → earlier.index < later.index → last.server ≡ server → hop_in earlier last.entry ≡ Some hop →
    IsIn acted list → acted.server ≡ server → hop_in later acted.entry ≡ Some done → ⊥
none_behind set list last server hop done earlier later acted few legal may origin index here is there at was =
    let below : server < MAX_SERVERS = let known = may.at_server in let same = here in omega arith in
    let lawful = subst (λ s. IsLawful set s (history_of s list) last.entry) here may.lawful in
    let turn = acts_in_turn set server (history_of server list) last.entry earlier hop below lawful is in
    let old = placed_is acted server list at there in
    let reached = number_reached set list server acted.entry later done below legal old was in
    let same = ap (turn_of set server (history_of server list)) origin in
    let new = placed_is last server (list ++ last ∷ []) here (in-last last last list refl) in
    let lower = lower_number set (list ++ last ∷ []) server last.entry acted.entry earlier later hop done below (legal-push set list last legal may) origin index
    new is (in-append _ list (last ∷ []) old) was in
    absurd (omega arith)

-- one more entry
order-push : (set : Set) (list : List Placed) (last : Placed) → set.servers ≤ MAX_SERVERS → IsLegal set list → IsInOriginOrder list → MayFollow set list last → IsInOriginOrder (list ++ last ∷ [])
order-push set list last few legal old may earlier later origin index server place other first second =
    by (at-push list last first.placed place first.there) (at-push list last second.placed other second.there)
  where
    by : ((place < length list) × (slice_get list place ≡ Some first.placed)) ⊎ ((place ≡ length list) × (last ≡ first.placed)) →
        ((other < length list) × (slice_get list other ≡ Some second.placed)) ⊎ ((other ≡ length list) × (last ≡ second.placed)) → place < other
    by (inl here) (inl there) =
        old earlier later origin index server place other
        (record { placed = first.placed; there = here.1; here = first.here; hop = first.hop; is = first.is })
        (record { placed = second.placed; there = there.1; here = second.here; hop = second.hop; is = second.is })
    by (inl here) (inr there) = let below = here.0 in let at = there.0 in omega arith
    by (inr here) (inl there) =
        absurd (none_behind set list last server first.hop second.hop earlier later second.placed few legal may origin index
        (ap (λ (p : Placed). p.server) here.1 ∙ first.here) (ap (λ (p : Placed). hop_in earlier p.entry) here.1 ∙ first.is)
        (in_at list other second.placed there.1) second.here second.is)
    by (inr here) (inr there) =
        let same = chains_of last.entry earlier later first.hop second.hop (ap (λ (p : Placed). hop_in earlier p.entry) here.1 ∙ first.is)
        (ap (λ (p : Placed). hop_in later p.entry) there.1 ∙ second.is) in
        let one_index = ap (λ (c : ChainId). c.index) same in
        absurd (omega arith)

nothing_stands : (earlier later : ChainId) (server place other : ℕ) → StandsAt [] earlier server place → StandsAt [] later server other → place < other
nothing_stands earlier later server place other first second =
    let within = slice_get_within [] place first.placed first.there in absurd (omega arith)

pub origin_order : (set : Set) (list : List Placed) → set.servers ≤ MAX_SERVERS → IsLegal set list → IsInOriginOrder list
origin_order set list few legal =
    legal_induction set IsInOriginOrder
    (λ earlier later origin index server place other first second. nothing_stands earlier later server place other first second)
    (λ before last was old may. order-push set before last few was old may) list legal
