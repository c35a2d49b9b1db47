-- The hops of a program of the set, each by its number.
use Rattle.std.proofs.Common.{◌≡◌, ℕ, zero, suc, ◌+◌, ◌<◌, ◌≤◌, Bool, true, false, ◌||◌, nat_eq, eq-eqb, inl, inr, List, [], ◌∷◌, ◌++◌, map, take, drop, length, Option, Some, None, slice_get, option_map, option_and_then, refl, ap, ◌∙◌, arith}
use Rattle.std.specs.Prelude.{unwrap_or}
use Rattle.std.proofs.lemmas.Bool.{cases_lt}
use Rattle.std.proofs.lemmas.List.{map_more}
use Rattle.std.proofs.lemmas.Option.{slice_get_within, get_or_from_slice_get}
use Rattle.lynx_set.specs.declared.program.Hop.{Hop}
use Rattle.lynx_set.specs.declared.program.Program.{Program}
use Rattle.lynx_set.specs.Set.{Set}
use Rattle.lynx_rules.specs.Visits.{visits}
use Rattle.lynx_world.proofs.Tests.{not_both}
use Rattle.lynx_set.specs.Lookups.{actions_at, hop_at, hops_of, program_at}

-- the hop of that number of a program
pub record HasHop (set : Set) (program number : ℕ) : Type 0 where
  pub found : Program
  pub hop : Hop
  pub program_is : program_at set program ≡ Some found
  pub hop_is : slice_get found.hops number ≡ Some hop

-- a place within a list has an item
item : {X : Type 0} (xs : List X) (i : ℕ) → i < length xs → (x : X) × (slice_get xs i ≡ Some x)
item [] i within = absurd (omega arith)
item (x ∷ xs) zero within = (x, refl)
item (x ∷ xs) (suc i) within = item xs i (omega arith)

-- a number below the count of hops is that of a hop
pub has_hop : (set : Set) (program number : ℕ) → number < length (hops_of set program) → HasHop set program number
has_hop set program number within = by (program_at set program) refl within
  where
    by : (o : Option Program) → program_at set program ≡ o →
        number < length (unwrap_or (option_map (λ (found : Program). found.hops) o) []) → HasHop set program number
    by None is within = absurd (omega arith)
    by (Some found) is within =
        let there = item found.hops number within in
        record { found = found; hop = there.0; program_is = is; hop_is = there.1 }

-- the hops of a program that the set has
pub hops_are : (set : Set) (program : ℕ) (found : Program) → program_at set program ≡ Some found → hops_of set program ≡ found.hops
hops_are set program found is = ap (λ o. unwrap_or (option_map (λ (p : Program). p.hops) o) []) is

-- the set has the hop under the program's number and its own
pub hop_at-is : (set : Set) (program number : ℕ) (has : HasHop set program number) → hop_at set program number ≡ Some has.hop
hop_at-is set program number has = ap (option_and_then (λ (p : Program). slice_get p.hops number)) has.program_is ∙ has.hop_is

-- and its actions
pub actions_are : (set : Set) (program number : ℕ) (has : HasHop set program number) → actions_at set program number ≡ has.hop.actions
actions_are set program number has = ap (λ o. unwrap_or (option_map (λ (h : Hop). h.actions) o) []) (hop_at-is set program number has)

-- the first hops mapped, with one more
pub map_take_more : {X Y : Type 0} (f : X → Y) (xs : List X) (i : ℕ) (x : X) → slice_get xs i ≡ Some x →
    map f (take (i + 1) xs) ≡ map f (take i xs) ++ f x ∷ []
map_take_more f xs i x is =
    map_more f xs i x (slice_get_within xs i x is) ∙ ap (λ y. map f (take i xs) ++ f y ∷ []) (get_or_from_slice_get xs i x x is)

-- a hop at the server is among those from any earlier number on
visits_from : (hops : List Hop) (number server from : ℕ) (hop : Hop) → slice_get hops number ≡ Some hop → hop.server ≡ server → from ≤ number →
    visits (drop from hops) server ≡ true
visits_from [] number server from hop is here low = cc
visits_from (first ∷ hops) zero server zero hop is here low =
    let same : first ≡ hop = cc in
    ap (λ b. b || visits hops server) (ap (λ (h : Hop). nat_eq h.server server) same ∙ eq-eqb hop.server server here)
visits_from (first ∷ hops) zero server (suc from) hop is here low = absurd (omega arith)
visits_from (first ∷ hops) (suc number) server zero hop is here low =
    either (nat_eq first.server server) (visits_from hops number server 0 hop is here (omega arith))
  where
    either : (b : Bool) → visits hops server ≡ true → (b || visits hops server) ≡ true
    either true later = refl
    either false later = later
visits_from (first ∷ hops) (suc number) server (suc from) hop is here low = visits_from hops number server from hop is here (omega arith)

-- a program visits the server of each of its hops
pub visits-hop : (set : Set) (program number server : ℕ) (has : HasHop set program number) → has.hop.server ≡ server →
    visits (hops_of set program) server ≡ true
visits-hop set program number server has here =
    ap (λ hops. visits hops server) (hops_are set program has.found has.program_is)
    ∙ visits_from has.found.hops number server 0 has.hop has.hop_is here (omega arith)

-- no hop at a server is behind the last one there
pub not_behind_last : (set : Set) (program number server last : ℕ) (has : HasHop set program number) → has.hop.server ≡ server →
    visits (drop (last + 1) (hops_of set program)) server ≡ false → number ≤ last
not_behind_last set program number server last has here none = elim (cases_lt last number) [
  | inl behind ↦
      let some = visits_from has.found.hops number server (last + 1) has.hop has.hop_is here (omega arith) in
      absurd (not_both (visits (drop (last + 1) (hops_of set program)) server)
      (ap (λ hops. visits (drop (last + 1) hops) server) (hops_are set program has.found has.program_is) ∙ some) none)
  | inr within ↦ within
]
