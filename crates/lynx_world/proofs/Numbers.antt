-- The number of a chain for a server, as its begin gives it.
use Rattle.std.proofs.Common.{◌≡◌, ℕ, ◌<◌, Bool, true, false, cond, List, [], ◌∷◌, map, find, Some, inl, inr, ◌⊎◌, nat_eq, eq-eqb, refl, ap, ◌∙◌, arith}
use Rattle.std.specs.Prelude.{unwrap_or, option_map}
use Rattle.std.specs.List.{range_with_len}
use Rattle.std.proofs.lemmas.Bool.{eqb-true}
use Rattle.lynx_names.specs.declared.limits.TheConstants.{MAX_SERVERS}
use Rattle.lynx_set.specs.Set.{Set}
use Rattle.lynx_entry.specs.declared.entry.BegunEntry.{BegunEntry}
use Rattle.lynx_entry.specs.declared.entry.Entry.TheVariants.{Begun}
use Rattle.lynx_names.specs.declared.numbers.NumberAt.{NumberAt}
use Rattle.lynx_entry.specs.Entry.{History}
use Rattle.lynx_rules.specs.Visits.{visits, visited}
use Rattle.lynx_rules.specs.Turns.{number_for, numbered, numbers_of}
use Rattle.lynx_rules.specs.Lawful.{IsLawfulBegun, number_at}
use Rattle.lynx_world.specs.Placed.{Placed}
use Rattle.lynx_world.proofs.Members.{IsIn, in_range, in-filter}
use Rattle.lynx_set.specs.Lookups.{hops_of}

-- the number for a server, 0 where there is none
abbrev pub number_in : List NumberAt → ℕ → ℕ
number_in numbers server = unwrap_or (number_at numbers server) 0

-- each server that a program visits is one of those visited
visited-there : (set : Set) (program server : ℕ) → server < MAX_SERVERS → visits (hops_of set program) server ≡ true → IsIn server (visited set program)
unfolding visited
visited-there set program server below visiting =
    in-filter (λ s. visits (hops_of set program) s) (range_with_len 0 MAX_SERVERS) server (in_range 0 MAX_SERVERS server (omega arith) (omega arith)) visiting

-- among numbers for some servers, the number for one of them
number_among : (set : Set) (history : History) (server : ℕ) (servers : List ℕ) → IsIn server servers →
    number_at (map (numbered set history) servers) server ≡ Some (number_for set history server)
number_among set history server [] never = absurd never
number_among set history server (first ∷ servers) there = by (nat_eq first server) refl there (number_among set history server servers)
  where
    by : (b : Bool) → nat_eq first server ≡ b → (first ≡ server) ⊎ IsIn server servers →
        (IsIn server servers → number_at (map (numbered set history) servers) server ≡ Some (number_for set history server)) →
        option_map (λ (n : NumberAt). n.number) (cond b (Some (numbered set history first)) (find (λ (n : NumberAt). nat_eq n.server server) (map (numbered set history) servers)))
        ≡ Some (number_for set history server)
    by true is there later = ap (λ s. Some (number_for set history s)) (eqb-true _ _ is)
    by false is (inl same) later = let never = eq-eqb first server same in cc
    by false is (inr there) later = later there

-- a chain's number for a server that it visits is how many chains that visit it began here before
pub number_in-numbers_of : (set : Set) (history : History) (program server : ℕ) → server < MAX_SERVERS → visits (hops_of set program) server ≡ true →
    number_in (numbers_of set history program) server ≡ number_for set history server
number_in-numbers_of set history program server below visiting =
    ap (λ o. unwrap_or o 0) (number_among set history server (visited set program) (visited-there set program server below visiting))

-- so it is for a lawful begin
pub number_in-lawful : (set : Set) (origin server : ℕ) (history : History) (begun : BegunEntry) → IsLawfulBegun set origin history begun →
    server < MAX_SERVERS → visits (hops_of set begun.request.program) server ≡ true → number_in begun.numbers server ≡ number_for set history server
number_in-lawful set origin server history begun lawful below visiting =
    ap (λ numbers. number_in numbers server) lawful.numbers ∙ number_in-numbers_of set history begun.request.program server below visiting

-- a begin at the origin stands in the list
abbrev pub BeginsAt : ℕ → BegunEntry → List Placed → Type 0
BeginsAt origin begun list = IsIn (record { server = origin; entry = Begun begun }) list

-- the chain visits the server
abbrev pub IsVisiting : Set → ℕ → BegunEntry → Type 0
IsVisiting set server begun = visits (hops_of set begun.request.program) server ≡ true
