-- Programs whose taking away makes a set accepted.
use Rattle.std.specs.Prelude.{◌≡◌, ◌<◌, ◌≤◌, ◌↔◌, Bool, false, true, not, ◌==◌, ◌&&◌, ◌||◌, ℕ, ◌+◌, ◌-◌, ◌/◌, min, max, nat_lt, List, [], ◌∷◌, ◌++◌, All, filter, length, map, take, if◌then◌else◌}
use Rattle.std.specs.List.{flat_map, list_any, range_with_len}
use Rattle.lynx_set.specs.declared.program.Program.{Program}
use Rattle.lynx_set.specs.Set.{Set}
use Rattle.lynx_graph.specs.Acceptance.{IsAccepted}
use Rattle.lynx_graph.specs.Blocks.{entrance_of, exit_of}
use Rattle.lynx_graph.specs.Edges.{edges_of}
use Rattle.lynx_late.specs.Blocks.{late_blocks}
use Rattle.lynx_reasons.specs.declared.search.TheConstants.{MAX_EDGES_SEEN, MAX_LOOKS}
use Rattle.lynx_reasons.specs.declared.culprit.Culprit.{Culprit}
use Rattle.lynx_reasons.specs.declared.culprit.Culprit.TheVariants.{One, Two, Three}

abbrev pub programs_of : Culprit → List ℕ
programs_of (One first) = first ∷ []
programs_of (Two first second) = first ∷ second ∷ []
programs_of (Three first second third) = first ∷ second ∷ third ∷ []

-- the program is one of them
abbrev pub is_of : Culprit → ℕ → Bool
is_of (One first) program = first == program
is_of (Two first second) program = first == program || second == program
is_of (Three first second third) program =
    first == program || second == program || third == program

-- of the programs from that number on those that are left without them
abbrev pub left_of : Culprit → ℕ → List (List ℕ × Program) → List (List ℕ × Program)
left_of culprit number [] = []
left_of culprit number (named ∷ later) =
    if is_of culprit number then left_of culprit (number + 1) later
    else named ∷ left_of culprit (number + 1) later

-- the set without them
abbrev pub set_without : Set → Culprit → Set
set_without set culprit = record set { programs = left_of culprit 0 set.programs }

-- these are so many programs of the set, and the set without them is accepted
pub record IsCulprit (set : Set) (count : ℕ) (culprit : Culprit) : Type 0 where
  pub counted : length (programs_of culprit) ≡ count
  pub programs : All (λ program. program < length set.programs) (programs_of culprit)
  pub accepted : IsAccepted (set_without set culprit)

-- they are as many in each case, and at most three cases
pub record AreCulprits (set : Set) (found : List Culprit) : Type 0 where
  pub count : ℕ
  pub each : All (IsCulprit set count) found
  pub few : length found ≤ 3

-- the programs of the set from one on
abbrev pub programs_from : Set → ℕ → List ℕ
programs_from set first = range_with_len first (length set.programs - first)

-- each program by itself, each two, and each three, as the set has them
abbrev pub ones : Set → List Culprit
ones set = map (λ first. One first) (programs_from set 0)

abbrev pub twos_of : Set → ℕ → List Culprit
twos_of set first = map (λ second. Two first second) (programs_from set (first + 1))

abbrev pub twos : Set → List Culprit
twos set = flat_map (twos_of set) (programs_from set 0)

abbrev pub threes_of : Set → ℕ → ℕ → List Culprit
threes_of set first second =
    map (λ third. Three first second third) (programs_from set (second + 1))

abbrev pub threes_from : Set → ℕ → List Culprit
threes_from set first = flat_map (threes_of set first) (programs_from set (first + 1))

abbrev pub threes : Set → List Culprit
threes set = flat_map (threes_from set) (programs_from set 0)

-- a late block is of the program, and of each of these
abbrev pub is_late : Set → ℕ → Bool
is_late set program =
    list_any (λ block. (entrance_of block).program == program
    || (exit_of block).program == program) (late_blocks set)

abbrev pub are_late : Set → Culprit → Bool
are_late set (One first) = is_late set first
are_late set (Two first second) = is_late set first && is_late set second
are_late set (Three first second third) =
    is_late set first && is_late set second && is_late set third

-- those first of which all programs have late blocks
abbrev pub late_first : Set → List Culprit → List Culprit
late_first set culprits =
    filter (are_late set) culprits ++ filter (λ culprit. not (are_late set culprit)) culprits

-- what is taken away of the sets that are looked at, in that order: one program, two, and three
abbrev pub candidates : Set → List (List Culprit)
candidates set =
    late_first set (ones set) ∷ late_first set (twos set) ∷ late_first set (threes set) ∷ []

-- how many of these sets are looked at, at most
abbrev pub most_looks : Set → ℕ
most_looks set = min MAX_LOOKS (MAX_EDGES_SEEN / max (length (edges_of set)) 1)

-- the test tells of each whether the set without it is accepted
abbrev pub Tells : Set → (Culprit → Bool) → Type 0
Tells set accepted =
    (culprit : Culprit) → (accepted culprit ≡ true) ↔ IsAccepted (set_without set culprit)

-- the first three that pass, of the first so many
abbrev pub first_three : (Culprit → Bool) → ℕ → List Culprit → List Culprit
first_three accepted most culprits = take 3 (filter accepted (take most culprits))

-- those of the first list of which some pass; a list has the looks that those before it left
abbrev pub fewest : (Culprit → Bool) → ℕ → List (List Culprit) → List Culprit
fewest accepted most [] = []
fewest accepted most (culprits ∷ more) =
    if length (first_three accepted most culprits) == 0
    then fewest accepted (most - length culprits) more
    else first_three accepted most culprits

-- for want of looks one is not looked at: fewer than three pass of its list, none of those before
abbrev pub wants_looks : (Culprit → Bool) → ℕ → List (List Culprit) → Bool
wants_looks accepted most [] = false
wants_looks accepted most (culprits ∷ more) =
    (nat_lt most (length culprits) && nat_lt (length (first_three accepted most culprits)) 3)
    || (length (first_three accepted most culprits) == 0
    && wants_looks accepted (most - length culprits) more)

-- they are the fewest programs, the first three of as many; and whether looks were wanting
pub record AreFewest (set : Set) (found : List Culprit) (is_bound : Bool) : Type 0 where
  pub accepted : Culprit → Bool
  pub tells : Tells set accepted
  pub fewest : found ≡ fewest accepted (most_looks set) (candidates set)
  pub bound : is_bound ≡ wants_looks accepted (most_looks set) (candidates set)
