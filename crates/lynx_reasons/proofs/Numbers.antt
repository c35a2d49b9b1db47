-- Which numbers are left, hop by hop, and that a few decide whether there is one.
use Rattle.std.proofs.Common.{◌≡◌, ℕ, ◌+◌, ◌≤◌, ◌<◌, ◌^◌, ⊎_elim, Bool, true, leb, ◌&&◌, ◌||◌, List, [], ◌∷◌, Option, Some, None, take, refl, sym, ap, subst, ◌∙◌, arith}
use Rattle.std.specs.List.{flat_map, list_all, list_any}
use Rattle.std.specs.Option.{option_map_or}
use Rattle.std.proofs.lemmas.Bool.{and_from, and_parts, le-leb, leb-true, or_cases}
use Rattle.std.proofs.lemmas.Bool.Decides.{same_from_decides}
use Rattle.std.proofs.lemmas.List.Folds.{list_all-append, list_all-map}
use Rattle.std.proofs.Math.Bool.{and_assoc}
use Rattle.lynx_shards.specs.declared.shard.Shard.{Shard}
use Rattle.lynx_shards.specs.Ranges.{EachCovers}
use Rattle.lynx_set.specs.declared.action.Action.{Action}
use Rattle.lynx_set.specs.declared.interval.Interval.{Interval}
use Rattle.lynx_set.specs.declared.program.Hop.{Hop}
use Rattle.lynx_set.specs.Intervals.{holds, range_of}
use Rattle.lynx_set.specs.Lookups.{hop_at, hops_of, ranges_of}
use Rattle.lynx_set.specs.Set.{Set}
use Rattle.lynx_reasons.specs.declared.never.first.NeverAt.{NeverAt}
use Rattle.lynx_reasons.specs.Begins.{actions_to, is_argument, is_home, is_left, some_below, with_server}
use Rattle.lynx_reasons.specs.inner.Lefts.{are_home, are_home_before, are_home_in, least_argument}
use Rattle.lynx_reasons.proofs.Below.{some_below-from, some_below-true}
use Rattle.lynx_reasons.proofs.Starts.{low_of}
use Rattle.lynx_reasons.proofs.Least.{Least, least_left}

-- ---- hop by hop

list_all-flat_map : {X Y : Type 0} (test : Y → Bool) (f : X → List Y) (xs : List X) → list_all test (flat_map f xs) ≡ list_all (λ x. list_all test (f x)) xs
list_all-flat_map test f [] = refl
list_all-flat_map test f (x ∷ xs) = list_all-append test (f x) (flat_map f xs) ∙ ap (λ b. list_all test (f x) && b) (list_all-flat_map test f xs)

with_server-home : (shards : List (List Shard)) (parameter number server : ℕ) (actions : List Action)
    → list_all (is_home shards parameter number) (with_server server actions) ≡ are_home shards parameter number server actions
with_server-home shards parameter number server actions = list_all-map (is_home shards parameter number) (λ action. (server, action)) actions

hops_home : (shards : List (List Shard)) (parameter number : ℕ) (hops : List Hop)
    → list_all (λ (hop : Hop). list_all (is_home shards parameter number) (with_server hop.server hop.actions)) hops
    ≡ list_all (λ (hop : Hop). are_home shards parameter number hop.server hop.actions) hops
hops_home shards parameter number [] = refl
hops_home shards parameter number (hop ∷ hops) =
    ap (λ b. b && list_all (λ (other : Hop). list_all (is_home shards parameter number) (with_server other.server other.actions)) hops) (with_server-home shards parameter number hop.server hop.actions)
    ∙ ap (λ b. are_home shards parameter number hop.server hop.actions && b) (hops_home shards parameter number hops)

own_home : (shards : List (List Shard)) (parameter number count : ℕ) (found : Option Hop)
    → list_all (is_home shards parameter number) (option_map_or (λ (hop : Hop). with_server hop.server (take count hop.actions)) found [])
    ≡ option_map_or (λ (hop : Hop). are_home shards parameter number hop.server (take count hop.actions)) found true
own_home shards parameter number count None = refl
own_home shards parameter number count (Some hop) = with_server-home shards parameter number hop.server (take count hop.actions)

pub is_left-by_hops : (set : Set) (program : ℕ) (at : NeverAt) (parameter number : ℕ)
    → is_left set program at parameter number
    ≡ (is_argument (ranges_of set program) parameter number && are_home_before set program at.hop parameter number && are_home_in set program at parameter number)
is_left-by_hops set program at parameter number =
    let argument = is_argument (ranges_of set program) parameter number in
    let test = is_home set.shards parameter number in
    let before = flat_map (λ (hop : Hop). with_server hop.server hop.actions) (take at.hop (hops_of set program)) in
    let own = option_map_or (λ (hop : Hop). with_server hop.server (take (at.action + 1) hop.actions)) (hop_at set program at.hop) [] in
    ap (λ b. argument && b) (list_all-append test before own
    ∙ ap (λ b. b && list_all test own) (list_all-flat_map test (λ (hop : Hop). with_server hop.server hop.actions) (take at.hop (hops_of set program)) ∙ hops_home set.shards parameter number (take at.hop (hops_of set program)))
    ∙ ap (λ b. are_home_before set program at.hop parameter number && b) (own_home set.shards parameter number (at.action + 1) (hop_at set program at.hop)))
    ∙ sym (and_assoc argument (are_home_before set program at.hop parameter number) (are_home_in set program at parameter number))

-- ---- the least

range_least : (range : Option Interval) (number : ℕ) → option_map_or (λ (interval : Interval). holds interval number) range true ≡ true
    → option_map_or (λ (interval : Interval). interval.low) range 0 ≤ number
range_least None number may = omega arith
range_least (Some interval) number may = leb-true _ _ (and_parts _ _ may).0

range_below : (range : Option Interval) (number other : ℕ) → option_map_or (λ (interval : Interval). holds interval number) range true ≡ true
    → option_map_or (λ (interval : Interval). interval.low) range 0 ≤ other → other ≤ number
    → option_map_or (λ (interval : Interval). holds interval other) range true ≡ true
range_below None number other may after before = refl
range_below (Some interval) number other may after before =
    let within = leb-true _ _ (and_parts (leb interval.low number) (leb number interval.high) may).1 in
    and_from _ _ (le-leb interval.low other after) (le-leb other interval.high (omega (arith, before, within)))

-- whether one of the numbers that are tried is left
abbrev pub is_tried : Set → ℕ → NeverAt → ℕ → ℕ → Bool
is_tried set program at parameter least =
    is_left set program at parameter least
    || list_any (list_any (λ (shard : Shard). is_left set program at parameter shard.low)) set.shards

-- they are enough
tried_if_left : (set : Set) (program : ℕ) (at : NeverAt) (parameter number : ℕ) → EachCovers set.shards → number < 2 ^ 64
    → is_left set program at parameter number ≡ true → is_tried set program at parameter (least_argument (ranges_of set program) parameter) ≡ true
tried_if_left set program at parameter number covers below left =
    let range = range_of (ranges_of set program) parameter in
    let parts = and_parts (is_argument (ranges_of set program) parameter number) (list_all (is_home set.shards parameter number) (actions_to set program at)) left in
    let least : Least set.shards parameter (actions_to set program at) (least_argument (ranges_of set program) parameter) number =
    least_left set.shards covers parameter (actions_to set program at) (least_argument (ranges_of set program) parameter) number
    (range_least range number parts.0) below parts.1 in
    least.tried (is_left set program at parameter)
    (and_from _ _ (range_below range number least.from parts.0 least.above least.upto) (least.kept least.from (omega arith) least.upto))

left_if_tried : (set : Set) (program : ℕ) (at : NeverAt) (parameter least : ℕ) → EachCovers set.shards → least < 2 ^ 64
    → is_tried set program at parameter least ≡ true → (number : ℕ) × (number < 2 ^ 64) × (is_left set program at parameter number ≡ true)
left_if_tried set program at parameter least covers below tried =
    ⊎_elim (λ here. (least, below, here)) (λ there. low_of set.shards (is_left set program at parameter) covers there)
    (or_cases (is_left set program at parameter least) (list_any (list_any (λ (shard : Shard). is_left set program at parameter shard.low)) set.shards) tried)

pub some_left-tried : (set : Set) (program : ℕ) (at : NeverAt) (parameter least : ℕ) → EachCovers set.shards → least < 2 ^ 64
    → least ≡ least_argument (ranges_of set program) parameter
    → is_tried set program at parameter least ≡ some_below (2 ^ 64) (is_left set program at parameter)
some_left-tried set program at parameter least covers below is =
    same_from_decides {P = (number : ℕ) × (number < 2 ^ 64) × (is_left set program at parameter number ≡ true)} _ _
    (left_if_tried set program at parameter least covers below, λ some. subst (λ (n : ℕ). is_tried set program at parameter n ≡ true) (sym is) (tried_if_left set program at parameter some.0 covers some.1 some.2))
    (some_below-true (2 ^ 64) (is_left set program at parameter), λ some. some_below-from (2 ^ 64) (is_left set program at parameter) some.0 some.1 some.2)
