-- How many lines the parts of a set have, and that each hop stands on its line.
use Rattle.std.proofs.Common.{◌≡◌, ℕ, ◌+◌, ◌<◌, ◌≤◌, List, [], ◌∷◌, ◌++◌, map, length, take, drop, get_or, Some, None, ⊎_elim, zero, suc, refl, sym, ap, subst, ◌∙◌, arith}
use Rattle.std.specs.Prelude.{codes, Option, option_map, slice_get, sum_by, unwrap_or}
use Rattle.std.specs.List.{range_with_len}
use Rattle.std.specs.Option.{option_map_or}
use Rattle.std.proofs.lemmas.Bool.{cases_lt}
use Rattle.std.proofs.lemmas.List.{length-append, length-map}
use Rattle.std.proofs.lemmas.List.Sums.{sum_by-cons, sum_by-take-le}
use Rattle.lynx_shards.specs.declared.shard.Shard.{Shard}
use Rattle.lynx_names.specs.declared.limits.TheConstants.{MAX_ACTIONS, MAX_TEXT_BYTES}
use Rattle.lynx_lex.specs.Lines.{joined, line}
use Rattle.lynx_set.specs.Rules.{IsSet}
use Rattle.lynx_set.specs.Set.{Set}
use Rattle.lynx_set.specs.Lookups.{actions_at, hop_at, program_at}
use Rattle.lynx_set.specs.declared.action.Action.{Action}
use Rattle.lynx_set.specs.declared.program.Hop.{Hop}
use Rattle.lynx_set.specs.declared.program.Program.{Program}
use Rattle.lynx_set.specs.Text.{action_lines, bound_in, bound_names, hop_lines, hops_lines, program_lines, programs_lines, range_words, set_lines, shard_words, table_lines, tables_lines, text}
use Rattle.lynx_graph.specs.declared.meeting.Place.{Place}
use Rattle.lynx_reasons.specs.HopLines.{line_of, lines_to_hop}
use Rattle.lynx_reasons.specs.inner.Counts.{lines_of_hop, lines_of_program, lines_of_program_at, lines_to_hop as count_to_hop, lines_to_hop_of}

-- ---- counts

length-action_lines : (tables names : List (List ℕ)) (place : ℕ) (actions : List Action) → length (action_lines tables names place actions) ≡ length actions
length-action_lines tables names place [] = refl
length-action_lines tables names place (action ∷ actions) = ap suc (length-action_lines tables names (place + bound_names action) actions)

length-hop_lines : (tables names : List (List ℕ)) (place : ℕ) (hop : Hop) → length (hop_lines tables names place hop) ≡ lines_of_hop hop
length-hop_lines tables names place hop = let same = length-action_lines tables names place hop.actions in omega (arith, same)

length-hops_lines : (tables names : List (List ℕ)) (place : ℕ) (hops : List Hop) → length (hops_lines tables names place hops) ≡ sum_by lines_of_hop hops
length-hops_lines tables names place [] = refl
length-hops_lines tables names place (hop ∷ hops) =
    let first = length-hop_lines tables names place hop in
    let rest = length-hops_lines tables names (place + bound_in hop.actions) hops in
    let both = length-append (hop_lines tables names place hop) (hops_lines tables names (place + bound_in hop.actions) hops) in
    let sum = sum_by-cons lines_of_hop hop hops in
    omega (arith, first, rest, both, sum)

length-lines_to_hop : (tables : List (List ℕ)) (hop : ℕ) (named : List ℕ × Program) → length (lines_to_hop tables hop named) ≡ count_to_hop named.1 hop
length-lines_to_hop tables hop named =
    let program = named.1 in
    let hops = length-hops_lines tables program.names program.parameters (take hop program.hops) in
    let ranges = length-map program.ranges (range_words program.names) in
    let both = length-append (map (range_words program.names) program.ranges) (hops_lines tables program.names program.parameters (take hop program.hops)) in
    omega (arith, hops, ranges, both)

length-program_lines : (tables : List (List ℕ)) (named : List ℕ × Program) → length (program_lines tables named) ≡ lines_of_program named.1
length-program_lines tables named =
    let program = named.1 in
    let hops = length-hops_lines tables program.names program.parameters program.hops in
    let ranges = length-map program.ranges (range_words program.names) in
    let both = length-append (map (range_words program.names) program.ranges) (hops_lines tables program.names program.parameters program.hops) in
    let all = length-append (map (range_words program.names) program.ranges ++ hops_lines tables program.names program.parameters program.hops) ((codes "end" ∷ []) ∷ []) in
    omega (arith, hops, ranges, both, all)

no_programs : (n : ℕ) → take {A = List ℕ × Program} n [] ≡ []
no_programs zero = refl
no_programs (suc n) = refl

-- the programs before one, by their numbers
lines_by_number : (tables : List (List ℕ)) (lines : ℕ → ℕ) (programs : List (List ℕ × Program)) (first n : ℕ) →
    ((k : ℕ) → lines (first + k) ≡ option_map_or (λ (named : List ℕ × Program). lines_of_program named.1) (slice_get programs k) 0) →
    sum_by lines (range_with_len first n) ≡ length (programs_lines tables (take n programs))
lines_by_number tables lines programs first zero each = refl
lines_by_number tables lines [] first (suc n) each =
    let here : lines first ≡ 0 = ap lines (omega arith) ∙ each 0 in
    let rest = lines_by_number tables lines [] (first + 1) n (λ k. ap lines (omega arith) ∙ each (suc k)) in
    let sum = sum_by-cons lines first (range_with_len (first + 1) n) in
    let none : length (programs_lines tables (take n [])) ≡ 0 = ap (λ left. length (programs_lines tables left)) (no_programs n) in
    omega (arith, here, rest, sum, none)
lines_by_number tables lines (named ∷ programs) first (suc n) each =
    let here : lines first ≡ lines_of_program named.1 = ap lines (omega arith) ∙ each 0 in
    let rest = lines_by_number tables lines programs (first + 1) n (λ k. ap lines (omega arith) ∙ each (suc k)) in
    let sum = sum_by-cons lines first (range_with_len (first + 1) n) in
    let own = length-program_lines tables named in
    let both = length-append (program_lines tables named) (programs_lines tables (take n programs)) in
    omega (arith, here, rest, sum, own, both)

pub lines_of_programs-are : (set : Set) (n : ℕ) → sum_by (lines_of_program_at set) (range_with_len 0 n) ≡ length (programs_lines set.tables (take n set.programs))
lines_of_programs-are set n = lines_by_number set.tables (lines_of_program_at set) set.programs 0 n (λ k. ap (lines_of_program_at set) (omega arith) ∙ by k (slice_get set.programs k) refl)
  where
    by : (k : ℕ) (known : Option (List ℕ × Program)) → slice_get set.programs k ≡ known →
        lines_of_program_at set k ≡ option_map_or (λ (named : List ℕ × Program). lines_of_program named.1) (slice_get set.programs k) 0
    by k known is =
        ap (λ found. option_map_or (λ (program : Program). lines_of_program program) (option_map (λ (named : List ℕ × Program). named.1) found) 0) is
        ∙ by_known known ∙ ap (λ found. option_map_or (λ (named : List ℕ × Program). lines_of_program named.1) found 0) (sym is)
      where
        by_known : (known : Option (List ℕ × Program)) →
            option_map_or (λ (program : Program). lines_of_program program) (option_map (λ (named : List ℕ × Program). named.1) known) 0
            ≡ option_map_or (λ (named : List ℕ × Program). lines_of_program named.1) known 0
        by_known None = refl
        by_known (Some named) = refl

to_hop_is : (tables : List (List ℕ)) (hop : ℕ) (known : Option (List ℕ × Program)) →
    length (option_map_or (lines_to_hop tables hop) known []) ≡ option_map_or (λ (program : Program). count_to_hop program hop) (option_map (λ (named : List ℕ × Program). named.1) known) 0
to_hop_is tables hop None = refl
to_hop_is tables hop (Some named) = length-lines_to_hop tables hop named

-- the line of a hop, by counts
pub line_of-is : (set : Set) (place : Place) →
    line_of set place ≡ 3 + length (tables_lines set.tables set.shards) + sum_by (lines_of_program_at set) (range_with_len 0 place.program) + lines_to_hop_of set place
line_of-is set place =
    let tables = tables_lines set.tables set.shards in
    let programs = programs_lines set.tables (take place.program set.programs) in
    let own = option_map_or (lines_to_hop set.tables place.hop) (slice_get set.programs place.program) [] in
    let first = length-append tables programs in
    let all = length-append (tables ++ programs) own in
    let before = lines_of_programs-are set place.program in
    let inside = to_hop_is set.tables place.hop (slice_get set.programs place.program) in
    omega (arith, first, all, before, inside)

-- ---- no more lines than bytes

length-text : (lines : List (List (List ℕ))) → length lines ≤ length (text lines)
length-text [] = omega arith
length-text (words ∷ lines) =
    let rest = length-text lines in
    let both = length-append (line words) (text lines) in
    let own = length-append (joined words) (10 ∷ []) in
    omega (arith, rest, both, own)

-- a program and those before it have no more lines than all
lines_upto : (tables : List (List ℕ)) (programs : List (List ℕ × Program)) (n : ℕ) →
    length (programs_lines tables (take n programs)) + option_map_or (λ (named : List ℕ × Program). lines_of_program named.1) (slice_get programs n) 0 ≤ length (programs_lines tables programs)
lines_upto tables [] zero = omega arith
lines_upto tables [] (suc n) = omega arith
lines_upto tables (named ∷ programs) zero =
    let own = length-program_lines tables named in
    let both = length-append (program_lines tables named) (programs_lines tables programs) in
    omega (arith, own, both)
lines_upto tables (named ∷ programs) (suc n) =
    let rest = lines_upto tables programs n in
    let some = length-append (program_lines tables named) (programs_lines tables (take n programs)) in
    let all = length-append (program_lines tables named) (programs_lines tables programs) in
    omega (arith, rest, some, all)

at_is : (set : Set) (n : ℕ) → lines_of_program_at set n ≡ option_map_or (λ (named : List ℕ × Program). lines_of_program named.1) (slice_get set.programs n) 0
at_is set n = by_known (slice_get set.programs n)
  where
    by_known : (known : Option (List ℕ × Program)) →
        option_map_or (λ (program : Program). lines_of_program program) (option_map (λ (named : List ℕ × Program). named.1) known) 0
        ≡ option_map_or (λ (named : List ℕ × Program). lines_of_program named.1) known 0
    by_known None = refl
    by_known (Some named) = refl

-- all that is counted for a hop's line is little
pub few_lines : (set : Set) → IsSet set → (n : ℕ) →
    length (tables_lines set.tables set.shards) + sum_by (lines_of_program_at set) (range_with_len 0 n) + lines_of_program_at set n ≤ MAX_TEXT_BYTES
few_lines set is_set n =
    let tables = tables_lines set.tables set.shards in
    let programs = programs_lines set.tables set.programs in
    let both = length-append tables programs in
    let before = lines_of_programs-are set n in
    let at = at_is set n in
    let upto = lines_upto set.tables set.programs n in
    let bytes = length-text (set_lines set) in
    let few = is_set.1 in
    omega (arith, both, before, at, upto, bytes, few)

pub lines_to_hop-le : (set : Set) (place : Place) → lines_to_hop_of set place ≤ lines_of_program_at set place.program
lines_to_hop-le set place = by (program_at set place.program)
  where
    by : (known : Option Program) → option_map_or (λ (program : Program). count_to_hop program place.hop) known 0 ≤ option_map_or (λ (program : Program). lines_of_program program) known 0
    by None = omega arith
    by (Some program) = let some = sum_by-take-le lines_of_hop program.hops place.hop in omega (arith, some)

-- so the line of a hop fits any word
pub line_of-le : (set : Set) → IsSet set → (place : Place) → line_of set place ≤ 3 + MAX_TEXT_BYTES
line_of-le set is_set place =
    let is = line_of-is set place in
    let few = few_lines set is_set place.program in
    let own = lines_to_hop-le set place in
    omega (arith, is, few, own)

-- and a hop has few lines behind its own
pub actions_few : (set : Set) (program hop : ℕ) → length (actions_at set program hop) ≤ MAX_ACTIONS
actions_few set program hop = by (hop_at set program hop)
  where
    by : (known : Option Hop) → length (unwrap_or (option_map (λ (found : Hop). found.actions) known) []) ≤ MAX_ACTIONS
    by None = omega arith
    by (Some found) = found.few_actions

-- ---- counting on

sum_more : (lines : ℕ → ℕ) (first n last : ℕ) → first + n ≡ last → sum_by lines (range_with_len first (suc n)) ≡ sum_by lines (range_with_len first n) + lines last
sum_more lines first zero last at = let same : lines first ≡ lines last = ap lines (omega (arith, at)) in omega (arith, same)
sum_more lines first (suc n) last at =
    let later = sum_more lines (first + 1) n last (omega (arith, at)) in
    let all = sum_by-cons lines first (range_with_len (first + 1) (suc n)) in
    let some = sum_by-cons lines first (range_with_len (first + 1) n) in
    omega (arith, later, all, some)

pub sum_one_more : (lines : ℕ → ℕ) (n : ℕ) → sum_by lines (range_with_len 0 (n + 1)) ≡ sum_by lines (range_with_len 0 n) + lines n
sum_one_more lines n = let same : n + 1 ≡ suc n = omega arith in ap (λ m. sum_by lines (range_with_len 0 m)) same ∙ sum_more lines 0 n n (omega arith)

-- a part of a sum
pub sum_before : (lines : ℕ → ℕ) (n m : ℕ) → n < m → sum_by lines (range_with_len 0 n) + lines n ≤ sum_by lines (range_with_len 0 m)
sum_before lines n zero below = absurd (omega (arith, below))
sum_before lines n (suc m) below = ⊎_elim (λ lt. before (sum_before lines n m lt)) here (cases_lt n m)
  where
    before : sum_by lines (range_with_len 0 n) + lines n ≤ sum_by lines (range_with_len 0 m) → sum_by lines (range_with_len 0 n) + lines n ≤ sum_by lines (range_with_len 0 (suc m))
    before some =
        let more = sum_more lines 0 m m (omega arith) in
        omega (arith, some, more)

    here : m ≤ n → sum_by lines (range_with_len 0 n) + lines n ≤ sum_by lines (range_with_len 0 (suc m))
    here le =
        let same : n ≡ m = omega (arith, le, below) in
        let more = sum_more lines 0 m m (omega arith) in
        subst (λ (k : ℕ). sum_by lines (range_with_len 0 k) + lines k ≤ sum_by lines (range_with_len 0 (suc m))) (sym same) (omega (arith, more))

-- the lines of the tables from a place on
tables_left : (names : List (List ℕ)) (tables : List (List Shard)) (i : ℕ) (shards : List Shard) → i < length names → i < length tables → shards ≡ get_or tables i shards →
    length (tables_lines (drop i names) (drop i tables)) ≡ 1 + length shards + length (tables_lines (drop (suc i) names) (drop (suc i) tables))
tables_left [] tables i shards in_names in_tables is = absurd (omega (arith, in_names))
tables_left (name ∷ names) [] i shards in_names in_tables is = absurd (omega (arith, in_tables))
tables_left (name ∷ names) (first ∷ tables) zero shards in_names in_tables is =
    let both = length-append (table_lines name first) (tables_lines names tables) in
    let own = length-map first shard_words in
    let same = ap length is in
    omega (arith, both, own, same)
tables_left (name ∷ names) (first ∷ tables) (suc i) shards in_names in_tables is = tables_left names tables i shards (omega (arith, in_names)) (omega (arith, in_tables)) is

pub tables_one_less : (names : List (List ℕ)) (tables : List (List Shard)) (i : ℕ) (shards : List Shard) → i < length names → i < length tables → shards ≡ get_or tables i shards →
    length (tables_lines (drop i names) (drop i tables)) ≡ 1 + length shards + length (tables_lines (drop (i + 1) names) (drop (i + 1) tables))
tables_one_less names tables i shards in_names in_tables is =
    let next : suc i ≡ i + 1 = omega arith in
    tables_left names tables i shards in_names in_tables is ∙ ap (λ j. 1 + length shards + length (tables_lines (drop j names) (drop j tables))) next
