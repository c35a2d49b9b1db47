-- Where a fault stops a run.
use Rattle.std.proofs.Common.{◌≡◌, ◌≢◌, ◌⊎◌, ℕ, List, [], ◌∷◌, ◌++◌, Option, Result, Ok, Err, OnErr, refl, sym, ap, ◌∙◌, subst, inl, inr}
use Rattle.std.specs.List.{flat_map}
use Rattle.std.specs.List.Sorted.{IsPermutation, IsSorted}
use Rattle.std.specs.Io.KnownBytes.{Appends, Keeps}
use Rattle.std.proofs.lemmas.Grind.{flat_map-append}
use Rattle.std.proofs.lemmas.List.{append-nil}
use Rattle.lynx_set.specs.Set.{Set}
use Rattle.lynx_entry.specs.declared.event.Event.{Event}
use Rattle.lynx_entry.specs.declared.event.Outcome.{Outcome}
use Rattle.lynx_entry.specs.declared.event.Outcome.TheVariants.{Memory}
use Rattle.lynx_names.specs.declared.limits.TheConstants.{MAX_HELD}
use Rattle.lynx_order.specs.declared.explained.Explained.{Explained}
use Rattle.lynx_lines.specs.Printed.{outcome_text}
use Rattle.lynx_lex.specs.Lines.{with_feed}
use Rattle.lynx_world.specs.Steps.{step}
use Rattle.lynx_world.specs.Tables.{cells_of, triple_cmp}
use Rattle.lynx_world.specs.Worlds.{WorldState, new_world}
use Rattle.lynx_report.specs.Runs.{Explains, cell_lines, explained_line, outcome_lines, outcomes_of, world_after}
use Rattle.lynx_report.specs.Written.{AppendsPart, BeginsEnd, BeginsRun, WritesEnd}
use Rattle.lynx_report.proofs.RunLemmas.{appends_both, world_after-set}
use Rattle.lynx_lines.proofs.Parts.{kept_on, part_of_more, part_on}

outcomes_of-append : (world : WorldState) (xs ys : List Event) → outcomes_of world (xs ++ ys) ≡ outcomes_of world xs ++ outcomes_of (world_after world xs) ys
outcomes_of-append world [] ys = refl
outcomes_of-append world (event ∷ xs) ys =
    ap (λ outcomes. (step MAX_HELD world event).outcome ∷ outcomes) (outcomes_of-append (step MAX_HELD world event).world xs ys)

outcome_lines-append : (world : WorldState) (xs ys : List Event) → outcome_lines world (xs ++ ys) ≡ outcome_lines world xs ++ outcome_lines (world_after world xs) ys
outcome_lines-append world xs ys =
    ap (flat_map (λ outcome. with_feed (outcome_text outcome))) (outcomes_of-append world xs ys)
    ∙ flat_map-append (λ outcome. with_feed (outcome_text outcome)) (outcomes_of world xs) (outcomes_of (world_after world xs) ys)

-- the lines of the events so far, and a beginning of the next one's
pub lines_cut : (first second third : Option (List ℕ)) (start world : WorldState) (events done rest : List Event) (event : Event) →
    world ≡ world_after start done → events ≡ done ++ event ∷ rest → Appends first second (outcome_lines start done) →
    AppendsPart second third (with_feed (outcome_text (step MAX_HELD world event).outcome)) → AppendsPart first third (outcome_lines start events)
lines_cut first second third start world events done rest event same whole before part =
    let after = world_after start done in
    let part_is = subst (λ w. AppendsPart second third (with_feed (outcome_text (step MAX_HELD w event).outcome))) same part in
    subst (AppendsPart first third) (sym (outcome_lines-append start done (event ∷ rest)) ∙ ap (outcome_lines start) (sym whole))
    (part_on first second third (outcome_lines start done) (outcome_lines after (event ∷ rest)) before
    (part_of_more second third (with_feed (outcome_text (step MAX_HELD after event).outcome)) (outcome_lines (step MAX_HELD after event).world rest) part_is))

-- the lines of the cells, and a beginning of the one that explains
pub end_cut : (first second third : Option (List ℕ)) (world : WorldState) (cells : List (ℕ × ℕ × ℕ)) (explained : Explained) →
    IsPermutation (cells_of world) cells → IsSorted triple_cmp cells → Appends first second (cell_lines world.set.tables cells) →
    Explains world.set world.list explained → AppendsPart second third (explained_line explained) → WritesEnd world.set world first third
end_cut first second third world cells explained all_cells in_order before explains part =
    let whole = part_on first second third (cell_lines world.set.tables cells) (explained_line explained) before part in
    inr (whole.0, record { cells = cells; all_cells = all_cells; in_order = in_order; begins = inr (explained, explains, whole.1) }, whole.2)

-- the lines of the events, and a beginning of those of the end
pub run_cut : {X E : Type 0} (first second third : Option (List ℕ)) (set : Set) (events : List Event) (start world : WorldState) (r : Result X E) →
    start ≡ new_world set → world ≡ world_after start events → Appends first second (outcome_lines start events) →
    OnErr r (WritesEnd world.set world second third) →
    OnErr r (Keeps first third ⊎ ((part : List ℕ) × BeginsRun set events part × Appends first third part))
run_cut first second third set events start world (Ok done) start_is world_is lines end = tt
run_cut first second third set events start world (Err fault) start_is world_is lines end = inr (by_end end)
  where
    world_so : world ≡ world_after (new_world set) events
    world_so = world_is ∙ ap (λ (w : WorldState). world_after w events) start_is

    set_so : world.set ≡ set
    set_so = ap (λ (w : WorldState). w.set) world_so ∙ world_after-set (new_world set) events

    lines_so : Appends first second (outcome_lines (new_world set) events)
    lines_so = subst (λ (w : WorldState). Appends first second (outcome_lines w events)) start_is lines

    by_end : WritesEnd world.set world second third → (part : List ℕ) × BeginsRun set events part × Appends first third part
    by_end (inl kept) = (
      outcome_lines (new_world set) events,
      inl ([], sym (append-nil (outcome_lines (new_world set) events))),
      kept_on first second third (outcome_lines (new_world set) events) lines_so kept,
    )
    by_end (inr begun) = (
      outcome_lines (new_world set) events ++ begun.0,
      inr (
        begun.0,
        subst (λ (w : WorldState). BeginsEnd set w begun.0) world_so (subst (λ (s : Set). BeginsEnd s world begun.0) set_so begun.1),
        refl,
      ),
      appends_both first second third (outcome_lines (new_world set) events) begun.0 lines_so begun.2,
    )

-- events that stopped before the end
pub events_cut : (first second : Option (List ℕ)) (set : Set) (events : List Event) (start : WorldState) → start ≡ new_world set →
    AppendsPart first second (outcome_lines start events) → Keeps first second ⊎ ((part : List ℕ) × BeginsRun set events part × Appends first second part)
events_cut first second set events start start_is part =
    let so = subst (λ (w : WorldState). AppendsPart first second (outcome_lines w events)) start_is part in
    inr (so.0, inl so.1, so.2)
