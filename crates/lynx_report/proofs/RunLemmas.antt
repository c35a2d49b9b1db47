-- One more event of a run.
use Rattle.std.proofs.Common.{◌≡◌, ℕ, List, [], ◌∷◌, ◌++◌, Option, Some, None, refl, sym, ap, ◌∙◌, subst}
use Rattle.std.specs.List.{flat_map}
use Rattle.std.proofs.lemmas.Grind.{flat_map-append}
use Rattle.std.proofs.lemmas.List.{append-nil}
use Rattle.std.specs.Io.KnownBytes.{Appends}
use Rattle.std.specs.List.Sorted.{IsPermutation, IsSorted}
use Rattle.std.specs.Prelude.{Result, Ok, Err, OnOk, OnErr, IfOk, IfErr}
pub use Rattle.lynx_lines.proofs.Parts.{appends_both}
use Rattle.lynx_set.specs.Set.{Set}
use Rattle.lynx_world.specs.Tables.{cells_of, triple_cmp}
use Rattle.lynx_entry.specs.declared.event.Event.{Event}
use Rattle.lynx_entry.specs.declared.event.Outcome.{Outcome}
use Rattle.lynx_names.specs.declared.limits.TheConstants.{MAX_HELD}
use Rattle.lynx_world.specs.Worlds.{WorldState, new_world}
use Rattle.lynx_world.specs.Steps.{step}
use Rattle.lynx_report.specs.declared.run.RunFault.{RunFault}
use Rattle.lynx_report.specs.declared.run.RunFault.TheVariants.{Set as SetFault, Script as ScriptFault, Write, Memory}
use Rattle.lynx_lines.specs.Printed.{outcome_text}
use Rattle.lynx_lex.specs.Lines.{with_feed}
use Rattle.lynx_order.specs.declared.explained.Explained.{Explained}
use Rattle.lynx_world.proofs.Growing.{step-set}
use Rattle.lynx_report.specs.declared.run.Ending.{Ending}
use Rattle.lynx_report.specs.Runs.{world_after, outcomes_of, outcome_lines, cell_lines, ending_of, explained_line, EndPrints, Explains, IsLate, RunPrints, StopsFor}

pub world_after-push : (world : WorldState) (events : List Event) (event : Event) →
    world_after world (events ++ event ∷ []) ≡ (step MAX_HELD (world_after world events) event).world
world_after-push world [] event = refl
world_after-push world (first ∷ events) event = world_after-push (step MAX_HELD world first).world events event

outcomes_of-push : (world : WorldState) (events : List Event) (event : Event) →
    outcomes_of world (events ++ event ∷ []) ≡ outcomes_of world events ++ (step MAX_HELD (world_after world events) event).outcome ∷ []
outcomes_of-push world [] event = refl
outcomes_of-push world (first ∷ events) event =
    ap (λ outcomes. (step MAX_HELD world first).outcome ∷ outcomes) (outcomes_of-push (step MAX_HELD world first).world events event)

outcome_lines-push : (world : WorldState) (events : List Event) (event : Event) →
    outcome_lines world (events ++ event ∷ []) ≡ outcome_lines world events ++ with_feed (outcome_text (step MAX_HELD (world_after world events) event).outcome)
outcome_lines-push world events event =
    ap (flat_map (λ outcome. with_feed (outcome_text outcome))) (outcomes_of-push world events event)
    ∙ flat_map-append (λ outcome. with_feed (outcome_text outcome)) (outcomes_of world events) ((step MAX_HELD (world_after world events) event).outcome ∷ [])
    ∙ ap (λ bytes. outcome_lines world events ++ bytes) (append-nil (with_feed (outcome_text (step MAX_HELD (world_after world events) event).outcome)))

-- nothing more
pub appends_nothing : (a : Option (List ℕ)) → Appends a a []
appends_nothing None = tt
appends_nothing (Some bytes) = sym (append-nil bytes)

-- what follows from what holds at a fault
pub at_err : {X E P Q : Type 0} (r : Result X E) → (P → Q) → OnErr r P → OnErr r Q
at_err (Ok done) so holds = tt
at_err (Err fault) so holds = so holds

-- and where the second step may fail
pub appends_on : (first second third : Option (List ℕ)) (xs ys : List ℕ) (r : Result (Unit {0}) RunFault) → Appends first second xs
    → OnOk r (Appends second third ys) → OnOk r (Appends first third (xs ++ ys))
appends_on first second third xs ys (Ok done) a b = appends_both first second third xs ys a b
appends_on first second third xs ys (Err fault) a b = tt

-- the lines of one more event
pub lines_on : (first second third : Option (List ℕ)) (start world : WorldState) (events : List Event) (event : Event) →
    world ≡ world_after start events → Appends first second (outcome_lines start events) →
    Appends second third (with_feed (outcome_text (step MAX_HELD world event).outcome)) → Appends first third (outcome_lines start (events ++ event ∷ []))
lines_on first second third start world events event same before now =
    subst (Appends first third)
    (ap (λ w. outcome_lines start events ++ with_feed (outcome_text (step MAX_HELD w event).outcome)) same ∙ sym (outcome_lines-push start events event))
    (appends_both first second third _ _ before now)

-- the world after one more event
pub world_on : (start world after : WorldState) (events : List Event) (event : Event) →
    world ≡ world_after start events → after ≡ (step MAX_HELD world event).world → after ≡ world_after start (events ++ event ∷ [])
world_on start world after events event same now =
    now ∙ ap (λ w. (step MAX_HELD w event).world) same ∙ sym (world_after-push start events event)

-- what one more event comes to
pub outcomes_on : (start world : WorldState) (events : List Event) (event : Event) (before after : List Outcome) (outcome : Outcome) →
    world ≡ world_after start events → before ≡ outcomes_of start events → outcome ≡ (step MAX_HELD world event).outcome → after ≡ before ++ outcome ∷ [] →
    after ≡ outcomes_of start (events ++ event ∷ [])
outcomes_on start world events event before after outcome same so_far now pushed =
    pushed ∙ ap (λ outcomes. outcomes ++ outcome ∷ []) so_far
    ∙ ap (λ last. outcomes_of start events ++ last ∷ []) (now ∙ ap (λ w. (step MAX_HELD w event).outcome) same)
    ∙ sym (outcomes_of-push start events event)

-- the lines of the cells, and then the one that explains the list
pub end_prints : (first second third : Option (List ℕ)) (world : WorldState) (cells : List (ℕ × ℕ × ℕ)) (explained : Explained) →
    IsPermutation (cells_of world) cells → IsSorted triple_cmp cells → Appends first second (cell_lines world.set.tables cells) →
    Explains world.set world.list explained → Appends second third (explained_line explained) →
    (printed : List ℕ) × EndPrints world.set world (ending_of explained) printed × Appends first third printed
end_prints first second third world cells explained all_cells in_order before explains now = (
  cell_lines world.set.tables cells ++ explained_line explained,
  record {
    cells = cells;
    all_cells = all_cells;
    in_order = in_order;
    explained = explained;
    explains = explains;
    ending_is = refl;
    lines = refl;
  },
  appends_both first second third _ _ before now,
)

-- events leave the set as it was
pub world_after-set : (world : WorldState) (events : List Event) → (world_after world events).set ≡ world.set
world_after-set world [] = refl
world_after-set world (event ∷ events) = world_after-set (step MAX_HELD world event).world events ∙ step-set MAX_HELD world event

-- the lines of a whole run in a new world
pub whole_run : (first second third : Option (List ℕ)) (set : Set) (events : List Event) (start world : WorldState) (r : Result Ending RunFault) →
    start ≡ new_world set → world ≡ world_after start events → Appends first second (outcome_lines start events) →
    IfOk r (λ ending. (printed : List ℕ) × EndPrints world.set world ending printed × Appends second third printed) →
    IfOk r (λ ending. (printed : List ℕ) × RunPrints set events ending printed × Appends first third printed)
whole_run first second third set events start world (Ok ending) start_is world_is lines rest =
    let same : world ≡ world_after (new_world set) events = world_is ∙ ap (λ (w : WorldState). world_after w events) start_is in
    let set_is : world.set ≡ set = ap (λ (w : WorldState). w.set) same ∙ world_after-set (new_world set) events in (
      outcome_lines (new_world set) events ++ rest.0,
      record {
        rest = rest.0;
        end = subst (λ (w : WorldState). EndPrints set w ending rest.0) same (subst (λ (s : Set). EndPrints s world ending rest.0) set_is rest.1);
        lines = refl;
      },
      appends_both first second third _ _ (subst (λ (w : WorldState). Appends first second (outcome_lines w events)) start_is lines) rest.2,
    )
whole_run first second third set events start world (Err fault) start_is world_is lines rest = tt

-- a late fault needs no reason in the texts
pub late_stops : (text script : List ℕ) (unwritten : Type 0) (r : Result Ending RunFault) → IfErr r IsLate → IfErr r (StopsFor text script unwritten)
late_stops text script unwritten (Ok done) late = tt
late_stops text script unwritten (Err (SetFault fault)) late = absurd late
late_stops text script unwritten (Err (ScriptFault fault)) late = absurd late
late_stops text script unwritten (Err Write) late = tt
late_stops text script unwritten (Err Memory) late = tt
