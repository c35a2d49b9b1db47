-- A run, and what is asked for behind it.
use Rattle.std.proofs.Common.{◌≡◌, ◌⊎◌, ℕ, Bool, true, false, List, [], ◌++◌, Option, Result, Ok, Err, OnErr, refl, sym, ap, ◌∙◌, subst, inl, inr}
use Rattle.std.specs.Prelude.{IfOk}
use Rattle.std.specs.Bool.{MatchBool}
use Rattle.std.specs.Io.KnownBytes.{Appends, Keeps}
use Rattle.std.proofs.lemmas.List.{append-nil}
use Rattle.lynx_set.specs.Rules.{IsSet}
use Rattle.lynx_set.specs.Set.{Set}
use Rattle.lynx_set.specs.Text.{text_of}
use Rattle.lynx_set.proofs.Literals.{literals_home}
use Rattle.lynx_entry.specs.declared.event.Event.{Event}
use Rattle.lynx_lines.specs.Scripts.{IsScript, script_of}
use Rattle.lynx_world.specs.Worlds.{WorldState, new_world}
use Rattle.lynx_lines.proofs.Parts.{appends_both, kept_on, part_on}
use Rattle.lynx_order.specs.declared.explained.Explained.{Explained}
use Rattle.lynx_order.specs.declared.explained.Explained.TheVariants.{Order, Cycle}
use Rattle.lynx_order.specs.Explained.{GivesOrder}
use Rattle.lynx_promises.proofs.Promised.{headline}
use Rattle.lynx_report.specs.declared.run.Ending.{Ending}
use Rattle.lynx_report.specs.declared.run.Ending.TheVariants.{Ordered}
use Rattle.lynx_report.specs.declared.run.RunFault.{RunFault}
use Rattle.lynx_report.specs.Options.{BeginsRunWith, PrintsOwed, RestPrints, RunPrintsWith, WritesRest}
use Rattle.lynx_report.specs.Runs.{EndPrints, Explains, IsPromised, Prints, RunPrints, cell_lines, ending_of, explained_line, outcome_lines, world_after}
use Rattle.lynx_report.specs.Written.{AppendsPart, BeginsRun, WritesEnd, WritesPart}
use Rattle.lynx_report.proofs.RunLemmas.{whole_run, world_after-set}
use Rattle.lynx_report.proofs.Stops.{events_cut, run_cut}

-- ---- where all went well

-- the lines of a run in a new world, and those behind it
pub run_with : (first second third fourth : Option (List ℕ)) (owed : Bool) (set : Set) (events : List Event) (start world : WorldState) (ending : Ending) →
    start ≡ new_world set → world ≡ world_after start events → Appends first second (outcome_lines start events) →
    ((printed : List ℕ) × EndPrints world.set world ending printed × Appends second third printed) →
    ((printed : List ℕ) × RestPrints owed world.set world.list printed × Appends third fourth printed) →
    (printed : List ℕ) × RunPrintsWith owed set events ending printed × Appends first fourth printed
run_with first second third fourth owed set events start world ending start_is world_is lines end rest =
    let run = whole_run first second third set events start world (Ok ending) start_is world_is lines end in
    let same : world ≡ world_after (new_world set) events = world_is ∙ ap (λ (w : WorldState). world_after w events) start_is in
    let set_is : world.set ≡ set = ap (λ (w : WorldState). w.set) same ∙ world_after-set (new_world set) events in (
      run.0 ++ rest.0,
      record {
        run_lines = run.0;
        run = run.1;
        rest = rest.0;
        asked = subst (λ (w : WorldState). RestPrints owed set w.list rest.0) same (subst (λ (s : Set). RestPrints owed s world.list rest.0) set_is rest.1);
        lines = refl;
      },
      appends_both first third fourth run.0 rest.0 run.2 rest.2,
    )

-- ---- where a fault stops it

-- all lines of a run are a beginning of it
begins_whole : (set : Set) (events : List Event) (ending : Ending) (printed : List ℕ) → RunPrints set events ending printed → BeginsRun set events printed
begins_whole set events ending printed run =
    let end = run.end in
    let whole : List ℕ = cell_lines set.tables end.cells ++ explained_line end.explained in
    subst (BeginsRun set events) (sym run.lines)
    (inr (
      run.rest,
      record {
        cells = end.cells;
        all_cells = end.all_cells;
        in_order = end.in_order;
        begins = inr (end.explained, end.explains, ([], sym end.lines ∙ sym (append-nil run.rest)));
      },
      refl,
    ))

-- a beginning of a run is one with what is behind it
begun_with : (owed : Bool) (set : Set) (events : List Event) (part : List ℕ) → BeginsRun set events part → BeginsRunWith owed set events part
begun_with true set events part begun = inl begun
begun_with false set events part begun = begun

stopped_run : {X E : Type 0} (first third : Option (List ℕ)) (owed : Bool) (set : Set) (events : List Event) (r : Result X E) →
    OnErr r (Keeps first third ⊎ ((part : List ℕ) × BeginsRun set events part × Appends first third part)) →
    OnErr r (Keeps first third ⊎ ((part : List ℕ) × BeginsRunWith owed set events part × Appends first third part))
stopped_run first third owed set events (Ok done) cut = tt
stopped_run first third owed set events (Err fault) (inl kept) = inl kept
stopped_run first third owed set events (Err fault) (inr begun) = inr (begun.0, begun_with owed set events begun.0 begun.1, begun.2)

-- a run that stopped before its end was written
pub stopped_end : (first second third : Option (List ℕ)) (owed : Bool) (set : Set) (events : List Event) (start world : WorldState) →
    start ≡ new_world set → world ≡ world_after start events → Appends first second (outcome_lines start events) →
    WritesEnd world.set world second third → Keeps first third ⊎ ((part : List ℕ) × BeginsRunWith owed set events part × Appends first third part)
stopped_end first second third owed set events start world start_is world_is lines end =
    stopped_run first third owed set events stopped (run_cut first second third set events start world stopped start_is world_is lines end)
  where
    stopped : Result (Unit {0}) (Unit {0})
    stopped = Err tt

-- .. and before all events ran
pub stopped_events : (first second : Option (List ℕ)) (owed : Bool) (set : Set) (events : List Event) (start : WorldState) → start ≡ new_world set →
    AppendsPart first second (outcome_lines start events) → Keeps first second ⊎ ((part : List ℕ) × BeginsRunWith owed set events part × Appends first second part)
stopped_events first second owed set events start start_is part =
    stopped_run first second owed set events stopped (events_cut first second set events start start_is part)
  where
    stopped : Result (Unit {0}) (Unit {0})
    stopped = Err tt

-- all lines of a run stand, and nothing more, or a beginning of what is asked for
pub stopped_rest : (first second third fourth : Option (List ℕ)) (owed : Bool) (set : Set) (events : List Event) (start world : WorldState) (ending : Ending) →
    start ≡ new_world set → world ≡ world_after start events → Appends first second (outcome_lines start events) →
    ((printed : List ℕ) × EndPrints world.set world ending printed × Appends second third printed) →
    WritesRest owed world.set world.list third fourth →
    Keeps first fourth ⊎ ((part : List ℕ) × BeginsRunWith owed set events part × Appends first fourth part)
stopped_rest first second third fourth owed set events start world ending start_is world_is lines end rest = by owed rest
  where
    run : (printed : List ℕ) × RunPrints set events ending printed × Appends first third printed
    run = whole_run first second third set events start world (Ok ending) start_is world_is lines end

    same : world ≡ world_after (new_world set) events
    same = world_is ∙ ap (λ (w : WorldState). world_after w events) start_is

    set_is : world.set ≡ set
    set_is = ap (λ (w : WorldState). w.set) same ∙ world_after-set (new_world set) events

    kept : (asked : Bool) → Keeps third fourth → Keeps first fourth ⊎ ((part : List ℕ) × BeginsRunWith asked set events part × Appends first fourth part)
    kept asked keeps =
        inr (run.0, begun_with asked set events run.0 (begins_whole set events ending run.0 run.1), kept_on first third fourth run.0 run.2 keeps)

    by : (asked : Bool) → WritesRest asked world.set world.list third fourth →
        Keeps first fourth ⊎ ((part : List ℕ) × BeginsRunWith asked set events part × Appends first fourth part)
    by false keeps = kept false keeps
    by true (inl keeps) = kept true keeps
    by true (inr begun) =
        let part = part_on first third fourth run.0 begun.0 run.2 begun.2 in
        inr (
          part.0,
          inr (
            ending,
            run.0 ++ begun.0,
            record {
              run_lines = run.0;
              run = run.1;
              rest = begun.0;
              asked = subst (λ (w : WorldState). RestPrints true set w.list begun.0) same (subst (λ (s : Set). RestPrints true s world.list begun.0) set_is begun.1);
              lines = refl;
            },
            part.1,
          ),
          part.2,
        )

-- ---- by texts

-- the lines of a run behind which nothing is asked for
run_alone : (set : Set) (events : List Event) (ending : Ending) (printed : List ℕ) → RunPrintsWith false set events ending printed → RunPrints set events ending printed
run_alone set events ending printed with_rest =
    let whole : printed ≡ with_rest.run_lines = with_rest.lines ∙ ap (λ more. with_rest.run_lines ++ more) with_rest.asked ∙ append-nil with_rest.run_lines in
    subst (RunPrints set events ending) (sym whole) with_rest.run

-- how the run ends that is explained by an order
ends_ordered : (explained : Explained) → GivesOrder explained → ending_of explained ≡ Ordered
ends_ordered (Order chains) given = refl
ends_ordered (Cycle chains) given = absurd given

-- all promises hold of a run over a set that has a text
pub explained_promised : (set : Set) (events : List Event) (ending : Ending) (explained : Explained) → IsSet set →
    Explains set (world_after (new_world set) events).list explained → ending ≡ ending_of explained → IsPromised set events ending
explained_promised set events ending explained is explains ending_is = record {
  promises = headline set events is;
  ordered = λ accepted. ending_is ∙ ends_ordered explained (explains.accepted (literals_home set is) accepted);
}

run_promised : (set : Set) (events : List Event) (ending : Ending) (printed : List ℕ) → IsSet set → RunPrints set events ending printed → IsPromised set events ending
run_promised set events ending printed is run = explained_promised set events ending run.end.explained is run.end.explains run.end.ending_is

-- a run of texts prints what it is to print
pub texts_print_with : (first third : Option (List ℕ)) (owed : Bool) (text script : List ℕ) (set : Set) (events : List Event) (r : Result Ending RunFault) →
    IsSet set × (text ≡ text_of set) → IsScript set events × (script ≡ script_of set events) →
    IfOk r (λ ending. (printed : List ℕ) × RunPrintsWith owed set events ending printed × Appends first third printed) →
    IfOk r (λ ending. (printed : List ℕ) × MatchBool owed (PrintsOwed text script ending printed) (Prints text script ending printed) × Appends first third printed)
texts_print_with first third owed text script set events (Err fault) is_set is_script ran = tt
texts_print_with first third true text script set events (Ok ending) is_set is_script ran = (
  ran.0,
  record {
    chains = set;
    is_set = is_set.0;
    set_spelled = is_set.1;
    events = events;
    is_script = is_script.0;
    script_spelled = is_script.1;
    run = ran.1;
    promised = run_promised set events ending _ is_set.0 ran.1.run;
  },
  ran.2,
)
texts_print_with first third false text script set events (Ok ending) is_set is_script ran = (
  ran.0,
  record {
    chains = set;
    is_set = is_set.0;
    set_spelled = is_set.1;
    events = events;
    is_script = is_script.0;
    script_spelled = is_script.1;
    run = run_alone set events ending ran.0 ran.1;
    promised = run_promised set events ending _ is_set.0 ran.1.run;
  },
  ran.2,
)

-- a beginning of a run of texts
part_of_texts : (first third : Option (List ℕ)) (text script : List ℕ) (set : Set) (events : List Event) → IsSet set × (text ≡ text_of set) →
    IsScript set events × (script ≡ script_of set events) → (part : List ℕ) → BeginsRun set events part → Appends first third part → WritesPart text script first third
part_of_texts first third text script set events is_set is_script part begun written =
    inr (
      part,
      record {
        chains = set;
        is_set = is_set.0;
        set_spelled = is_set.1;
        events = events;
        is_script = is_script.0;
        script_spelled = is_script.1;
        run = begun;
      },
      written,
    )

-- a run of texts that stopped
pub texts_cut_with : {X E : Type 0} (first third : Option (List ℕ)) (owed : Bool) (text script : List ℕ) (set : Set) (events : List Event) (r : Result X E) →
    IsSet set × (text ≡ text_of set) → IsScript set events × (script ≡ script_of set events) →
    OnErr r (Keeps first third ⊎ ((part : List ℕ) × BeginsRunWith owed set events part × Appends first third part)) →
    OnErr r (MatchBool owed
    (WritesPart text script first third ⊎ ((ending : Ending) × (printed : List ℕ) × PrintsOwed text script ending printed × AppendsPart first third printed))
    (WritesPart text script first third))
texts_cut_with first third owed text script set events (Ok done) is_set is_script cut = tt
texts_cut_with first third true text script set events (Err fault) is_set is_script (inl kept) = inl (inl kept)
texts_cut_with first third false text script set events (Err fault) is_set is_script (inl kept) = inl kept
texts_cut_with first third false text script set events (Err fault) is_set is_script (inr begun) =
    part_of_texts first third text script set events is_set is_script begun.0 begun.1 begun.2
texts_cut_with first third true text script set events (Err fault) is_set is_script (inr begun) = by begun.1
  where
    by : BeginsRunWith true set events begun.0 →
        WritesPart text script first third ⊎ ((ending : Ending) × (printed : List ℕ) × PrintsOwed text script ending printed × AppendsPart first third printed)
    by (inl run) = inl (part_of_texts first third text script set events is_set is_script begun.0 run begun.2)
    by (inr whole) =
        inr (
          whole.0,
          whole.1,
          record {
            chains = set;
            is_set = is_set.0;
            set_spelled = is_set.1;
            events = events;
            is_script = is_script.0;
            script_spelled = is_script.1;
            run = whole.2;
            promised = run_promised set events whole.0 _ is_set.0 whole.2.run;
          },
          (begun.0, whole.3, begun.2),
        )
