-- Outcomes with nothing before them, and changes that change nothing.
use Rattle.std.proofs.Common.{◌≡◌, ℕ, List, [], ◌∷◌, length, Ok, Err, drop, ◌≤◌, refl, sym, ◌∙◌, ap, arith}
use Rattle.std.proofs.lemmas.List.{drop_all, append-nil}
use Rattle.std.specs.FinMap as map
use Rattle.lynx_cells.specs.Database.{Database, cell_cmp, applied, written}
use Rattle.lynx_set.specs.declared.action.Action.{Action}
use Rattle.lynx_hops.specs.declared.run.Running.{Running}
use Rattle.lynx_hops.specs.Meaning.{HopOutcome, after_results}
use Rattle.lynx_hops.specs.inner.Runs.{here, outcome_of}

pub after_no_results : (outcome : HopOutcome) → after_results [] outcome ≡ outcome
after_no_results (Ok (results, db)) = refl
after_no_results (Err need) = refl

no_entries : (changes : List ((ℕ × ℕ) × ℕ)) → length changes ≡ 0 → changes ≡ []
no_entries [] e = refl
no_entries (change ∷ changes) e = absurd (omega arith)

entries-empty : map.entries (map.empty {X = ℕ} {R = cell_cmp}) ≡ []
entries-empty = no_entries _ (sym (map.len-entries map.empty) ∙ map.len-empty cell_cmp ℕ)

pub applied_none : (db : Database) → applied map.empty db ≡ db
applied_none db = ap (λ changes. written changes db) entries-empty

-- a hop whose actions are done
pub outcome-at_end : (running : Running) (actions : List Action) (i : ℕ) → length actions ≤ i →
    outcome_of running (drop i actions) ≡ Ok (running.results, here running)
outcome-at_end running actions i done =
    rw (drop_all i actions done) (ap (λ results. Ok (results, here running)) (append-nil running.results))
