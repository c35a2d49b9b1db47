-- Hops that don't conflict change places.
use Rattle.std.specs.Prelude.{◌≡◌, ◌≢◌, ℕ, ◌+◌, ◌++◌, List, [], ◌∷◌, Any, Option, Ok, Err, true, false, cond, if◌then◌else◌, unwrap_or, refl}
use Rattle.std.specs.List.{flat_map}
use Rattle.std.proofs.Common.{suc, sym, ap, ◌∙◌, arith}
use Rattle.std.specs.Ordering.{eq_by_cmp}
use Rattle.std.specs.FinMap as map
use Rattle.lynx_cells.specs.Database.{cell_cmp, Database, value_at, with_value}
use Rattle.lynx_cells.proofs.CellOrder.{same_cell}
use Rattle.lynx_cells.proofs.Writes.{get-with_value, kept}
use Rattle.lynx_set.specs.declared.action.Action.{Action}
use Rattle.lynx_set.specs.declared.action.Action.TheVariants.{Get, Update, Let, Need}
use Rattle.lynx_set.specs.Set.{Set}
use Rattle.lynx_hops.specs.Meaning.{HopOutcome, after_results, key_of, value_of, updated, result_of, is_met, run}
use Rattle.lynx_foot.specs.declared.kind.Kind.TheVariants.{Getting}
use Rattle.lynx_foot.specs.Feet.{kind_of}
use Rattle.lynx_foot.specs.declared.touch.Touch.{Touch}
use Rattle.lynx_foot.specs.Conflicts.{Collides, Conflicts}
use Rattle.lynx_foot.proofs.ConflictLaws.{Conflicts-swapped}
use Rattle.lynx_commute.specs.Acts.{Act, ChangePlaces, after, answer, answer_in, database_in, outcome, touched}
use Rattle.lynx_commute.proofs.Changes.{AllPass, answer_in-changed, changed, database_in-changed, run-change, with_update}
use Rattle.lynx_commute.proofs.Writes.{AllPass-with_update, CollidesWithNone, apart, get_of_update, touch_at, touches_in, turned}
use Rattle.lynx_set.specs.Lookups.{actions_at}

-- ---- a cell that isn't written keeps what it holds

-- the database that the actions leave is of this kind
abbrev pub Leaves : (Database → Type 0) → HopOutcome → Type 0
Leaves P (Ok ran) = P ran.1
Leaves P (Err need) = Unit {0}

pub Leaves-after_results : (P : Database → Type 0) (results : List ℕ) (outcome : HopOutcome) → Leaves P outcome → Leaves P (after_results results outcome)
Leaves-after_results P results (Ok ran) leaves = leaves
Leaves-after_results P results (Err need) leaves = leaves

pub Leaves-database_in : (P : Database → Type 0) (db : Database) (outcome : HopOutcome) → P db → Leaves P outcome → P (database_in db outcome)
Leaves-database_in P db (Ok ran) here leaves = leaves
Leaves-database_in P db (Err need) here leaves = here

-- other cells keep what they hold
pub get-with_value_other : (db : Database) (written other : ℕ × ℕ) (value : ℕ) → other ≢ written → map.get (with_value db written.0 written.1 value) other ≡ map.get db other
get-with_value_other db written other value differ =
    get-with_value db written.0 written.1 value other
    ∙ (elim (eq_by_cmp cell_cmp other written) as (λ t. eq_by_cmp cell_cmp other written ≡ t → cond t (kept value) (map.get db other) ≡ map.get db other) [
      | true ↦ λ same. absurd (differ (same_cell other written same))
      | false ↦ λ _. refl
    ] refl)

-- where a get of the cell would collide with none of the actions, they leave the cell as it is
pub run-keeps : (args : List ℕ) (needs : ℕ) (actions : List Action) (names : List ℕ) (db : Database) (table key : ℕ) (held : Option ℕ) →
    CollidesWithNone (touch_at table key Getting) (touches_in args actions) → map.get db (table, key) ≡ held →
    Leaves (λ last. map.get last (table, key) ≡ held) (run args needs actions names db)
run-keeps args needs [] names db table key held none here = here
run-keeps args needs (Get other place ∷ actions) names db table key held none here =
    let value = value_at db other (key_of args place) in
    Leaves-after_results (λ last. map.get last (table, key) ≡ held) (value ∷ []) (run args needs actions (names ++ value ∷ []) db)
    (run-keeps args needs actions (names ++ value ∷ []) db table key held none.1 here)
run-keeps args needs (Update update other place value ∷ actions) names db table key held none here =
    let new = updated update (value_at db other (key_of args place)) (value_of names value) in
    run-keeps args needs actions names (with_value db other (key_of args place) new) table key held none.1
    (get-with_value_other db (other, key_of args place) (table, key) new (turned (other, key_of args place) (table, key) (apart table key other (key_of args place) Getting (kind_of update) none.0 (get_of_update update))) ∙ here)
run-keeps args needs (Let left operator right ∷ actions) names db table key held none here =
    let value = result_of operator (value_of names left) (value_of names right) in
    Leaves-after_results (λ last. map.get last (table, key) ≡ held) (value ∷ []) (run args needs actions (names ++ value ∷ []) db)
    (run-keeps args needs actions (names ++ value ∷ []) db table key held none here)
run-keeps args needs (Need left relation right ∷ actions) names db table key held none here =
    elim (is_met relation (value_of names left) (value_of names right)) as
    (λ met. Leaves (λ last. map.get last (table, key) ≡ held) (if met then run args (needs + 1) actions names db else Err needs)) [
      | true ↦ run-keeps args (needs + 1) actions names db table key held none here
      | false ↦ tt
    ]

-- ---- no two touches collide

abbrev pub NoneClash : List Touch → List Touch → Type 0
NoneClash [] rights = Unit {0}
NoneClash (left ∷ lefts) rights = CollidesWithNone left rights × NoneClash lefts rights

Any-here : {X : Type 0} (P : X → Type 0) (x : X) (xs : List X) → P x → Any P (x ∷ xs)
Any-here P x xs holds = (0, x, omega arith, refl, holds)

Any-later : {X : Type 0} (P : X → Type 0) (x : X) (xs : List X) → Any P xs → Any P (x ∷ xs)
Any-later P x xs found = (suc found.0, found.1, omega arith, found.3, found.4)

CollidesWithNone-from_Any : (left : Touch) (rights : List Touch) → ¬ Any (λ right. Collides left right) rights → CollidesWithNone left rights
CollidesWithNone-from_Any left [] none = tt
CollidesWithNone-from_Any left (right ∷ rights) none = (
  λ collide. none (Any-here (λ right. Collides left right) right rights collide),
  CollidesWithNone-from_Any left rights (λ found. none (Any-later (λ right. Collides left right) right rights found)),
)

NoneClash-from_Conflicts : (lefts rights : List Touch) → ¬ Conflicts lefts rights → NoneClash lefts rights
NoneClash-from_Conflicts [] rights none = tt
NoneClash-from_Conflicts (left ∷ lefts) rights none = (
  CollidesWithNone-from_Any left rights (λ found. none (Any-here (λ left. Any (λ right. Collides left right) rights) left lefts found)),
  NoneClash-from_Conflicts lefts rights (λ found. none (Any-later (λ left. Any (λ right. Collides left right) rights) left lefts found)),
)

-- ---- a hop as a change of the database

-- the database after all of these actions
abbrev pub after_all : List ℕ → List Action → List ℕ → Database → Database
after_all args actions names db = database_in db (run args 0 actions names db)

-- a change that all actions pass passes them
after_all-change : (args : List ℕ) (actions : List Action) (names : List ℕ) (change : Database → Database) (db : Database) → AllPass args change actions →
    after_all args actions names (change db) ≡ change (after_all args actions names db)
after_all-change args actions names change db pass =
    ap (database_in (change db)) (run-change args change 0 actions names db pass) ∙ database_in-changed change db (run args 0 actions names db)

-- actions that don't collide with a hop's pass the hop
AllPass-after_all : (args : List ℕ) (actions : List Action) (hop_args : List ℕ) (hop_actions : List Action) (hop_names : List ℕ) →
    NoneClash (touches_in args actions) (touches_in hop_args hop_actions) → AllPass args (after_all hop_args hop_actions hop_names) actions
AllPass-after_all args [] hop_args hop_actions hop_names none = tt
AllPass-after_all args (Get table place ∷ actions) hop_args hop_actions hop_names none = (
  λ db. ap (λ held. unwrap_or held 0) (Leaves-database_in (λ last. map.get last (table, key_of args place) ≡ map.get db (table, key_of args place)) db (run hop_args 0 hop_actions hop_names db) refl
      (run-keeps hop_args 0 hop_actions hop_names db table (key_of args place) (map.get db (table, key_of args place)) none.0 refl)),
  AllPass-after_all args actions hop_args hop_actions hop_names none.1,
)
AllPass-after_all args (Update update table place _ ∷ actions) hop_args hop_actions hop_names none = (
  λ db by. sym (after_all-change hop_args hop_actions hop_names (λ db. with_update db update table (key_of args place) by) db (AllPass-with_update hop_args hop_actions update table (key_of args place) by none.0)),
  AllPass-after_all args actions hop_args hop_actions hop_names none.1,
)
AllPass-after_all args (Let left operator right ∷ actions) hop_args hop_actions hop_names none = (tt, AllPass-after_all args actions hop_args hop_actions hop_names none)
AllPass-after_all args (Need left relation right ∷ actions) hop_args hop_actions hop_names none = (tt, AllPass-after_all args actions hop_args hop_actions hop_names none)

-- ---- two acts

-- behind another act that it doesn't conflict with, an act comes to the same, with the other's change made
outcome-after : (set : Set) (act other : Act) (db : Database) → ¬ Conflicts (touched set act) (touched set other) →
    outcome set act (after set other db) ≡ changed (after set other) (outcome set act db)
outcome-after set act other db none =
    run-change act.args (after set other) 0 (actions_at set act.program act.hop) (act.args ++ flat_map (λ results. results) act.earlier) db
    (AllPass-after_all act.args (actions_at set act.program act.hop) other.args (actions_at set other.program other.hop) (other.args ++ flat_map (λ results. results) other.earlier)
    (NoneClash-from_Conflicts (touched set act) (touched set other) none))

answer-after : (set : Set) (act other : Act) (db : Database) → ¬ Conflicts (touched set act) (touched set other) →
    answer set act (after set other db) ≡ answer set act db
answer-after set act other db none =
    ap answer_in (outcome-after set act other db none) ∙ answer_in-changed (after set other) (outcome set act db)

after-after : (set : Set) (act other : Act) (db : Database) → ¬ Conflicts (touched set act) (touched set other) →
    after set act (after set other db) ≡ after set other (after set act db)
after-after set act other db none =
    ap (database_in (after set other db)) (outcome-after set act other db none) ∙ database_in-changed (after set other) db (outcome set act db)

-- acts that don't conflict change places
pub ChangePlaces-from_no_conflict : (set : Set) (first second : Act) (db : Database) → ¬ Conflicts (touched set first) (touched set second) → ChangePlaces set first second db
ChangePlaces-from_no_conflict set first second db none = record {
  first_answers = answer-after set first second db none;
  second_answers = answer-after set second first db (λ conflict. none (Conflicts-swapped (touched set second) (touched set first) conflict));
  same_database = sym (after-after set first second db none);
}
