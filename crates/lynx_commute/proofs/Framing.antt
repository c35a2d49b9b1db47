-- A hop reads and writes only the cells that it touches.
use Rattle.std.specs.Prelude.{◌≡◌, ◌≢◌, ℕ, ◌+◌, ◌++◌, List, [], ◌∷◌, All, Contains, map as map_list, Ok, Err, true, false, cond, if◌then◌else◌, unwrap_or, refl}
use Rattle.std.specs.List.{flat_map}
use Rattle.std.proofs.Common.{get_or, sym, ap, ◌∙◌, subst}
use Rattle.std.specs.Ordering.{eq_by_cmp}
use Rattle.std.specs.FinMap as map
use Rattle.std.proofs.lemmas.List.{get_or-map, length-map}
use Rattle.std.proofs.lemmas.List.Elements.{All-contains, All-map, All-head, All-tail, All-weaker}
use Rattle.lynx_cells.specs.Database.{cell_cmp, Database, IsZeroFree, value_at, with_value}
use Rattle.lynx_cells.proofs.Writes.{IsZeroFree-with_value, get-with_value, kept}
use Rattle.lynx_set.specs.declared.action.Action.{Action}
use Rattle.lynx_set.specs.declared.action.Action.TheVariants.{Get, Update, Let, Need}
use Rattle.lynx_set.specs.Set.{Set}
use Rattle.lynx_hops.specs.Meaning.{HopOutcome, after_results, key_of, value_of, updated, result_of, is_met, run}
use Rattle.lynx_foot.specs.declared.kind.Kind.TheVariants.{Getting}
use Rattle.lynx_foot.specs.Feet.{kind_of}
use Rattle.lynx_foot.specs.declared.touch.Touch.{Touch}
use Rattle.lynx_commute.specs.Acts.{Act, AgreeOn, IsUntouched, after, answer, answer_in, cell_of, database_in, outcome, touched}
use Rattle.lynx_commute.proofs.Writes.{CollidesWithNone, touch_at, touches_in}
use Rattle.lynx_commute.proofs.Commuting.{Leaves, Leaves-after_results, Leaves-database_in, run-keeps}
use Rattle.lynx_set.specs.Lookups.{actions_at}

-- ---- cells that aren't touched

CollidesWithNone-from_untouched : (table key : ℕ) (touches : List Touch) → IsUntouched touches (table, key) → CollidesWithNone (touch_at table key Getting) touches
CollidesWithNone-from_untouched table key [] untouched = tt
CollidesWithNone-from_untouched table key (touch ∷ touches) untouched = (
  λ collide. All-head (λ (touch : Touch). cell_of touch ≢ (table, key)) touch touches untouched (cc (collide.same_table, collide.same_key)),
  CollidesWithNone-from_untouched table key touches (All-tail (λ (touch : Touch). cell_of touch ≢ (table, key)) touch touches untouched),
)

-- a cell that an act doesn't touch is found as it was
pub get-after : (set : Set) (act : Act) (db : Database) (table key : ℕ) → IsUntouched (touched set act) (table, key) → map.get (after set act db) (table, key) ≡ map.get db (table, key)
get-after set act db table key untouched =
    Leaves-database_in (λ last. map.get last (table, key) ≡ map.get db (table, key)) db (outcome set act db) refl
    (run-keeps act.args 0 (actions_at set act.program act.hop) (act.args ++ flat_map (λ results. results) act.earlier) db table key (map.get db (table, key))
    (CollidesWithNone-from_untouched table key (touched set act) untouched) refl)

-- a cell that an act doesn't touch holds what it held
pub value_at-after : (set : Set) (act : Act) (db : Database) (table key : ℕ) → IsUntouched (touched set act) (table, key) → value_at (after set act db) table key ≡ value_at db table key
value_at-after set act db table key untouched = ap (λ held. unwrap_or held 0) (get-after set act db table key untouched)

-- ---- databases that agree where a hop reads and writes

-- the databases hold the same in each of these cells
abbrev pub Agree : (ℕ → ℕ → Type 0) → Database → Database → Type 0
Agree P left right = (table key : ℕ) → P table key → value_at left table key ≡ value_at right table key

-- the outcomes answer alike, and leave databases that agree
abbrev pub AgreeIn : (ℕ → ℕ → Type 0) → HopOutcome → HopOutcome → Type 0
AgreeIn P (Ok left) (Ok right) = (left.0 ≡ right.0) × Agree P left.1 right.1
AgreeIn P (Ok left) (Err need) = ⊥
AgreeIn P (Err need) (Ok right) = ⊥
AgreeIn P (Err left) (Err right) = left ≡ right

AgreeIn-after_results : (P : ℕ → ℕ → Type 0) (results : List ℕ) (left right : HopOutcome) → AgreeIn P left right → AgreeIn P (after_results results left) (after_results results right)
AgreeIn-after_results P results (Ok left) (Ok right) agree = (ap (λ rest. results ++ rest) agree.0, agree.1)
AgreeIn-after_results P results (Ok left) (Err need) agree = agree
AgreeIn-after_results P results (Err need) (Ok right) agree = agree
AgreeIn-after_results P results (Err left) (Err right) agree = agree

-- what a cell holds after a write
value_at-with_value : (db : Database) (table key value other place : ℕ) →
    value_at (with_value db table key value) other place ≡ cond (eq_by_cmp cell_cmp (other, place) (table, key)) (unwrap_or (kept value) 0) (value_at db other place)
value_at-with_value db table key value other place =
    ap (λ held. unwrap_or held 0) (get-with_value db table key value (other, place))
    ∙ (elim (eq_by_cmp cell_cmp (other, place) (table, key)) as (λ same. unwrap_or (cond same (kept value) (map.get db (other, place))) 0 ≡ cond same (unwrap_or (kept value) 0) (value_at db other place)) [
      | true ↦ refl
      | false ↦ refl
    ])

-- the same write keeps them in agreement
Agree-with_value : (P : ℕ → ℕ → Type 0) (left right : Database) (table key value : ℕ) → Agree P left right → Agree P (with_value left table key value) (with_value right table key value)
Agree-with_value P left right table key value agree other place here =
    value_at-with_value left table key value other place
    ∙ ap (cond (eq_by_cmp cell_cmp (other, place) (table, key)) (unwrap_or (kept value) 0)) (agree other place here)
    ∙ sym (value_at-with_value right table key value other place)

-- actions that touch only cells in which two databases agree come to the same
pub AgreeIn-run : (P : ℕ → ℕ → Type 0) (args : List ℕ) (needs : ℕ) (actions : List Action) (names : List ℕ) (left right : Database) →
    All (λ touch. P touch.table touch.key) (touches_in args actions) → Agree P left right →
    AgreeIn P (run args needs actions names left) (run args needs actions names right)
AgreeIn-run P args needs [] names left right touched agree = (refl, agree)
AgreeIn-run P args needs (Get table key ∷ actions) names left right touched agree =
    let place = key_of args key in
    let here : value_at left table place ≡ value_at right table place = agree table place (All-head (λ (touch : Touch). P touch.table touch.key) (touch_at table place Getting) (touches_in args actions) touched) in
    let value = value_at left table place in
    let later = AgreeIn-run P args needs actions (names ++ value ∷ []) left right (All-tail (λ (touch : Touch). P touch.table touch.key) (touch_at table place Getting) (touches_in args actions) touched) agree in
    let Same : ℕ → Type 0 = λ read. AgreeIn P (after_results (value ∷ []) (run args needs actions (names ++ value ∷ []) left)) (after_results (read ∷ []) (run args needs actions (names ++ read ∷ []) right)) in
    subst Same here (AgreeIn-after_results P (value ∷ []) (run args needs actions (names ++ value ∷ []) left) (run args needs actions (names ++ value ∷ []) right) later)
AgreeIn-run P args needs (Update update table key value ∷ actions) names left right touched agree =
    let place = key_of args key in
    let here : value_at left table place ≡ value_at right table place = agree table place (All-head (λ (touch : Touch). P touch.table touch.key) (touch_at table place (kind_of update)) (touches_in args actions) touched) in
    let new = updated update (value_at left table place) (value_of names value) in
    let later = AgreeIn-run P args needs actions names (with_value left table place new) (with_value right table place new)
    (All-tail (λ (touch : Touch). P touch.table touch.key) (touch_at table place (kind_of update)) (touches_in args actions) touched)
    (Agree-with_value P left right table place new agree) in
    let Same : ℕ → Type 0 = λ read. AgreeIn P (run args needs actions names (with_value left table place new)) (run args needs actions names (with_value right table place (updated update read (value_of names value)))) in
    subst Same here later
AgreeIn-run P args needs (Let first operator second ∷ actions) names left right touched agree =
    let value = result_of operator (value_of names first) (value_of names second) in
    AgreeIn-after_results P (value ∷ []) (run args needs actions (names ++ value ∷ []) left) (run args needs actions (names ++ value ∷ []) right)
    (AgreeIn-run P args needs actions (names ++ value ∷ []) left right touched agree)
AgreeIn-run P args needs (Need first relation second ∷ actions) names left right touched agree =
    elim (is_met relation (value_of names first) (value_of names second)) as
    (λ met. AgreeIn P (if met then run args (needs + 1) actions names left else Err needs) (if met then run args (needs + 1) actions names right else Err needs)) [
      | true ↦ AgreeIn-run P args (needs + 1) actions names left right touched agree
      | false ↦ refl
    ]

same_answer : (P : ℕ → ℕ → Type 0) (left right : HopOutcome) → AgreeIn P left right → answer_in left ≡ answer_in right
same_answer P (Ok left) (Ok right) agree = ap Ok agree.0
same_answer P (Ok left) (Err need) agree = absurd agree
same_answer P (Err need) (Ok right) agree = absurd agree
same_answer P (Err left) (Err right) agree = ap Err agree

Agree-database_in : (P : ℕ → ℕ → Type 0) (db other : Database) (left right : HopOutcome) → Agree P db other → AgreeIn P left right → Agree P (database_in db left) (database_in other right)
Agree-database_in P db other (Ok left) (Ok right) here agree = agree.1
Agree-database_in P db other (Ok left) (Err need) here agree = absurd agree
Agree-database_in P db other (Err need) (Ok right) here agree = absurd agree
Agree-database_in P db other (Err left) (Err right) here agree = here

AgreeIn-outcome : (P : ℕ → ℕ → Type 0) (set : Set) (act : Act) (left right : Database) → All (λ touch. P touch.table touch.key) (touched set act) → Agree P left right →
    AgreeIn P (outcome set act left) (outcome set act right)
AgreeIn-outcome P set act left right inside agree =
    AgreeIn-run P act.args 0 (actions_at set act.program act.hop) (act.args ++ flat_map (λ results. results) act.earlier) left right inside agree

-- of cells among which are all that an act touches: databases that agree on them give it the same answer
pub answer-agree : (P : ℕ → ℕ → Type 0) (set : Set) (act : Act) (left right : Database) → All (λ touch. P touch.table touch.key) (touched set act) → Agree P left right →
    answer set act left ≡ answer set act right
answer-agree P set act left right inside agree = same_answer P (outcome set act left) (outcome set act right) (AgreeIn-outcome P set act left right inside agree)

-- and agree on them after it
pub Agree-after : (P : ℕ → ℕ → Type 0) (set : Set) (act : Act) (left right : Database) → All (λ touch. P touch.table touch.key) (touched set act) → Agree P left right →
    Agree P (after set act left) (after set act right)
Agree-after P set act left right inside agree = Agree-database_in P left right (outcome set act left) (outcome set act right) agree (AgreeIn-outcome P set act left right inside agree)

-- ---- databases that agree on the touched cells

-- a cell of some of the touches
abbrev IsTouched : List Touch → ℕ → ℕ → Type 0
IsTouched touches table key = Contains (map_list cell_of touches) (table, key)

IsTouched-each : (touches : List Touch) → All (λ touch. IsTouched touches touch.table touch.key) touches
IsTouched-each touches k d within =
    let touch = get_or touches k d in
    (k, rw (length-map touches cell_of) within, get_or-map cell_of touches k d (cell_of touch) within)

Agree-from_AgreeOn : (touches : List Touch) (left right : Database) → AgreeOn touches left right → Agree (IsTouched touches) left right
Agree-from_AgreeOn touches left right agree table key touched =
    All-contains (λ (cell : ℕ × ℕ). value_at left cell.0 cell.1 ≡ value_at right cell.0 cell.1) (map_list cell_of touches) (table, key)
    (All-map (λ (cell : ℕ × ℕ). value_at left cell.0 cell.1 ≡ value_at right cell.0 cell.1) cell_of touches agree) touched

AgreeOn-from_Agree : (touches : List Touch) (left right : Database) → Agree (IsTouched touches) left right → AgreeOn touches left right
AgreeOn-from_Agree touches left right agree =
    All-weaker (λ (touch : Touch). IsTouched touches touch.table touch.key) (λ (touch : Touch). value_at left touch.table touch.key ≡ value_at right touch.table touch.key)
    (λ touch touched. agree touch.table touch.key touched) touches (IsTouched-each touches)

-- databases that agree on the cells that an act touches give it the same answer
pub answer-agree_on : (set : Set) (act : Act) (left right : Database) → AgreeOn (touched set act) left right → answer set act left ≡ answer set act right
answer-agree_on set act left right agree =
    answer-agree (IsTouched (touched set act)) set act left right (IsTouched-each (touched set act)) (Agree-from_AgreeOn (touched set act) left right agree)

-- and agree on them after it
pub AgreeOn-after : (set : Set) (act : Act) (left right : Database) → AgreeOn (touched set act) left right → AgreeOn (touched set act) (after set act left) (after set act right)
AgreeOn-after set act left right agree =
    AgreeOn-from_Agree (touched set act) (after set act left) (after set act right)
    (Agree-after (IsTouched (touched set act)) set act left right (IsTouched-each (touched set act)) (Agree-from_AgreeOn (touched set act) left right agree))

-- ---- databases with no cell kept at 0

IsZeroFree-run : (args : List ℕ) (needs : ℕ) (actions : List Action) (names : List ℕ) (db : Database) → IsZeroFree db → Leaves IsZeroFree (run args needs actions names db)
IsZeroFree-run args needs [] names db free = free
IsZeroFree-run args needs (Get table key ∷ actions) names db free =
    let value = value_at db table (key_of args key) in
    Leaves-after_results IsZeroFree (value ∷ []) (run args needs actions (names ++ value ∷ []) db) (IsZeroFree-run args needs actions (names ++ value ∷ []) db free)
IsZeroFree-run args needs (Update update table key value ∷ actions) names db free =
    let new = updated update (value_at db table (key_of args key)) (value_of names value) in
    IsZeroFree-run args needs actions names (with_value db table (key_of args key) new) (IsZeroFree-with_value db table (key_of args key) new free)
IsZeroFree-run args needs (Let left operator right ∷ actions) names db free =
    let value = result_of operator (value_of names left) (value_of names right) in
    Leaves-after_results IsZeroFree (value ∷ []) (run args needs actions (names ++ value ∷ []) db) (IsZeroFree-run args needs actions (names ++ value ∷ []) db free)
IsZeroFree-run args needs (Need left relation right ∷ actions) names db free =
    elim (is_met relation (value_of names left) (value_of names right)) as
    (λ met. Leaves IsZeroFree (if met then run args (needs + 1) actions names db else Err needs)) [
      | true ↦ IsZeroFree-run args (needs + 1) actions names db free
      | false ↦ tt
    ]

-- an act keeps no cell at 0
pub IsZeroFree-after : (set : Set) (act : Act) (db : Database) → IsZeroFree db → IsZeroFree (after set act db)
IsZeroFree-after set act db free =
    Leaves-database_in IsZeroFree db (outcome set act db) free
    (IsZeroFree-run act.args 0 (actions_at set act.program act.hop) (act.args ++ flat_map (λ results. results) act.earlier) db free)
