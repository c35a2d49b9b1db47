-- A hop gives as many values as it binds, and so few; a need that isn't met is one of few.
use Rattle.std.proofs.Common.{◌≡◌, ℕ, suc, ◌+◌, ◌<◌, ◌≤◌, Bool, true, false, cond, List, [], ◌∷◌, ◌++◌, length, Option, Some, None, Ok, Err, refl, sym, ap, ◌∙◌, arith}
use Rattle.std.specs.Prelude.{count_by, option_map, unwrap_or}
use Rattle.std.specs.List.{flat_map}
use Rattle.std.proofs.lemmas.List.Sums.{sum_by-cons, count_by-le-length}
use Rattle.lynx_names.specs.declared.limits.TheConstants.{MAX_ACTIONS}
use Rattle.lynx_cells.specs.Database.{Database, value_at, with_value}
use Rattle.lynx_set.specs.declared.action.Action.{Action}
use Rattle.lynx_set.specs.declared.action.Action.TheVariants.{Get, Update, Let, Need}
use Rattle.lynx_set.specs.declared.program.Hop.{Hop}
use Rattle.lynx_set.specs.Set.{Set}
use Rattle.lynx_set.specs.Lookups.{actions_at, hop_at}
use Rattle.lynx_hops.specs.Meaning.{HopOutcome, after_results, run, meaning, key_of, value_of, updated, result_of, is_met}
use Rattle.lynx_set.specs.Lookups.{binds}

ok_is : (one other : List ℕ × Database) → ◌≡◌ {A = HopOutcome} (Ok one) (Ok other) → one ≡ other
ok_is one other e = cc

-- what the actions gave behind one that binds a value
behind_bound : (value : ℕ) (outcome : HopOutcome) (results : List ℕ) (db : Database) → after_results (value ∷ []) outcome ≡ Ok (results, db) →
    (rest : List ℕ) × (outcome ≡ Ok (rest, db)) × (results ≡ value ∷ rest)
behind_bound value (Ok (rest, other)) results db e =
    let same = ok_is (value ∷ rest, other) (results, db) e in
    (rest, ap (λ d. Ok (rest, d)) (ap (λ (p : List ℕ × Database). p.1) same), sym (ap (λ (p : List ℕ × Database). p.0) same))
behind_bound value (Err need) results db e = cc

-- a need that was met
behind_need : (met : Bool) (rest : HopOutcome) (needs : ℕ) (results : List ℕ) (db : Database) →
    cond met rest (Err needs) ≡ Ok (results, db) → rest ≡ Ok (results, db)
behind_need true rest needs results db e = e
behind_need false rest needs results db e = cc

-- one more action before those that were counted
counted_on : (action : Action) (actions : List Action) (results : List ℕ) (n : ℕ) → cond (binds action) 1 0 ≡ n →
    length results ≡ n + count_by binds actions → length results ≡ count_by binds (action ∷ actions)
counted_on action actions results n one count =
    let more = sum_by-cons (λ a. cond (binds a) 1 0) action actions in
    count ∙ sym (more ∙ ap (λ m. m + count_by binds actions) one)

-- actions give as many values as they bind
pub run-counted : (args : List ℕ) (needs : ℕ) (actions : List Action) (names : List ℕ) (before after : Database) (results : List ℕ) →
    run args needs actions names before ≡ Ok (results, after) → length results ≡ count_by binds actions
run-counted args needs [] names before after results e = sym (ap (λ (p : List ℕ × Database). length p.0) (ok_is _ _ e))
run-counted args needs (Get table key ∷ actions) names before after results e =
    let value = value_at before table (key_of args key) in
    let rest = behind_bound value (run args needs actions (names ++ value ∷ []) before) results after e in
    let count = run-counted args needs actions (names ++ value ∷ []) before after rest.0 rest.1 in
    counted_on (Get table key) actions results 1 refl (ap length rest.2 ∙ omega arith)
run-counted args needs (Update update table key value ∷ actions) names before after results e =
    counted_on (Update update table key value) actions results 0 refl
    (run-counted args needs actions names (with_value before table (key_of args key) (updated update (value_at before table (key_of args key)) (value_of names value))) after results e ∙ omega arith)
run-counted args needs (Let left operator right ∷ actions) names before after results e =
    let value = result_of operator (value_of names left) (value_of names right) in
    let rest = behind_bound value (run args needs actions (names ++ value ∷ []) before) results after e in
    let count = run-counted args needs actions (names ++ value ∷ []) before after rest.0 rest.1 in
    counted_on (Let left operator right) actions results 1 refl (ap length rest.2 ∙ omega arith)
run-counted args needs (Need left relation right ∷ actions) names before after results e =
    counted_on (Need left relation right) actions results 0 refl
    (run-counted args (needs + 1) actions names before after results
    (behind_need (is_met relation (value_of names left) (value_of names right)) (run args (needs + 1) actions names before) needs results after e) ∙ omega arith)

err_is : (one other : ℕ) → ◌≡◌ {A = HopOutcome} (Err one) (Err other) → one ≡ other
err_is one other e = cc

-- what refused behind a value that was bound
err_behind : (values : List ℕ) (outcome : HopOutcome) (need : ℕ) → after_results values outcome ≡ Err need → outcome ≡ Err need
err_behind values (Ok (rest, db)) need e = cc
err_behind values (Err other) need e = e

-- a need that was not met, or one behind it
need_or_rest : (met : Bool) (rest : HopOutcome) (needs count need : ℕ) → (rest ≡ Err need → need < needs + 1 + count) →
    cond met rest (Err needs) ≡ Err need → need < needs + suc count
need_or_rest true rest needs count need behind e = omega (arith, behind e)
need_or_rest false rest needs count need behind e = omega (arith, err_is needs need e)

-- the need that was not met is one of the actions
pub run-need : (args : List ℕ) (needs : ℕ) (actions : List Action) (names : List ℕ) (before : Database) (need : ℕ) →
    run args needs actions names before ≡ Err need → need < needs + length actions
run-need args needs [] names before need e = cc
run-need args needs (Get table key ∷ actions) names before need e =
    let value = value_at before table (key_of args key) in
    let rest = err_behind (value ∷ []) (run args needs actions (names ++ value ∷ []) before) need e in
    omega (arith, run-need args needs actions (names ++ value ∷ []) before need rest)
run-need args needs (Update update table key value ∷ actions) names before need e =
    omega (arith, run-need args needs actions names (with_value before table (key_of args key) (updated update (value_at before table (key_of args key)) (value_of names value))) need e)
run-need args needs (Let left operator right ∷ actions) names before need e =
    let value = result_of operator (value_of names left) (value_of names right) in
    let rest = err_behind (value ∷ []) (run args needs actions (names ++ value ∷ []) before) need e in
    omega (arith, run-need args needs actions (names ++ value ∷ []) before need rest)
run-need args needs (Need left relation right ∷ actions) names before need e =
    need_or_rest (is_met relation (value_of names left) (value_of names right)) (run args (needs + 1) actions names before) needs
    (length actions) need (λ rest. omega (arith, run-need args (needs + 1) actions names before need rest)) e

-- the actions of a hop are few
few_actions : (o : Option Hop) → length (unwrap_or (option_map (λ (h : Hop). h.actions) o) []) ≤ MAX_ACTIONS
few_actions None = omega arith
few_actions (Some hop) = hop.few_actions

-- and so are its results
pub meaning-few : (set : Set) (program hop : ℕ) (args : List ℕ) (earlier : List (List ℕ)) (before after : Database) (results : List ℕ) →
    meaning set program hop args earlier before ≡ Ok (results, after) → length results ≤ MAX_ACTIONS
meaning-few set program hop args earlier before after results is =
    let actions = actions_at set program hop in
    let counted = run-counted args 0 actions (args ++ flat_map (λ r. r) earlier) before after results is in
    let below = count_by-le-length binds actions in
    let few = few_actions (hop_at set program hop) in
    omega arith

-- and its needs
pub meaning-need : (set : Set) (program hop : ℕ) (args : List ℕ) (earlier : List (List ℕ)) (before : Database) (need : ℕ) →
    meaning set program hop args earlier before ≡ Err need → need < MAX_ACTIONS
meaning-need set program hop args earlier before need is =
    let actions = actions_at set program hop in
    let among = run-need args 0 actions (args ++ flat_map (λ r. r) earlier) before need is in
    let few = few_actions (hop_at set program hop) in
    omega arith
