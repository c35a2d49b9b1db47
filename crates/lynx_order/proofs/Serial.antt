-- Hops that run chain by chain are the serial run of the chains' calls.
use Rattle.std.proofs.Common.{◌≡◌, ℕ, Bool, true, false, cond, List, [], ◌∷◌, ◌++◌, map, length, Option, Some, None, Ok, Err, filter, option_map, append_assoc, refl, sym, ap, ◌∙◌}
use Rattle.std.specs.Prelude.{IsSome, option_and_then}
use Rattle.std.specs.List.{cons_option, flat_map}
use Rattle.std.proofs.lemmas.List.{append-nil}
use Rattle.lynx_names.specs.declared.chain.ChainId.{ChainId}
use Rattle.lynx_cells.specs.Database.{Database}
use Rattle.lynx_set.specs.Set.{Set}
use Rattle.lynx_hops.specs.Meaning.{HopOutcome}
use Rattle.lynx_commute.specs.Acts.{after, answer, answer_in, database_in, outcome}
use Rattle.lynx_entry.specs.declared.entry.Entry.{Entry}
use Rattle.lynx_entry.specs.declared.entry.Entry.TheVariants.{Begun, Refused, Hop as HopRan}
use Rattle.lynx_entry.specs.declared.request.Request.{Request}
use Rattle.lynx_rules.specs.Deliveries.{same_chain}
use Rattle.lynx_world.specs.Placed.{Placed}
use Rattle.lynx_world.specs.Order.{done_hops}
use Rattle.lynx_order.specs.Explanations.{call_of, calls_of, request_of, results_in, results_of}
use Rattle.lynx_order.specs.Runs.{CallRun, SerialRun, ran_in, run_hops, serial_run}
use Rattle.lynx_order.proofs.ChainForm.{Form, IsChainOf, act_after, count-is, dones_of, results_in_all}
use Rattle.lynx_order.proofs.Dones.{Done, begun_as, done_in, dones, ran_as}
use Rattle.lynx_order.proofs.OneDatabase.{ReplayAll, replayed}

-- ---- one call

-- an answer that isn't a refusal tells the outcome
outcome-is : (o : HopOutcome) (results : List ℕ) (db : Database) → answer_in o ≡ Ok results → o ≡ Ok (results, database_in db o)
outcome-is (Ok ran) results db is = let same : ran.0 ≡ results = cc in ap (λ r. Ok (r, ran.1)) same
outcome-is (Err need) results db is = cc

-- the hops of a call run as its run
call_runs : (set : Set) (program : ℕ) (args : List ℕ) (earlier : List (List ℕ)) (list : List Done) (db last : Database) → IsChainOf program args earlier list →
    ReplayAll set last list db → run_hops set program args (length list) earlier db ≡ Some (record { results = earlier ++ results_in_all list; database = last })
call_runs set program args earlier [] db last chain runs =
    let made : List (List ℕ) → Database → Option CallRun = λ r d. Some (record { results = r; database = d }) in
    ap (made earlier) runs ∙ ap (λ r. made r last) (sym (append-nil earlier))
call_runs set program args earlier (done ∷ list) db last chain runs =
    let more : Option (List ℕ × Database) → Option CallRun = option_and_then (λ ran. run_hops set program args (length list) (earlier ++ ran.0 ∷ []) ran.1) in
    let act = act_after program args earlier in
    let answers : answer set act db ≡ Ok done.results = ap (λ a. answer set a db) (sym chain.0) ∙ runs.0 in
    let next : after set act db ≡ replayed set done db = ap (λ a. after set a db) (sym chain.0) in
    ap (λ o. more (ran_in o)) (outcome-is (outcome set act db) done.results db answers)
    ∙ ap (run_hops set program args (length list) (earlier ++ done.results ∷ [])) next
    ∙ call_runs set program args (earlier ++ done.results ∷ []) list (replayed set done db) last chain.1 runs.1
    ∙ ap (made last) (append_assoc earlier (done.results ∷ []) (results_in_all list))
  where
    made : Database → List (List ℕ) → Option CallRun
    made d r = Some (record { results = r; database = d })

-- ---- one call after another

-- hops run up to some database, and from there on
pub record Splits (set : Set) (list more : List Done) (db last : Database) : Type 0 where
  pub middle : Database
  pub first : ReplayAll set middle list db
  pub second : ReplayAll set last more middle

split_run : (set : Set) (list more : List Done) (db last : Database) → ReplayAll set last (list ++ more) db → Splits set list more db last
split_run set [] more db last runs = record { middle = db; first = refl; second = runs }
split_run set (done ∷ list) more db last runs =
    let rest = split_run set list more (replayed set done db) last runs.1 in
    record { middle = rest.middle; first = (runs.0, rest.first); second = rest.second }

-- the results that are kept of a chain's hops
results_here : (chain : ChainId) (entry : Entry) (results : List (List ℕ)) (list : List Done) → results ≡ results_in_all list →
    cons_option (results_in chain entry) results
    ≡ results_in_all (filter (λ done. same_chain done.chain chain) (cons_option (done_in entry) []) ++ list)
results_here chain (Begun begun) results list same = by (same_chain begun.chain chain)
  where
    by : (b : Bool) → cons_option (cond b (Some begun.results) None) results ≡ results_in_all (cond b (begun_as begun ∷ []) [] ++ list)
    by true = ap (λ l. begun.results ∷ l) same
    by false = same
results_here chain (Refused refused) results list same = same
results_here chain (HopRan ran) results list same = by (same_chain ran.message.chain chain)
  where
    by : (b : Bool) → cons_option (cond b (Some ran.results) None) results ≡ results_in_all (cond b (ran_as ran ∷ []) [] ++ list)
    by true = ap (λ l. ran.results ∷ l) same
    by false = same

results_of-is : (list : List Placed) (chain : ChainId) → results_of list chain ≡ results_in_all (dones_of list chain)
results_of-is [] chain = refl
results_of-is (placed ∷ list) chain =
    results_here chain placed.entry (results_of list chain) (dones_of list chain) (results_of-is list chain)
    ∙ ap results_in_all (sym (first_dones (done_in placed.entry)))
  where
    first_dones : (o : Option Done) → filter (λ done. same_chain done.chain chain) (cons_option o (dones list))
        ≡ filter (λ done. same_chain done.chain chain) (cons_option o []) ++ dones_of list chain
    first_dones None = refl
    first_dones (Some done) = by (same_chain done.chain chain)
      where
        by : (b : Bool) → cond b (done ∷ dones_of list chain) (dones_of list chain) ≡ cond b (done ∷ []) [] ++ dones_of list chain
        by true = refl
        by false = refl

-- the run of a chain's call
chain_runs : (set : Set) (list : List Placed) (chain : ChainId) (request : Request) (db last : Database) → Form (Some request) (dones_of list chain) →
    ReplayAll set last (dones_of list chain) db →
    run_hops set request.program request.args (length (done_hops chain list)) [] db ≡ Some (record { results = results_of list chain; database = last })
chain_runs set list chain request db last form runs =
    ap (λ n. run_hops set request.program request.args n [] db) (count-is list chain)
    ∙ call_runs set request.program request.args [] (dones_of list chain) db last form.0 runs
    ∙ ap made (sym (results_of-is list chain))
  where
    made : List (List ℕ) → Option CallRun
    made r = Some (record { results = r; database = last })

-- each of the chains has begun
abbrev pub AllBegun : List Placed → List ChainId → Type 0
AllBegun list [] = Unit {0}
AllBegun list (chain ∷ chains) = IsSome (request_of list chain) × AllBegun list chains

-- the hops of the chains, each chain's in a row, run as the serial run of their calls
pub serial_runs : (set : Set) (list : List Placed) (chains : List ChainId) (db last : Database) →
    ((chain : ChainId) → Form (request_of list chain) (dones_of list chain)) → AllBegun list chains →
    ReplayAll set last (flat_map (dones_of list) chains) db →
    serial_run set (calls_of list chains) db ≡ Some (record { results = map (results_of list) chains; database = last })
serial_runs set list [] db last form begun runs = ap made runs
  where
    made : Database → Option SerialRun
    made d = Some (record { results = []; database = d })
serial_runs set list (chain ∷ chains) db last form begun runs =
    by (request_of list chain) refl (form chain) begun.0 (λ middle rest. serial_runs set list chains middle last form begun.1 rest)
  where
    by : (o : Option Request) → request_of list chain ≡ o → Form o (dones_of list chain) → IsSome o →
        ((middle : Database) → ReplayAll set last (flat_map (dones_of list) chains) middle →
        serial_run set (calls_of list chains) middle ≡ Some (record { results = map (results_of list) chains; database = last })) →
        serial_run set (cons_option (option_map (call_of list chain) (request_of list chain)) (calls_of list chains)) db
        ≡ Some (record { results = results_of list chain ∷ map (results_of list) chains; database = last })
    by None is told some rest = cc
    by (Some request) is told some rest =
        let parts = split_run set (dones_of list chain) (flat_map (dones_of list) chains) db last runs in
        let more : Option CallRun → Option SerialRun =
        option_and_then (λ ran. option_map (λ rest. record { results = ran.results ∷ rest.results; database = rest.database })
        (serial_run set (calls_of list chains) ran.database)) in
        let add : Option SerialRun → Option SerialRun = option_map (λ rest. record { results = results_of list chain ∷ rest.results; database = rest.database }) in
        ap (λ o. serial_run set (cons_option (option_map (call_of list chain) o) (calls_of list chains)) db) is
        ∙ ap more (chain_runs set list chain request db parts.middle told parts.first)
        ∙ ap add (rest parts.middle parts.second)
