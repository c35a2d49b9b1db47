-- How far a chain has come is told by its last entry.
use Rattle.std.proofs.Common.{◌≡◌, ℕ, ◌+◌, ◌<◌, Bool, true, false, cond, List, [], ◌∷◌, ◌++◌, length, filter, option_map, Option, Some, None, refl, ap, ◌∙◌, arith}
use Rattle.std.specs.BTreeMap.{is_at}
use Rattle.std.specs.List.{cons_option}
use Rattle.std.specs.Option.{option_or}
use Rattle.std.proofs.lemmas.List.{length-append}
use Rattle.lynx_commute.specs.Acts.{Act}
use Rattle.lynx_names.specs.declared.chain.ChainId.{ChainId}
use Rattle.lynx_set.specs.Set.{Set}
use Rattle.lynx_entry.specs.declared.entry.Entry.{Entry}
use Rattle.lynx_entry.specs.declared.entry.Entry.TheVariants.{Begun, Refused, Hop}
use Rattle.lynx_entry.specs.declared.request.Request.{Request}
use Rattle.lynx_rules.specs.Deliveries.{same_chain}
use Rattle.lynx_world.specs.Legal.{IsLegal}
use Rattle.lynx_world.specs.Order.{done_hops}
use Rattle.lynx_world.specs.Placed.{Placed}
use Rattle.lynx_order.specs.Explanations.{request_of}
use Rattle.lynx_order.proofs.ChainForm.{Form, IsChainOf, count-is, dones_of, told}
use Rattle.lynx_order.proofs.Dones.{Done, begun_as, done_in, dones, ran_as}
use Rattle.lynx_report.specs.Owed.{chain_cmp}
use Rattle.lynx_report.specs.declared.reached.Reached.{Reached}
use Rattle.lynx_report.specs.Lasts.{told_of}
use Rattle.lynx_report.specs.inner.Reached.{reached_in, reached_of}
use Rattle.lynx_report.proofs.Lasts.{found_told, or-none}

-- what is found of a chain where one was noted
pub found_noted : (key chain : ChainId) (far : Reached) (old new : Option Reached) → new ≡ cond (is_at (chain_cmp key) chain) (Some far) old →
    new ≡ option_or (told_of chain (Some (key, far))) old
found_noted key chain far old new is = found_told key chain far old new is

-- ---- in a legal list

-- how far the last of these hops brings their chain
abbrev reached_by : List Done → Option Reached
reached_by [] = None
reached_by (done ∷ list) = option_or (reached_by list) (Some (record { program = done.act.program; next = done.act.hop + 1 }))

first_by : (chain : ChainId) (entry : Entry) (rest : List Done) →
    option_or (reached_by (filter (λ done. same_chain done.chain chain) rest)) (told_of chain (reached_in entry))
    ≡ reached_by (filter (λ done. same_chain done.chain chain) (cons_option (done_in entry) rest))
first_by chain (Begun begun) rest = by (same_chain begun.chain chain)
  where
    kept : List Done
    kept = filter (λ done. same_chain done.chain chain) rest

    by : (b : Bool) → option_or (reached_by kept) (cond b (Some (record { program = begun.request.program; next = 1 })) None) ≡ reached_by (cond b (begun_as begun ∷ kept) kept)
    by true = refl
    by false = or-none (reached_by kept)
first_by chain (Refused refused) rest = or-none (reached_by (filter (λ done. same_chain done.chain chain) rest))
first_by chain (Hop ran) rest = by (same_chain ran.message.chain chain)
  where
    kept : List Done
    kept = filter (λ done. same_chain done.chain chain) rest

    by : (b : Bool) → option_or (reached_by kept) (cond b (Some (record { program = ran.message.program; next = ran.message.hop + 1 })) None) ≡ reached_by (cond b (ran_as ran ∷ kept) kept)
    by true = refl
    by false = or-none (reached_by kept)

reached_of-dones : (list : List Placed) (chain : ChainId) → reached_of list chain ≡ reached_by (dones_of list chain)
reached_of-dones [] chain = refl
reached_of-dones (placed ∷ list) chain =
    ap (λ o. option_or o (told_of chain (reached_in placed.entry))) (reached_of-dones list chain) ∙ first_by chain placed.entry (dones list)

-- the last hop of a call is its count
last_of_chain : (program : ℕ) (args : List ℕ) (earlier : List (List ℕ)) (list : List Done) → IsChainOf program args earlier list → 0 < length list →
    reached_by list ≡ Some (record { program = program; next = length earlier + length list })
last_of_chain program args earlier [] chain some = absurd (omega arith)
last_of_chain program args earlier (done ∷ []) chain some =
    ap (λ (act : Act). Some (record { program = act.program; next = act.hop + 1 })) chain.0
last_of_chain program args earlier (done ∷ second ∷ list) chain some =
    let made : ℕ → Option Reached = λ n. Some (record { program = program; next = n }) in
    let sum = length-append earlier (done.results ∷ []) in
    ap (λ o. option_or o (Some (record { program = done.act.program; next = done.act.hop + 1 })))
    (last_of_chain program args (earlier ++ done.results ∷ []) (second ∷ list) chain.1 (omega arith))
    ∙ ap made (omega arith)

-- how far a chain that began with this request has come
abbrev pub reached_with : List Placed → ChainId → Request → Reached
reached_with list chain request = record { program = request.program; next = length (done_hops chain list) }

-- a chain that began is at the count of its hops that are done
pub reached_of-legal : (set : Set) (list : List Placed) (chain : ChainId) → IsLegal set list →
    reached_of list chain ≡ option_map (reached_with list chain) (request_of list chain)
reached_of-legal set list chain legal =
    reached_of-dones list chain ∙ by (request_of list chain) ((told set list legal).form chain)
  where
    by : (o : Option Request) → Form o (dones_of list chain) → reached_by (dones_of list chain) ≡ option_map (reached_with list chain) o
    by None form = ap reached_by form
    by (Some request) form =
        let made : ℕ → Option Reached = λ n. Some (record { program = request.program; next = n }) in
        let count = count-is list chain in
        last_of_chain request.program request.args [] (dones_of list chain) form.0 form.1 ∙ ap made (omega arith)
