-- A call of one server among others.
use Rattle.std.proofs.Common.{◌≡◌, ℕ, ◌<◌, List, ◌++◌, take, drop, length, get_or, slice_get, slice_set, Option, Some, Result, Ok, Err, inl, inr, sym, ap, ◌∙◌, subst}
use Rattle.std.proofs.lemmas.List.{length-set}
use Rattle.std.proofs.Math.Seq.{take-append_seam}
use Rattle.std.specs.Prelude.{IfOk}
use Rattle.std.proofs.lemmas.Option.{slice_get-get_or}
use Rattle.lynx_set.specs.Set.{Set}
use Rattle.lynx_entry.specs.declared.event.Outcome.{Outcome}
use Rattle.lynx_entry.specs.declared.event.Event.{Event}
use Rattle.lynx_entry.specs.declared.event.Event.TheVariants.{Deliver}
use Rattle.lynx_entry.specs.declared.message.Message.{Message}
use Rattle.lynx_keep.specs.Kept.{Terms}
use Rattle.lynx_names.specs.declared.chain.ChainId.{ChainId}
use Rattle.lynx_server.specs.Serving.{Serving}
use Rattle.lynx_world.specs.Steps.{destination_of}
use Rattle.lynx_rerun.specs.Events.{CallsAt, ComesTo, DeliversSent, IsDelivered, sent_message}

-- what one server is called so
pub called : {K E : Type 0} (result : Result Outcome E) (server at : ℕ) (Calls : Outcome → Serving K → Serving K → Type 0) (old : List (Serving K)) (d after : Serving K) →
    at ≡ server → at < length old → IfOk result (λ outcome. Calls outcome (get_or old at d) after) →
    IfOk result (λ outcome. CallsAt server outcome (Calls outcome) old (slice_set old at after))
called (Err fault) server at Calls old d after at_is within calls = tt
called (Ok outcome) server at Calls old d after at_is within calls = inr (record {
  before = get_or old at d;
  after = after;
  there = subst (λ n. slice_get old n ≡ Some (get_or old at d)) at_is (slice_get-get_or old at d within);
  others = ap (λ n. slice_set old n after) at_is;
  calls = calls;
})

calls_length : {K : Type 0} (server : ℕ) (outcome : Outcome) (Calls : Serving K → Serving K → Type 0) (old new : List (Serving K)) → CallsAt server outcome Calls old new → length new ≡ length old
calls_length server outcome Calls old new (inl none) = ap length none.2
calls_length server outcome Calls old new (inr one) = ap length one.others ∙ length-set old server one.after

-- what is written back of a slice that kept its length
pub written : {X : Type 0} (len : ℕ) (old new : List X) → length new ≡ length old → length old ≡ len → take len (new ++ drop (length new) old) ≡ new
written {X} len old new same many = ap (λ n. take n (new ++ drop (length new) old)) (sym (same ∙ many)) ∙ take-append_seam new (drop (length new) old)

-- the event of a call of one server
pub comes_of : {K : Type 0} (terms : Terms K) (set : Set) (event own : Event) (server : ℕ) (outcome : Outcome) (Calls : Serving K → Serving K → Type 0) (old slice new : List (Serving K)) (len : ℕ) →
    event ≡ own → slice ≡ old → length slice ≡ len → ((servers : List (Serving K)) → CallsAt server outcome Calls old servers → ComesTo terms set own outcome old servers) →
    CallsAt server outcome Calls slice new → ComesTo terms set event outcome old (take len (new ++ drop (length new) old))
comes_of {K} terms set event own server outcome Calls old slice new len event_is slice_is many so calls =
    let at_old : CallsAt server outcome Calls old new = subst (λ (servers : List (Serving K)). CallsAt server outcome Calls servers new) slice_is calls in
    let kept = calls_length server outcome Calls old new at_old in
    subst (λ (e : Event). ComesTo terms set e outcome old (take len (new ++ drop (length new) old))) (sym event_is)
    (so (take len (new ++ drop (length new) old))
    (subst (CallsAt server outcome Calls old) (sym (written len old new kept (sym (ap length slice_is) ∙ many))) at_old))

-- a message that was sent comes to its server
pub sent_comes : {K E : Type 0} (terms : Terms K) (set : Set) (chain : ChainId) (hop : ℕ) (message : Message) (server : ℕ) (result : Result Outcome E) (old new : List (Serving K)) →
    Some message ≡ sent_message set chain hop old → server ≡ destination_of set message →
    IfOk result (λ outcome. CallsAt server outcome (IsDelivered terms chain hop message outcome) old new) →
    IfOk result (λ outcome. ComesTo terms set (Deliver chain hop) outcome old new)
sent_comes terms set chain hop message server (Err fault) old new sent server_is calls = tt
sent_comes terms set chain hop message server (Ok outcome) old new sent server_is calls =
    subst (λ (found : Option Message). DeliversSent terms set chain hop found outcome old new) sent
    (subst (λ at. CallsAt at outcome (IsDelivered terms chain hop message outcome) old new) server_is calls)
