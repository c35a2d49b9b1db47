-- What the events of a script come to at servers, each over a keeper of its own: what the server
-- answers that the event is for.
use Rattle.std.specs.Prelude.{◌≡◌, ◌⊎◌, ℕ, ◌≤◌, ◌-◌, ◌==◌, true, false, if◌then◌else◌, List, [], ◌∷◌, length, slice_get, slice_set, is_some, Option, Some, None}
use Rattle.std.specs.Option.{option_and_then}
use Rattle.lynx_names.specs.declared.chain.ChainId.{ChainId}
use Rattle.lynx_set.specs.Set.{Set}
use Rattle.lynx_entry.specs.declared.answer.Answer.TheVariants as answer
use Rattle.lynx_entry.specs.declared.answer.Delivered.TheVariants as delivered
use Rattle.lynx_entry.specs.declared.entry.Entry.{Entry}
use Rattle.lynx_entry.specs.declared.event.Event.{Event}
use Rattle.lynx_entry.specs.declared.event.Event.TheVariants.{Begin, Deliver, Wake, Lost, Restart}
use Rattle.lynx_entry.specs.declared.event.Outcome.{Outcome}
use Rattle.lynx_entry.specs.declared.event.Outcome.TheVariants.{Answered, Delivered, Woken, NotSent, LostNow, Idle, Restarted, NoServer}
use Rattle.lynx_entry.specs.declared.message.Message.{Message}
use Rattle.lynx_entry.specs.declared.request.Request.{Request}
use Rattle.lynx_keep.specs.Kept.{Terms}
use Rattle.lynx_rules.specs.Messages.{next_message}
use Rattle.lynx_server.specs.Acts.{act_of}
use Rattle.lynx_server.specs.Opening.{IsOpened}
use Rattle.lynx_server.specs.Serving.{Begins, Delivers, Serving, Wakes, told_stopped, woken_of}
use Rattle.lynx_server.specs.declared.server.Woken.{Woken as WokenOne}
use Rattle.lynx_world.specs.Steps.{destination_of}
use Rattle.lynx_world.specs.inner.Senders.{home_of}

-- the entry of that hop of the chain at a server
abbrev pub act_at : {K : Type 0} → ChainId → ℕ → List (Serving K) → ℕ → Option Entry
act_at {K} chain hop servers server =
    option_and_then (λ (here : Serving K). act_of chain hop here.history) (slice_get servers server)

-- the entry of that hop, at the server where it must have run by the begin at the chain's origin
abbrev pub act_of_begun : {K : Type 0} → Set → ChainId → ℕ → List (Serving K) → Entry → Option Entry
act_of_begun set chain hop servers begun =
    if hop == 0 then Some begun else option_and_then (act_at chain hop servers)
    (home_of set hop begun)

abbrev pub act_found : {K : Type 0} → Set → ChainId → ℕ → List (Serving K) → Option Entry
act_found set chain hop servers =
    option_and_then (act_of_begun set chain hop servers) (act_at chain 0 servers chain.origin)

-- the message of that hop of the chain, if the entry of the hop before sends it
abbrev pub sent_message : {K : Type 0} → Set → ChainId → ℕ → List (Serving K) → Option Message
sent_message set chain hop servers =
    if hop == 0 then None
    else option_and_then (next_message set) (act_found set chain (hop - 1) servers)

-- a server answers a begin: that it stopped, or by its definition
abbrev pub IsBegun : {K : Type 0} → Terms K → Request → ℕ → Outcome → Serving K → Serving K
    → Type 0
IsBegun terms request seen (Answered given) old new =
    (old.is_stopped ≡ true → (given ≡ answer.Stopped) × (new ≡ old))
    × (old.is_stopped ≡ false → Begins terms old request seen given new)
IsBegun terms request seen outcome old new = ⊥

-- .. and a delivery of that message
abbrev pub IsDelivered : {K : Type 0} → Terms K → ChainId → ℕ → Message → Outcome → Serving K
    → Serving K → Type 0
IsDelivered terms chain hop message (Delivered own at given) old new =
    (own ≡ chain) × (at ≡ hop)
    × (old.is_stopped ≡ true → (given ≡ delivered.Stopped) × (new ≡ old))
    × (old.is_stopped ≡ false → Delivers terms old message given new)
IsDelivered terms chain hop message outcome old new = ⊥

-- a server wakes a message, or none
abbrev pub WakesSo : {K : Type 0} → Terms K → Option WokenOne → Serving K → Serving K → Type 0
WakesSo terms woken old new =
    (old.is_stopped ≡ true → (woken ≡ told_stopped (woken_of old)) × (new ≡ old))
    × (old.is_stopped ≡ false → Wakes terms old woken new)

-- .. as the outcome tells
abbrev pub IsWoken : {K : Type 0} → Terms K → ℕ → Outcome → Serving K → Serving K → Type 0
IsWoken terms server (Woken chain hop given) old new =
    WakesSo terms (Some (record { chain = chain; hop = hop; delivered = given })) old new
IsWoken terms server (Idle here) old new = (here ≡ server) × WakesSo terms None old new
IsWoken terms server outcome old new = ⊥

-- a server is opened again over what its keeper keeps
abbrev pub IsRestarted : {K : Type 0} → Terms K → ℕ → Outcome → Serving K → Serving K → Type 0
IsRestarted terms server outcome old new =
    (outcome ≡ Restarted server) × IsOpened terms old.set old.server old.keeper new

-- that server is called so, and the others stay
pub record CallsOne {K : Type 0} (server : ℕ) (Calls : Serving K → Serving K → Type 0)
    (old new : List (Serving K)) : Type 0 where
  pub before : Serving K
  pub after : Serving K
  pub there : slice_get old server ≡ Some before
  pub others : new ≡ slice_set old server after
  pub calls : Calls before after

-- the same, or there is no such server
abbrev pub CallsAt : {K : Type 0} → ℕ → Outcome → (Serving K → Serving K → Type 0)
    → List (Serving K) → List (Serving K) → Type 0
CallsAt server outcome Calls old new =
    ((length old ≤ server) × (outcome ≡ NoServer) × (new ≡ old)) ⊎ CallsOne server Calls old new

-- a message comes to its server, or there is none
abbrev pub DeliversSent : {K : Type 0} → Terms K → Set → ChainId → ℕ → Option Message → Outcome
    → List (Serving K) → List (Serving K) → Type 0
DeliversSent terms set chain hop None outcome old new =
    (outcome ≡ NotSent chain hop) × (new ≡ old)
DeliversSent terms set chain hop (Some message) outcome old new =
    CallsAt (destination_of set message) outcome (IsDelivered terms chain hop message outcome) old
    new

-- What an event comes to at these servers, and what they are then.
abbrev pub ComesTo : {K : Type 0} → Terms K → Set → Event → Outcome → List (Serving K)
    → List (Serving K) → Type 0
ComesTo terms set (Begin server request seen) outcome old new =
    CallsAt server outcome (IsBegun terms request seen outcome) old new
ComesTo terms set (Deliver chain hop) outcome old new =
    DeliversSent terms set chain hop (sent_message set chain hop old) outcome old new
ComesTo terms set (Wake server) outcome old new =
    CallsAt server outcome (IsWoken terms server outcome) old new
ComesTo terms set (Lost chain hop) outcome old new =
    (outcome ≡ (if is_some (sent_message set chain hop old) then LostNow chain hop
    else NotSent chain hop)) × (new ≡ old)
ComesTo terms set (Restart server) outcome old new =
    CallsAt server outcome (IsRestarted terms server outcome) old new

-- the same of events, one after another
abbrev pub ComeTo : {K : Type 0} → Terms K → Set → List Event → List Outcome → List (Serving K)
    → List (Serving K) → Type 0
ComeTo terms set [] outcomes old new = (outcomes ≡ []) × (new ≡ old)
ComeTo {K} terms set (event ∷ events) outcomes old new =
    (outcome : Outcome) × (rest : List Outcome) × (next : List (Serving K))
    × (outcomes ≡ outcome ∷ rest) × ComesTo terms set event outcome old next
    × ComeTo terms set events rest next new
