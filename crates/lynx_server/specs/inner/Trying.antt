-- What a call of a server that runs leaves, by how it ended.
use Rattle.std.specs.Prelude.{ℕ, Bool, true, false, Option, None, Result, Ok, Err}
use Rattle.lynx_entry.specs.declared.answer.Answer.{Answer}
use Rattle.lynx_entry.specs.declared.answer.Delivered.{Delivered}
use Rattle.lynx_entry.specs.declared.answer.Delivered.TheVariants.{Done}
use Rattle.lynx_hops.specs.Meaning.{meaning}
use Rattle.lynx_rules.specs.Deliveries.{Delivers as DeliveredSo, done_by}
use Rattle.lynx_rules.specs.Tables.{tables_of}
use Rattle.lynx_server.specs.inner.Hops.{IsDue}
use Rattle.lynx_entry.specs.declared.entry.Entry.{Entry}
use Rattle.lynx_entry.specs.declared.message.Message.{Message}
use Rattle.lynx_entry.specs.declared.request.Request.{Request}
use Rattle.lynx_keep.specs.Kept.{Terms}
use Rattle.lynx_keep.specs.declared.fault.KeepFault.{KeepFault}
use Rattle.lynx_keep.specs.declared.fault.KeepFault.TheVariants.{Memory as WantOfMemory, Failed}
use Rattle.lynx_server.specs.History.{grown}
use Rattle.lynx_server.specs.Keeping.{kept_of}
use Rattle.lynx_server.specs.inner.Keeping.{Fails, GoesTo, HasKept}
use Rattle.lynx_server.specs.Serving.{Serving, Becomes, HasStopped, IsAnswered, IsDelivered, delivery_of}

-- what such a call left of the keeper, by how it ended
abbrev pub LeavesKeeper : {K X : Type 0} → Terms K → Serving K → Option Entry → Result X KeepFault
    → Serving K → Type 0
LeavesKeeper terms old added (Ok given) new =
    HasKept terms old.keeper new.keeper (kept_of old.set old.history) (kept_of new.set new.history)
LeavesKeeper terms old added (Err WantOfMemory) new =
    GoesTo terms old.keeper new.keeper (kept_of old.set old.history) (kept_of old.set old.history)
LeavesKeeper terms old added (Err Failed) new =
    Fails terms old.keeper new.keeper (kept_of old.set old.history)
    (kept_of old.set (grown old.history added))

-- a begin of a server that runs
abbrev pub TriedBegin : {K : Type 0} → Terms K → Serving K → Request → ℕ → Result Answer KeepFault
    → Serving K → Type 0
TriedBegin terms old request seen (Ok given) new = IsAnswered old request seen given new
TriedBegin terms old request seen (Err WantOfMemory) new = Becomes old None old.held new
TriedBegin terms old request seen (Err Failed) new = HasStopped terms old new

-- a hop ran now
abbrev pub is_done : Delivered → Bool
is_done (Done stamp results next) = true
is_done delivered = false

-- nothing but its hop answers the message
abbrev pub IsDueHere : {K : Type 0} → Serving K → Message → ℕ → Type 0
IsDueHere old message stamp =
    IsDue (record { set = old.set; server = old.server; history = old.history; out = None }) message
    stamp

-- what comes of its hop
abbrev pub ran_here : {K : Type 0} → Serving K → Message → DeliveredSo
ran_here old message =
    done_by old.set old.history old.held message
    (meaning old.set message.program message.hop message.args message.results
    (tables_of old.set old.history))

-- its hop was run
abbrev pub RanHere : {K : Type 0} → Terms K → Serving K → Message → Result Delivered KeepFault
    → Serving K → Type 0
RanHere terms old message (Ok given) new = IsDelivered old (ran_here old message) given new
RanHere terms old message (Err WantOfMemory) new = Becomes old None old.held new
RanHere terms old message (Err Failed) new = HasStopped terms old new

-- a delivery at a server that runs
abbrev pub TriedDelivery : {K : Type 0} → Terms K → Serving K → Message → Result Delivered KeepFault
    → Serving K → Type 0
TriedDelivery terms old message (Ok given) new = IsDelivered old (delivery_of old message) given new
TriedDelivery terms old message (Err WantOfMemory) new = Becomes old None old.held new
TriedDelivery terms old message (Err Failed) new = HasStopped terms old new
