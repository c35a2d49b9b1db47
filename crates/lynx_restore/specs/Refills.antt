-- What a server is that did again what entries did.
use Rattle.std.specs.Prelude.{◌≡◌, false, List, [], Option}
use Rattle.lynx_entry.specs.declared.entry.Entry.{Entry}
use Rattle.lynx_entry.specs.declared.entry.Entry.TheVariants.{Begun, Refused, Hop}
use Rattle.lynx_entry.specs.declared.message.Message.{Message}
use Rattle.lynx_entry.specs.Entry.{History}
use Rattle.lynx_keep.specs.HeldBack.{Holding, held_terms}
use Rattle.lynx_keep.specs.Kept.{Terms}
use Rattle.lynx_server.specs.Keeping.{kept_of}
use Rattle.lynx_server.specs.Serving.{Becomes, Serving, begins_here, delivery_of}

-- it did nothing, and holds nothing
pub record IsFresh {K : Type 0} (server : Serving K) : Type 0 where
  pub history_is : server.history ≡ []
  pub held_is : server.held ≡ []
  pub acknowledged_is : server.acknowledged ≡ []

-- it runs on with what was added, and where its keeper can be believed now, it could before
pub record RunsOn {K : Type 0} (terms : Terms K) (old : Serving K) (added : Option Entry)
    (held : List Message) (new : Serving K) : Type 0 where
  pub becomes : Becomes old added held new
  pub runs : new.is_stopped ≡ false
  pub sound_before : terms.sound new.keeper → terms.sound old.keeper

-- it was asked for what the entry did
abbrev pub WasAsked : {K : Type 0} → Terms K → Serving K → Entry → Serving K → Type 0
WasAsked terms old (Begun begun) new =
    RunsOn terms old (begins_here old begun.request begun.seen).added old.held new
WasAsked terms old (Refused refused) new =
    RunsOn terms old (begins_here old refused.request refused.seen).added old.held new
WasAsked terms old (Hop ran) new =
    RunsOn terms old (delivery_of old ran.message).added (delivery_of old ran.message).held new

-- the same server runs on, and where its keeper can be believed now, it could before
pub record GoesOn {K : Type 0} (terms : Terms K) (old new : Serving K) : Type 0 where
  pub set_is : new.set ≡ old.set
  pub server_is : new.server ≡ old.server
  pub runs : new.is_stopped ≡ false
  pub sound_before : terms.sound new.keeper → terms.sound old.keeper

-- the keeper under it keeps for good all that the server did, and nothing waits
pub record HasSettled {K : Type 0} (terms : Terms K) (server : Serving (Holding K)) : Type 0 where
  pub kept : terms.sound server.keeper.inner
      → terms.keeps server.keeper.inner (kept_of server.set server.history)
  pub empty : server.keeper.waiting ≡ []

-- The same server, which runs, whose history is just these entries, and which settled all of them.
pub record IsRefilled {K : Type 0} (terms : Terms K) (old : Serving (Holding K))
    (entries : History) (new : Serving (Holding K)) : Type 0 where
  pub goes_on : GoesOn (held_terms terms) old new
  pub history_is : new.history ≡ entries
  pub settled : HasSettled terms new
