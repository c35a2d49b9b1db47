-- A server that is asked for what entries did.
use Rattle.std.specs.Prelude.{◌≡◌, ℕ, Bool, true, false, [], ◌∷◌, ◌++◌, List, Option}
use Rattle.lynx_set.specs.Set.{Set}
use Rattle.lynx_entry.specs.declared.entry.Entry.{Entry}
use Rattle.lynx_entry.specs.declared.entry.Entry.TheVariants.{Begun, Refused, Hop}
use Rattle.lynx_entry.specs.declared.message.Message.{Message}
use Rattle.lynx_entry.specs.Entry.{History}
use Rattle.lynx_rules.specs.Answers.{answer}
use Rattle.lynx_rules.specs.Lawful.{IsLawful}
use Rattle.lynx_server.specs.History.{IsFirstUnlawful, grown, IsLawfulHistory}
use Rattle.lynx_server.specs.Serving.{Serving, delivery_of}
use Rattle.lynx_keep.specs.Kept.{Terms}
use Rattle.lynx_server.specs.declared.replay.Unkept.{Unkept}
use Rattle.lynx_server.specs.declared.replay.Replayed.{Replayed}
use Rattle.lynx_server.specs.declared.replay.Replayed.TheVariants.{Done, Differs}

-- nothing is said of what a keeper that keeps nothing gives back, and it never fails
abbrev pub unkept_terms : Terms Unkept
unkept_terms = record {
  sound = λ keeper. ⊥;
  keeps = λ keeper kept. ⊥;
  leaves = λ keeper one other. ⊥;
  counted = λ keeper. 0;
  rests = λ keeper settled kept. Unit {0};
  Owner = Unit {0};
  owner = λ keeper. tt;
}

-- what a server adds when it is asked for what the entry did
abbrev pub again : {K : Type 0} → Serving K → Entry → Option Entry
again old (Begun begun) = (answer old.set old.server old.history begun.request begun.seen).added
again old (Refused refused) =
    (answer old.set old.server old.history refused.request refused.seen).added
again old (Hop ran) = (delivery_of old ran.message).added

-- what it holds then
abbrev pub held_again : {K : Type 0} → Serving K → Entry → List Message
held_again old (Begun begun) = old.held
held_again old (Refused refused) = old.held
held_again old (Hop ran) = (delivery_of old ran.message).held

-- it runs, and holds nothing
pub record IsIdle {K : Type 0} (old : Serving K) : Type 0 where
  pub runs : old.is_stopped ≡ false
  pub held_is : old.held ≡ []
  pub acknowledged_is : old.acknowledged ≡ []

-- it runs on, with what was added, and holds these messages
pub record HasAdded {K : Type 0} (old : Serving K) (added : Option Entry) (held : List Message)
    (new : Serving K) : Type 0 where
  pub set_is : new.set ≡ old.set
  pub server_is : new.server ≡ old.server
  pub history_is : new.history ≡ grown old.history added
  pub held_is : new.held ≡ held
  pub acknowledged_is : new.acknowledged ≡ old.acknowledged
  pub runs : new.is_stopped ≡ false

-- it did what the entry did, which is lawful
pub record HasRepeated {K : Type 0} (old : Serving K) (entry : Entry) (new : Serving K) : Type
    0 where
  pub lawful : IsLawful old.set old.server old.history entry
  pub set_is : new.set ≡ old.set
  pub server_is : new.server ≡ old.server
  pub history_is : new.history ≡ old.history ++ entry ∷ []
  pub idle : IsIdle new

-- whether it did what the entry did, which it does where the entry is lawful
abbrev pub Repeats : {K : Type 0} → Serving K → Entry → Serving K → Bool → Type 0
Repeats old entry new true = HasRepeated old entry new
Repeats old entry new false = IsLawful old.set old.server old.history entry → ⊥

-- it did these entries
pub record IsReplayed {K : Type 0} (set : Set) (server : ℕ) (entries : History)
    (replayed : Serving K) : Type 0 where
  pub set_is : replayed.set ≡ set
  pub server_is : replayed.server ≡ server
  pub history_is : replayed.history ≡ entries
  pub idle : IsIdle replayed
  pub lawful : IsLawfulHistory set server entries

-- a server that did all of it, or the first place at which it doesn't
abbrev pub IsReplay : Set → ℕ → History → Replayed → Type 0
IsReplay set server entries (Done replayed) = IsReplayed set server entries replayed
IsReplay set server entries (Differs place) = IsFirstUnlawful set server entries place
