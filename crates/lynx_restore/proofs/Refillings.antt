-- A server that did nothing adds every lawful entry.
use Rattle.std.proofs.Common.{◌≡◌, ◌+◌, ◌<◌, ℕ, Bool, true, false, take, get_or, length, slice_get, Option, Some, None, refl, sym, ap, ◌∙◌, subst}
use Rattle.std.specs.Bool.{Decides}
use Rattle.std.proofs.lemmas.Option.{slice_get-get_or}
use Rattle.lynx_entry.specs.contracts.entry.EntryPartialEq as entries
use Rattle.lynx_entry.specs.declared.answer.Answer.{Answer}
use Rattle.lynx_entry.specs.declared.answer.Answer.TheVariants as answers
use Rattle.lynx_entry.specs.declared.answer.Delivered.{Delivered}
use Rattle.lynx_entry.specs.declared.answer.Delivered.TheVariants as deliveries
use Rattle.lynx_entry.specs.declared.entry.Entry.{Entry}
use Rattle.lynx_entry.specs.declared.entry.Entry.TheVariants.{Begun, Refused, Hop}
use Rattle.lynx_entry.specs.declared.message.Message.{Message}
use Rattle.lynx_entry.specs.declared.request.Request.{Request}
use Rattle.lynx_entry.specs.Entry.{History}
use Rattle.lynx_entry.proofs.Alike.{entries_decide}
use Rattle.lynx_keep.specs.Kept.{Terms}
use Rattle.lynx_rules.specs.Lawful.{IsLawful}
use Rattle.lynx_server.specs.History.{IsLawfulHistory}
use Rattle.lynx_server.specs.Serving.{Becomes, Begins, Delivers, Serving, begins_here, delivery_of}
use Rattle.lynx_server.specs.inner.Repeating.{HasAdded, IsReplayed, Repeats, again, held_again}
use Rattle.lynx_server.proofs.InHistory.{lawful_in}
use Rattle.lynx_server.proofs.Repeating.{repeats, replayed_more}
use Rattle.lynx_set.specs.Set.{Set}
use Rattle.lynx_restore.specs.Refills.{GoesOn, IsFresh, RunsOn, WasAsked}

-- what was begun, where memory wasn't wanting and the keeper didn't fail
pub begun_on : {K : Type 0} (terms : Terms K) (old : Serving K) (request : Request) (seen : ℕ) (given : Answer) (new : Serving K) →
    (given ≡ answers.Memory → ⊥) → (given ≡ answers.Stopped → ⊥) → Begins terms old request seen given new →
    Becomes old (begins_here old request seen).added old.held new
begun_on terms old request seen answers.Memory new served running is = absurd (served refl)
begun_on terms old request seen answers.Stopped new served running is = absurd (running refl)
begun_on terms old request seen (answers.Begun chain stamp results was) new served running is = is.becomes
begun_on terms old request seen answers.Clash new served running is = is.becomes
begun_on terms old request seen answers.UnknownProgram new served running is = is.becomes
begun_on terms old request seen answers.WrongOrigin new served running is = is.becomes
begun_on terms old request seen answers.ArgCount new served running is = is.becomes
begun_on terms old request seen answers.OutsideRange new served running is = is.becomes
begun_on terms old request seen answers.WrongShard new served running is = is.becomes
begun_on terms old request seen answers.Full new served running is = is.becomes
begun_on terms old request seen answers.Busy new served running is = is.becomes
begun_on terms old request seen (answers.Refused need stamp was) new served running is = is.becomes

-- .. and what was delivered
pub delivered_on : {K : Type 0} (terms : Terms K) (old : Serving K) (message : Message) (given : Delivered) (new : Serving K) →
    (given ≡ deliveries.Memory → ⊥) → (given ≡ deliveries.Stopped → ⊥) → Delivers terms old message given new →
    Becomes old (delivery_of old message).added (delivery_of old message).held new
delivered_on terms old message deliveries.Memory new served running is = absurd (served refl)
delivered_on terms old message deliveries.Stopped new served running is = absurd (running refl)
delivered_on terms old message (deliveries.Done stamp results next) new served running is = is.becomes
delivered_on terms old message (deliveries.Repeat stamp results next) new served running is = is.becomes
delivered_on terms old message deliveries.Held new served running is = is.becomes
delivered_on terms old message deliveries.Dropped new served running is = is.becomes
delivered_on terms old message deliveries.Malformed new served running is = is.becomes
delivered_on terms old message deliveries.Full new served running is = is.becomes

-- so far the server went on, and did these entries where it did nothing before and they are lawful
pub record IsRefilling {K : Type 0} (terms : Terms K) (first : Serving K) (entries_all : History) (place : ℕ) (now : Serving K) : Type 0 where
  pub goes_on : GoesOn terms first now
  pub replayed : IsFresh first → IsLawfulHistory first.set first.server entries_all → IsReplayed first.set first.server (take place entries_all) now

pub refilling_none : {K : Type 0} (terms : Terms K) (first : Serving K) (all : History) → first.is_stopped ≡ false → IsRefilling terms first all 0 first
refilling_none terms first all runs = record {
  goes_on = record { set_is = refl; server_is = refl; runs = runs; sound_before = λ sound. sound };
  replayed = λ fresh lawful. record {
    set_is = refl;
    server_is = refl;
    history_is = fresh.history_is;
    idle = record { runs = runs; held_is = fresh.held_is; acknowledged_is = fresh.acknowledged_is };
    lawful = tt;
  };
}

runs_on : {K : Type 0} (terms : Terms K) (old : Serving K) (entry : Entry) (new : Serving K) → WasAsked terms old entry new →
    RunsOn terms old (again old entry) (held_again old entry) new
runs_on terms old (Begun begun) new is = is
runs_on terms old (Refused refused) new is = is
runs_on terms old (Hop ran) new is = is

-- whether it is that entry
decided : (found : Option Entry) (entry : Entry) → (b : Bool) × Decides b (found ≡ Some entry)
decided None entry = (false, (λ e. cc, λ e. cc))
decided (Some other) entry =
    let decides = entries_decide other entry in (entries.TheImpl.ghosts.eq other entry, (λ e. ap Some (decides.0 e), λ e. decides.1 cc))

did : {K : Type 0} (set : Set) (server : ℕ) (all : History) (place : ℕ) (d : Entry) (old new : Serving K) (b : Bool) →
    place < length all → IsReplayed set server (take place all) old → IsLawful old.set old.server old.history (get_or all place d) →
    Repeats old (get_or all place d) new b → IsReplayed set server (take (place + 1) all) new
did set server all place d old new true within was lawful is = replayed_more set server all place d old new true within was is refl
did set server all place d old new false within was lawful is = absurd (is lawful)

pub refilling_more : {K : Type 0} (terms : Terms K) (first : Serving K) (all : History) (place : ℕ) (d : Entry) (old new : Serving K) →
    place < length all → IsRefilling terms first all place old → WasAsked terms old (get_or all place d) new →
    IsRefilling terms first all (place + 1) new
refilling_more terms first all place d old new within was asked =
    let entry = get_or all place d in
    let on = runs_on terms old entry new asked in
    let went = was.goes_on in
    record {
      goes_on = record {
        set_is = on.becomes.set_is ∙ went.set_is;
        server_is = on.becomes.server_is ∙ went.server_is;
        runs = on.runs;
        sound_before = λ sound. went.sound_before (on.sound_before sound);
      };
      replayed = λ fresh lawful.
          let before = was.replayed fresh lawful in
          let here = lawful_in first.set first.server all place entry lawful (slice_get-get_or all place d within) in
          let at_old : IsLawful old.set old.server old.history entry =
          subst (λ h. IsLawful old.set old.server h entry) (sym before.history_is)
          (subst (λ v. IsLawful old.set v (take place all) entry) (sym before.server_is)
          (subst (λ s. IsLawful s first.server (take place all) entry) (sym before.set_is) here)) in
          let history_lawful : IsLawfulHistory old.set old.server old.history =
          subst (IsLawfulHistory old.set old.server) (sym before.history_is)
          (subst (λ v. IsLawfulHistory old.set v (take place all)) (sym before.server_is)
          (subst (λ s. IsLawfulHistory s first.server (take place all)) (sym before.set_is) before.lawful)) in
          let found = decided (slice_get new.history (length old.history)) entry in
          let added : HasAdded old (again old entry) (held_again old entry) new = record {
            set_is = on.becomes.set_is;
            server_is = on.becomes.server_is;
            history_is = on.becomes.history_is;
            held_is = on.becomes.held_is;
            acknowledged_is = on.becomes.acknowledged_is;
            runs = on.runs;
          } in
          did first.set first.server all place d old new found.0 within before at_old
          (repeats old new entry found.0 history_lawful before.idle added found.1);
    }

-- it did as much where nothing was added
pub refilling_still : {K : Type 0} (terms : Terms K) (first : Serving K) (all : History) (place : ℕ) (old new : Serving K) →
    IsRefilling terms first all place old → RunsOn terms old None old.held new → IsRefilling terms first all place new
refilling_still terms first all place old new was on =
    let went = was.goes_on in
    record {
      goes_on = record {
        set_is = on.becomes.set_is ∙ went.set_is;
        server_is = on.becomes.server_is ∙ went.server_is;
        runs = on.runs;
        sound_before = λ sound. went.sound_before (on.sound_before sound);
      };
      replayed = λ fresh lawful.
          let before = was.replayed fresh lawful in
          record {
            set_is = on.becomes.set_is ∙ before.set_is;
            server_is = on.becomes.server_is ∙ before.server_is;
            history_is = on.becomes.history_is ∙ before.history_is;
            idle = record {
              runs = on.runs;
              held_is = on.becomes.held_is ∙ before.idle.held_is;
              acknowledged_is = on.becomes.acknowledged_is ∙ before.idle.acknowledged_is;
            };
            lawful = before.lawful;
          };
    }
