-- One more event of a run over stores.
use Rattle.std.proofs.Common.{◌≡◌, ℕ, Bool, true, false, List, [], ◌∷◌, ◌++◌, length, Option, Result, Ok, Err, Some, None, inl, inr, refl, sym, ap, ◌∙◌, subst}
use Rattle.std.specs.Io.KnownBytes.{Appends}
use Rattle.std.proofs.lemmas.Grind.{flat_map-append}
use Rattle.std.proofs.lemmas.List.{append-nil, length-map, length-set, map-append}
use Rattle.lynx_set.specs.Set.{Set}
use Rattle.lynx_entry.specs.declared.event.Event.{Event}
use Rattle.lynx_entry.specs.declared.event.Event.TheVariants.{Begin, Deliver, Wake, Lost, Restart}
use Rattle.lynx_entry.specs.declared.event.Outcome.{Outcome}
use Rattle.lynx_entry.specs.declared.message.Message.{Message}
use Rattle.lynx_keep.specs.Kept.{Terms}
use Rattle.lynx_lex.specs.Lines.{with_feed}
use Rattle.lynx_lines.specs.Printed.{outcome_text}
use Rattle.lynx_lines.proofs.Parts.{appends_both}
use Rattle.lynx_names.specs.declared.chain.ChainId.{ChainId}
use Rattle.lynx_server.specs.Serving.{Serving}
use Rattle.lynx_rerun.specs.Events.{CallsAt, ComeTo, ComesTo, DeliversSent, sent_message}
use Rattle.std.specs.Prelude.{IfOk, IsOk, OnOk}
use Rattle.lynx_lines.specs.Scripts.{IsScript, script_of}
use Rattle.lynx_report.specs.declared.run.Ending.{Ending}
use Rattle.lynx_store_files.specs.Closed.{AreClosed}
use Rattle.lynx_store_files.specs.Terms.{StoreTerms}
use Rattle.lynx_rerun.specs.Reruns.{AreOpened, EndsAs, Reruns, keepers_of, lines_of}

pub come_push : {K : Type 0} (terms : Terms K) (set : Set) (events : List Event) (event : Event) (outcomes : List Outcome) (outcome : Outcome) (old mid new : List (Serving K)) →
    ComeTo terms set events outcomes old mid → ComesTo terms set event outcome mid new → ComeTo terms set (events ++ event ∷ []) (outcomes ++ outcome ∷ []) old new
come_push terms set [] event outcomes outcome old mid new come comes =
    (outcome, [], new, ap (λ (os : List Outcome). os ++ outcome ∷ []) come.0, subst (λ servers. ComesTo terms set event outcome servers new) come.1 comes, (refl, refl))
come_push terms set (first ∷ events) event outcomes outcome old mid new come comes = (
  come.0,
  come.1 ++ outcome ∷ [],
  come.2,
  ap (λ (os : List Outcome). os ++ outcome ∷ []) come.3,
  come.4,
  come_push terms set events event come.1 outcome come.2 mid new come.5 comes,
)

pub lines_push : (outcomes : List Outcome) (outcome : Outcome) → lines_of (outcomes ++ outcome ∷ []) ≡ lines_of outcomes ++ with_feed (outcome_text outcome)
lines_push outcomes outcome =
    flat_map-append (λ one. with_feed (outcome_text one)) outcomes (outcome ∷ [])
    ∙ ap (λ bytes. lines_of outcomes ++ bytes) (append-nil (with_feed (outcome_text outcome)))

-- the lines of one more outcome
pub lines_on : (first second third : Option (List ℕ)) (outcomes : List Outcome) (outcome : Outcome) → Appends first second (lines_of outcomes) →
    Appends second third (with_feed (outcome_text outcome)) → Appends first third (lines_of (outcomes ++ outcome ∷ []))
lines_on first second third outcomes outcome before now =
    subst (Appends first third) (sym (lines_push outcomes outcome)) (appends_both first second third _ _ before now)

-- so far as events ran: what they came to, and the lines of it
pub record HasRun {K : Type 0} (terms : Terms K) (set : Set) (events : List Event) (old new : List (Serving K)) (before after : Option (List ℕ)) : Type 0 where
  pub outcomes : List Outcome
  pub come : ComeTo terms set events outcomes old new
  pub lines : Appends before after (lines_of outcomes)

pub has_run_none : {K : Type 0} (terms : Terms K) (set : Set) (servers : List (Serving K)) (bytes : Option (List ℕ)) → HasRun terms set [] servers servers bytes bytes
has_run_none terms set servers None = record { outcomes = []; come = (refl, refl); lines = tt }
has_run_none terms set servers (Some bytes) = record { outcomes = []; come = (refl, refl); lines = sym (append-nil bytes) }

pub has_run_more : {K : Type 0} (terms : Terms K) (set : Set) (events : List Event) (event : Event) (old mid new : List (Serving K)) (first second third : Option (List ℕ)) →
    HasRun terms set events old mid first second → ((outcome : Outcome) × ComesTo terms set event outcome mid new × Appends second third (with_feed (outcome_text outcome))) →
    HasRun terms set (events ++ event ∷ []) old new first third
has_run_more terms set events event old mid new first second third ran more = record {
  outcomes = ran.outcomes ++ more.0 ∷ [];
  come = come_push terms set events event ran.outcomes more.0 old mid new ran.come more.1;
  lines = lines_on first second third ran.outcomes more.0 ran.lines more.2;
}

-- the count of servers stays

calls_length : {K : Type 0} (server : ℕ) (outcome : Outcome) (Calls : Serving K → Serving K → Type 0) (old new : List (Serving K)) → CallsAt server outcome Calls old new → length new ≡ length old
calls_length server outcome Calls old new (inl none) = ap length none.2
calls_length server outcome Calls old new (inr one) = ap length one.others ∙ length-set old server one.after

sent_length : {K : Type 0} (terms : Terms K) (set : Set) (chain : ChainId) (hop : ℕ) (message : Option Message) (outcome : Outcome) (old new : List (Serving K)) →
    DeliversSent terms set chain hop message outcome old new → length new ≡ length old
sent_length terms set chain hop None outcome old new comes = ap length comes.1
sent_length terms set chain hop (Some message) outcome old new comes = calls_length _ outcome _ old new comes

comes_length : {K : Type 0} (terms : Terms K) (set : Set) (event : Event) (outcome : Outcome) (old new : List (Serving K)) → ComesTo terms set event outcome old new → length new ≡ length old
comes_length terms set (Begin server request seen) outcome old new comes = calls_length _ outcome _ old new comes
comes_length terms set (Deliver chain hop) outcome old new comes = sent_length terms set chain hop (sent_message set chain hop old) outcome old new comes
comes_length terms set (Wake server) outcome old new comes = calls_length _ outcome _ old new comes
comes_length terms set (Lost chain hop) outcome old new comes = ap length comes.1
comes_length terms set (Restart server) outcome old new comes = calls_length _ outcome _ old new comes

pub come_length : {K : Type 0} (terms : Terms K) (set : Set) (events : List Event) (outcomes : List Outcome) (old new : List (Serving K)) → ComeTo terms set events outcomes old new → length new ≡ length old
come_length terms set [] outcomes old new come = ap length come.1
come_length terms set (event ∷ events) outcomes old new come =
    come_length terms set events come.1 come.2 new come.5 ∙ comes_length terms set event come.0 old come.2 come.4

pub keepers_length : {K : Type 0} (servers : List (Serving K)) → length (keepers_of servers) ≡ length servers
keepers_length {K} servers = length-map servers (λ (here : Serving K). here.keeper)

pub keepers_push : {K : Type 0} (keepers more : List K) (servers : List (Serving K)) (server : Serving K) → keepers ≡ keepers_of servers → more ≡ keepers ++ server.keeper ∷ [] →
    more ≡ keepers_of (servers ++ server ∷ [])
keepers_push {K} keepers more servers server so_far pushed =
    pushed ∙ ap (λ (ks : List K). ks ++ server.keeper ∷ []) so_far ∙ sym (map-append (λ (here : Serving K). here.keeper) servers (server ∷ []))

-- there is a keeper for each server of the set
pub still_many : {K E : Type 0} (ran : Result (Unit {0}) E) (terms : Terms K) (set : Set) (events : List Event) (opened last : List (Serving K)) (first second : Option (List ℕ)) (keepers slice : List K) →
    length opened ≡ set.servers → OnOk ran ((outcomes : List Outcome) × ComeTo terms set events outcomes opened last × Appends first second (lines_of outcomes)) →
    keepers ≡ keepers_of last → slice ≡ keepers → OnOk ran (length slice ≡ set.servers)
still_many (Err fault) terms set events opened last first second keepers slice many come keepers_are slice_is = tt
still_many (Ok done) terms set events opened last first second keepers slice many come keepers_are slice_is =
    ap length (slice_is ∙ keepers_are) ∙ keepers_length last ∙ come_length terms set events come.0 opened last come.1 ∙ many

not_both : false ≡ true → ⊥
not_both bad = cc

-- the lines of the events, and those of the end, behind which the stores are closed
pub run_closed : {K E : Type 0} (ran : Result (Unit {0}) E) (terms : Terms K) (Closed : K → Bool → Type 0) (set : Set) (events : List Event) (opened last : List (Serving K)) (owed : Bool) (ending : Ending) (first second third : Option (List ℕ)) (keepers slice read : List K) →
    IsOk ran → OnOk ran ((outcomes : List Outcome) × ComeTo terms set events outcomes opened last × Appends first second (lines_of outcomes)) →
    keepers ≡ keepers_of last → slice ≡ keepers → ((printed : List ℕ) × EndsAs terms set owed slice read ending printed × Appends second third printed) → AreClosed Closed read →
    (outcomes : List Outcome) × (after : List (Serving K)) × (gone : List K) × (end_lines : List ℕ) × ComeTo terms set events outcomes opened after
    × EndsAs terms set owed (keepers_of after) gone ending end_lines × AreClosed Closed gone × Appends first third (lines_of outcomes ++ end_lines)
run_closed (Err fault) terms Closed set events opened last owed ending first second third keepers slice read is_ok come keepers_are slice_is end closed = absurd (not_both is_ok)
run_closed {K} (Ok done) terms Closed set events opened last owed ending first second third keepers slice read is_ok come keepers_are slice_is end closed = (
  come.0,
  last,
  read,
  end.0,
  come.1,
  subst (λ (ks : List K). EndsAs terms set owed ks read ending end.0) (slice_is ∙ keepers_are) end.1,
  closed,
  appends_both first second third (lines_of come.0) end.0 come.2 end.2,
)

-- a whole run over stores
pub reruns : {K E : Type 0} (r : Result Ending E) (terms : Terms K) (stores : StoreTerms K) (folder : List ℕ) (set : Set) (script : List ℕ) (owed : Bool) (events : List Event) (opened : List (Serving K)) (first third : Option (List ℕ)) →
    IsScript set events × (script ≡ script_of set events) → AreOpened terms stores folder set opened →
    IfOk r (λ ending. (outcomes : List Outcome) × (last : List (Serving K)) × (read : List K) × (end_lines : List ℕ) × ComeTo terms set events outcomes opened last
    × EndsAs terms set owed (keepers_of last) read ending end_lines × AreClosed stores.closed read × Appends first third (lines_of outcomes ++ end_lines)) →
    IfOk r (λ ending. (printed : List ℕ) × Reruns terms stores folder set script owed ending printed × Appends first third printed)
reruns (Err fault) terms stores folder set script owed events opened first third is_script are_opened ran = tt
reruns (Ok ending) terms stores folder set script owed events opened first third is_script are_opened ran = (
  lines_of ran.0 ++ ran.3,
  record {
    events = events;
    is_script = is_script.0;
    spelled = is_script.1;
    opened = opened;
    are_opened = are_opened;
    outcomes = ran.0;
    last = ran.1;
    come = ran.4;
    read = ran.2;
    end_lines = ran.3;
    ends = ran.5;
    let_go = ran.6;
    lines = refl;
  },
  ran.7,
)
