-- The record of a request stays, over whatever happens and whatever a set grows by.
use Rattle.std.proofs.Common.{◌≡◌, ◌∙◌, ℕ, ◌<◌, cond, nat_eq, List, [], ◌∷◌, ◌++◌, Option, Some, None, inl, inr, sym, ap, subst, arith}
use Rattle.std.specs.Option.{option_or}
use Rattle.std.proofs.lemmas.List.Folds.{find-append}
use Rattle.lynx_names.specs.declared.limits.TheConstants.{MAX_HELD}
use Rattle.lynx_set.specs.Set.{Set}
use Rattle.lynx_entry.specs.declared.answer.Answer.{Answer}
use Rattle.lynx_entry.specs.declared.entry.Entry.{Entry}
use Rattle.lynx_entry.specs.declared.event.Event.{Event}
use Rattle.lynx_entry.specs.declared.event.Event.TheVariants.{Restart}
use Rattle.lynx_entry.specs.declared.request.Request.{Request}
use Rattle.lynx_entry.specs.Entry.{History}
use Rattle.lynx_rules.specs.Answers.{recorded_answer}
use Rattle.lynx_rules.specs.Lawful.{is_record_of, record_of}
use Rattle.lynx_world.specs.Placed.{Placed}
use Rattle.lynx_world.specs.Steps.{HasGrown, step}
use Rattle.lynx_world.specs.Worlds.{WorldState, history_of}
use Rattle.lynx_world.proofs.Growing.{step-grows}
use Rattle.lynx_world.proofs.Histories.{history_of-push}
use Rattle.lynx_promises.specs.Growths.{AreGrowths, Growth, after_growths, opened_by}
use Rattle.lynx_promises.specs.Stops.{Asks, Comes, Happening, Looks, Past, Stops, after, after_all, asked, world_with}
use Rattle.lynx_promises.proofs.Honest.{set_stays}

-- ---- a record stays

-- the history has a record of the request, which is answered so from it
pub record Records (request : Request) (again : Answer) (history : History) : Type 0 where
  pub entry : Entry
  pub found : record_of request history ≡ Some entry
  pub answers : recorded_answer entry request ≡ again

-- whatever stands behind it
records_on : (request : Request) (again : Answer) (history more : History) → Records request again history → Records request again (history ++ more)
records_on request again history more records = record {
  entry = records.entry;
  found = find-append (is_record_of request) history more ∙ ap (λ o. option_or o (record_of request more)) records.found;
  answers = records.answers;
}

-- .. of that server, in the list of a world
abbrev pub RecordsAt : ℕ → Request → Answer → List Placed → Type 0
RecordsAt server request again list = Records request again (history_of server list)

records_grown : (server : ℕ) (request : Request) (again : Answer) (old new : List Placed) → HasGrown old new → RecordsAt server request again old →
    RecordsAt server request again new
records_grown server request again old new (inl same) records = subst (RecordsAt server request again) (sym same) records
records_grown server request again old new (inr more) records =
    subst (RecordsAt server request again) (sym more.1)
    (subst (Records request again) (sym (history_of-push server old more.0))
    (records_on request again (history_of server old) (cond (nat_eq more.0.server server) (more.0.entry ∷ []) []) records))

records_step : (server : ℕ) (request : Request) (again : Answer) (world : WorldState) (event : Event) → RecordsAt server request again world.list →
    RecordsAt server request again (step MAX_HELD world event).world.list
records_step server request again world event records =
    records_grown server request again world.list (step MAX_HELD world event).world.list (step-grows MAX_HELD world event) records

records_with : (server : ℕ) (request : Request) (again : Answer) (world : WorldState) (event : Option Event) → RecordsAt server request again world.list →
    RecordsAt server request again (world_with world event).list
records_with server request again world None records = records
records_with server request again world (Some event) records = records_step server request again world event records

records_after : (server : ℕ) (request : Request) (again : Answer) (past : Past) (happening : Happening) → RecordsAt server request again past.world.list →
    RecordsAt server request again (after past happening).world.list
records_after server request again past (Asks session at other) records = records_step server request again past.world (asked past session at other) records
records_after server request again past (Looks session at chain hop) records = records
records_after server request again past (Comes event) records = records_step server request again past.world event records
records_after server request again past (Stops at event) records =
    records_step server request again (world_with past.world event) (Restart at) (records_with server request again past.world event records)

records_after_all : (server : ℕ) (request : Request) (again : Answer) (past : Past) (happenings : List Happening) → RecordsAt server request again past.world.list →
    RecordsAt server request again (after_all past happenings).world.list
records_after_all server request again past [] records = records
records_after_all server request again past (happening ∷ happenings) records =
    records_after_all server request again (after past happening) happenings (records_after server request again past happening records)

-- the server is one of the set, and has the record
pub record Keeps (server : ℕ) (request : Request) (again : Answer) (world : WorldState) : Type 0 where
  pub within : server < world.set.servers
  pub records : RecordsAt server request again world.list

pub keeps_after_all : (server : ℕ) (request : Request) (again : Answer) (past : Past) (happenings : List Happening) → Keeps server request again past.world →
    Keeps server request again (after_all past happenings).world
keeps_after_all server request again past happenings keeps = record {
  within = subst (λ (set : Set). server < set.servers) (sym (set_stays past happenings)) keeps.within;
  records = records_after_all server request again past happenings keeps.records;
}

pub keeps_growths : (server : ℕ) (request : Request) (again : Answer) (set : Set) (past : Past) (growths : List Growth) → past.world.set ≡ set → AreGrowths set growths →
    Keeps server request again past.world → Keeps server request again (after_growths past growths).world
keeps_growths server request again set past [] of are keeps = keeps
keeps_growths server request again set past (growth ∷ growths) of are keeps =
    let opened = opened_by growth.set past in
    let more = are.1.head.servers in
    let same : past.world.set.servers ≡ set.servers = ap (λ (s : Set). s.servers) of in
    let within = keeps.within in
    let keeps_opened : Keeps server request again opened.world = record { within = omega arith; records = keeps.records } in
    keeps_growths server request again growth.set (after_all opened growth.happenings) growths (set_stays opened growth.happenings) are.2
    (keeps_after_all server request again opened growth.happenings keeps_opened)
