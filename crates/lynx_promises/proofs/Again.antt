-- What was answered once is answered alike for ever: it is recorded, and the record answers.
use Rattle.std.proofs.Common.{◌≡◌, ◌∙◌, ℕ, ◌+◌, Bool, true, false, not, cond, max, nat_lt, nat_eq, if◌then◌else◌, length, List, [], ◌∷◌, ◌++◌, Option, Some, None, Ok, Err, refl, sym, ap, subst}
use Rattle.std.specs.Option.{option_or}
use Rattle.std.proofs.lemmas.Bool.{lt-ltb, ltb-true}
use Rattle.std.proofs.lemmas.List.Folds.{find-append}
use Rattle.lynx_names.specs.declared.chain.ChainId.{ChainId}
use Rattle.lynx_names.specs.declared.limits.TheConstants.{MAX_HELD}
use Rattle.lynx_set.specs.declared.program.Program.{Program}
use Rattle.lynx_set.specs.Intervals.{are_in_range}
use Rattle.lynx_set.specs.Lookups.{program_at}
use Rattle.lynx_set.specs.Set.{Set}
use Rattle.lynx_hops.specs.Meaning.{HopOutcome, meaning}
use Rattle.lynx_entry.specs.declared.answer.Answer.{Answer}
use Rattle.lynx_entry.specs.declared.answer.Answer.TheVariants.{Begun as BegunAnswer, Refused as RefusedAnswer, Clash, UnknownProgram, WrongOrigin, ArgCount, OutsideRange, WrongShard, Full, Busy}
use Rattle.lynx_entry.specs.declared.entry.Entry.{Entry}
use Rattle.lynx_entry.specs.declared.entry.Entry.TheVariants.{Begun, Refused, Hop}
use Rattle.lynx_entry.specs.declared.event.Event.TheVariants.{Begin}
use Rattle.lynx_entry.specs.declared.event.Outcome.TheVariants.{Answered, NoServer}
use Rattle.lynx_entry.specs.declared.request.Request.{Request}
use Rattle.lynx_rules.specs.Answers.{Begins, answer, answer_new, answer_recorded, begun_by, is_busy, is_full, only, recorded_answer, same_call}
use Rattle.lynx_rules.specs.Checks.{are_keys_placed, request_fault, request_fault_in}
use Rattle.lynx_rules.specs.Lawful.{is_record_of, record_of}
use Rattle.lynx_rules.specs.Tables.{clock_of, tables_of}
use Rattle.lynx_rules.specs.Turns.{begun_count, numbers_of}
use Rattle.lynx_rules.specs.Visits.{is_origin}
use Rattle.lynx_world.specs.Placed.{Placed}
use Rattle.lynx_world.specs.Steps.{begin_at, list_with, stays}
use Rattle.lynx_world.specs.Worlds.{WorldState, history_of}
use Rattle.lynx_world.proofs.Alike.{nat-self, pointwise-self}
use Rattle.lynx_world.proofs.Events.{set_step}
use Rattle.lynx_world.proofs.Histories.{history_of-push}
use Rattle.lynx_world.proofs.Tests.{and-true}
use Rattle.lynx_weave.specs.declared.told.ToldItem.{ToldItem}
use Rattle.lynx_promises.specs.Growths.{AreGrowths, Growth, after_growths, world_later}
use Rattle.lynx_promises.specs.Requests.{answer_again, asks}
use Rattle.lynx_promises.specs.Stops.{Happening, Past, after_all}
use Rattle.lynx_promises.proofs.Honest.{set_stays}
use Rattle.lynx_promises.proofs.Lasting.{Keeps, Records, RecordsAt, keeps_after_all, keeps_growths}

-- ---- a record answers

answers_again : (server : ℕ) (request : Request) (again : Answer) (world : WorldState) (later : ℕ) → Keeps server request again world →
    (asks world server request later).outcome ≡ Answered again
answers_again server request again world later keeps =
    let here = lt-ltb server world.set.servers keeps.within in
    ap (λ b. (if b then begin_at world server (answer world.set server (history_of server world.list) request later) else stays world NoServer).outcome) here
    ∙ ap (λ o. Answered (answer_recorded world.set server (history_of server world.list) request later o).answer) keeps.records.found
    ∙ ap Answered keeps.records.answers

-- ---- what is answered is recorded

same_call-self : (request : Request) → same_call request request ≡ true
same_call-self request = and-true _ _ (nat-self request.program) (pointwise-self nat_eq nat-self request.args)

-- the answer from a record
from_record : (entry : Entry) (request : Request) (again : Answer) → answer_again (recorded_answer entry request) ≡ Some again → recorded_answer entry request ≡ again
from_record (Begun begun) request again is = by (same_call begun.request request) is
  where
    by : (b : Bool) → answer_again (if b then BegunAnswer begun.chain begun.stamp begun.results true else Clash) ≡ Some again →
        (if b then BegunAnswer begun.chain begun.stamp begun.results true else Clash) ≡ again
    by true told = cc
    by false told = cc
from_record (Refused refused) request again is = by (same_call refused.request request) is
  where
    by : (b : Bool) → answer_again (if b then RefusedAnswer refused.need refused.stamp true else Clash) ≡ Some again →
        (if b then RefusedAnswer refused.need refused.stamp true else Clash) ≡ again
    by true told = cc
    by false told = cc
from_record (Hop ran) request again is = cc

-- what is wrong with a request is no such answer
no_fault : (set : Set) (server : ℕ) (request : Request) (fault again : Answer) → request_fault set server request ≡ Some fault → answer_again fault ≡ Some again → ⊥
no_fault set server request fault again is told = by (program_at set request.program) is
  where
    other : (known : Answer) → Some known ≡ Some fault → answer_again known ≡ None → ⊥
    other known same none =
        let fault_is : known ≡ fault = cc in
        let never : None ≡ Some again = sym none ∙ ap answer_again fault_is ∙ told in cc

    by : (o : Option Program) → request_fault_in set server request o ≡ Some fault → ⊥
    by None found = other UnknownProgram found refl
    by (Some program) found =
        origin (is_origin set request.program server) (nat_eq (length request.args) program.parameters) (are_in_range program.ranges request.args)
        (are_keys_placed set request.args program.hops) found
      where
        origin : (a b c d : Bool) → (if not a then Some WrongOrigin else (if not b then Some ArgCount else (if not c then Some OutsideRange else (if not d then Some WrongShard else None))))
            ≡ Some fault → ⊥
        origin false b c d e = other WrongOrigin e refl
        origin true false c d e = other ArgCount e refl
        origin true true false d e = other OutsideRange e refl
        origin true true true false e = other WrongShard e refl
        origin true true true true e = cc

-- a record that is added behind others of which none is of the request
records_new : (server : ℕ) (request : Request) (again : Answer) (list : List Placed) (entry : Entry) → record_of request (history_of server list) ≡ None →
    is_record_of request entry ≡ true → recorded_answer entry request ≡ again → RecordsAt server request again (list ++ record { server = server; entry = entry } ∷ [])
records_new server request again list entry none is answers =
    subst (Records request again)
    (sym (history_of-push server list (record { server = server; entry = entry }) ∙ ap (λ b. history_of server list ++ cond b (entry ∷ []) []) (nat-self server)))
    (record {
      entry = entry;
      found = find-append (is_record_of request) (history_of server list) (entry ∷ []) ∙ ap (λ o. option_or o (record_of request (entry ∷ []))) none
          ∙ ap (λ b. cond b (Some entry) None) is;
      answers = answers;
    })

-- a begin that is told as begun or refused leaves its record
abbrev LeavesRecord : ℕ → Request → List Placed → Begins → Type 0
LeavesRecord server request list begins =
    (again : Answer) → answer_again begins.answer ≡ Some again → RecordsAt server request again (list_with server begins.added list)

leaves_done : (set : Set) (server : ℕ) (request : Request) (seen : ℕ) (list : List Placed) (outcome : HopOutcome) → record_of request (history_of server list) ≡ None →
    LeavesRecord server request list (begun_by set server (history_of server list) request seen outcome)
leaves_done set server request seen list (Ok outcome) none again is =
    let history = history_of server list in
    let chain : ChainId = record { origin = server; index = begun_count history } in
    let stamp = max (clock_of history) seen + 1 in
    let entry : Entry = Begun (record { request = request; seen = seen; chain = chain; numbers = numbers_of set history request.program; stamp = stamp; results = outcome.0 }) in
    let told : BegunAnswer chain stamp outcome.0 true ≡ again = cc in
    records_new server request again list entry none (and-true _ _ (nat-self request.client) (nat-self request.number))
    (ap (λ b. if b then BegunAnswer chain stamp outcome.0 true else Clash) (same_call-self request) ∙ told)
leaves_done set server request seen list (Err need) none again is =
    let stamp = max (clock_of (history_of server list)) seen + 1 in
    let entry : Entry = Refused (record { request = request; seen = seen; need = need; stamp = stamp }) in
    let told : RefusedAnswer need stamp true ≡ again = cc in
    records_new server request again list entry none (and-true _ _ (nat-self request.client) (nat-self request.number))
    (ap (λ b. if b then RefusedAnswer need stamp true else Clash) (same_call-self request) ∙ told)

leaves_room : (set : Set) (server : ℕ) (request : Request) (seen : ℕ) (list : List Placed) (full busy : Bool) (outcome : HopOutcome) →
    record_of request (history_of server list) ≡ None →
    LeavesRecord server request list (if full then only Full else (if busy then only Busy else begun_by set server (history_of server list) request seen outcome))
leaves_room set server request seen list true busy outcome none again is = cc
leaves_room set server request seen list false true outcome none again is = cc
leaves_room set server request seen list false false outcome none again is = leaves_done set server request seen list outcome none again is

leaves_new : (set : Set) (server : ℕ) (request : Request) (seen : ℕ) (list : List Placed) (fault : Option Answer) → record_of request (history_of server list) ≡ None →
    request_fault set server request ≡ fault → LeavesRecord server request list (answer_new set server (history_of server list) request seen fault)
leaves_new set server request seen list (Some fault) none is again told = absurd (no_fault set server request fault again is told)
leaves_new set server request seen list None none is again told =
    leaves_room set server request seen list (is_full (history_of server list) seen) (is_busy set server (history_of server list))
    (meaning set request.program 0 request.args [] (tables_of set (history_of server list))) none again told

leaves_by : (set : Set) (server : ℕ) (request : Request) (seen : ℕ) (list : List Placed) (recorded : Option Entry) → record_of request (history_of server list) ≡ recorded →
    LeavesRecord server request list (answer_recorded set server (history_of server list) request seen recorded)
leaves_by set server request seen list (Some entry) is again told = record { entry = entry; found = is; answers = from_record entry request again told }
leaves_by set server request seen list None is again told = leaves_new set server request seen list (request_fault set server request) is refl again told

keeps_asked : (world : WorldState) (server : ℕ) (request : Request) (seen : ℕ) (given again : Answer) → (asks world server request seen).outcome ≡ Answered given →
    answer_again given ≡ Some again → Keeps server request again (asks world server request seen).world
keeps_asked world server request seen given again is told = by (nat_lt server world.set.servers) refl is
  where
    begins : Begins
    begins = answer world.set server (history_of server world.list) request seen

    by : (b : Bool) → nat_lt server world.set.servers ≡ b → (if b then begin_at world server begins else stays world NoServer).outcome ≡ Answered given →
        Keeps server request again (if b then begin_at world server begins else stays world NoServer).world
    by true within answered =
        let given_is : begins.answer ≡ given = cc in
        record {
          within = ltb-true _ _ within;
          records = leaves_by world.set server request seen world.list (record_of request (history_of server world.list)) refl again (ap answer_again given_is ∙ told);
        }
    by false within answered = cc

-- ---- for ever

pub alike_for_ever : (world : WorldState) (told : List (List ToldItem)) (happenings : List Happening) (growths : List Growth) (server : ℕ) (request : Request) (seen later : ℕ)
    (given again : Answer) → AreGrowths world.set growths → (asks world server request seen).outcome ≡ Answered given → answer_again given ≡ Some again →
    (asks (world_later (asks world server request seen).world told happenings growths) server request later).outcome ≡ Answered again
alike_for_ever world told happenings growths server request seen later given again are is kept =
    let start : Past = record { world = (asks world server request seen).world; told = told } in
    let past = after_all start happenings in
    answers_again server request again (after_growths past growths).world later
    (keeps_growths server request again world.set past growths (set_stays start happenings ∙ set_step MAX_HELD world (Begin server request seen)) are
    (keeps_after_all server request again start happenings (keeps_asked world server request seen given again is kept)))
