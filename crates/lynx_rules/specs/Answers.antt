-- What a begin is answered, and the entry that it adds.
use Rattle.std.specs.Prelude.{ℕ, ◌+◌, ◌==◌, ◌&&◌, ◌||◌, Bool, true, false, not, max, if◌then◌else◌, nat_lt, nat_eq, List, [], length, Option, Some, None, Ok, Err}
use Rattle.std.specs.Cmp.Lexicographic.{pointwise}
use Rattle.lynx_names.specs.declared.limits.TheConstants.{MAX_ENTRIES, STAMP_LIMIT}
use Rattle.lynx_names.specs.declared.chain.ChainId.{ChainId}
use Rattle.lynx_set.specs.Set.{Set}
use Rattle.lynx_hops.specs.Meaning.{HopOutcome, meaning}
use Rattle.lynx_entry.specs.declared.answer.Answer.{Answer}
use Rattle.lynx_entry.specs.declared.answer.Answer.TheVariants.{Begun as BegunAnswer, Refused as RefusedAnswer, Clash, Full, Busy}
use Rattle.lynx_entry.specs.declared.entry.Entry.{Entry}
use Rattle.lynx_entry.specs.declared.entry.Entry.TheVariants.{Begun, Refused, Hop}
use Rattle.lynx_entry.specs.declared.request.Request.{Request}
use Rattle.lynx_entry.specs.Entry.{History}
use Rattle.lynx_rules.specs.Turns.{begun_count, numbers_of, turn_of}
use Rattle.lynx_rules.specs.Tables.{tables_of, clock_of}
use Rattle.lynx_rules.specs.Checks.{request_fault}
use Rattle.lynx_rules.specs.Lawful.{record_of}

-- what comes of a begin: its answer, and the entry that it adds, if it adds one
pub record Begins : Type 0 where
  pub answer : Answer
  pub added : Option Entry

-- an answer that adds nothing
abbrev pub only : Answer → Begins
only answer = record { answer = answer; added = None }

-- the same program with the same arguments
abbrev pub same_call : Request → Request → Bool
same_call left right = (left.program == right.program) && pointwise nat_eq left.args right.args

-- the answer that an entry keeps
abbrev pub recorded_answer : Entry → Request → Answer
recorded_answer (Begun begun) request =
    if same_call begun.request request
    then BegunAnswer begun.chain begun.stamp begun.results true
    else Clash
recorded_answer (Refused refused) request =
    if same_call refused.request request
    then RefusedAnswer refused.need refused.stamp true
    else Clash
recorded_answer (Hop ran) request = Clash

-- the history, or the stamps, can grow no more
abbrev pub is_full : History → ℕ → Bool
is_full history told =
    not (nat_lt (length history) MAX_ENTRIES) || not
    (nat_lt (max (clock_of history) told + 1) STAMP_LIMIT)

-- a chain begun here has still to return here
abbrev pub is_busy : Set → ℕ → History → Bool
is_busy set server history = not (turn_of set server history server == begun_count history)

-- a begin whose hop 0 refuses by that need
abbrev pub refused_by : Request → ℕ → ℕ → ℕ → Begins
refused_by request seen need stamp = record {
  answer = RefusedAnswer need stamp false;
  added = Some (Refused (record { request = request; seen = seen; need = need; stamp = stamp }));
}

-- a begin whose hop 0 gives these results
abbrev pub begun_with : Set → ℕ → History → Request → ℕ → List ℕ → Begins
begun_with set server history request seen results =
    let chain : ChainId = record { origin = server; index = begun_count history } in
    let stamp = max (clock_of history) seen + 1 in
    record {
      answer = BegunAnswer chain stamp results false;
      added = Some (Begun (record {
        request = request;
        seen = seen;
        chain = chain;
        numbers = numbers_of set history request.program;
        stamp = stamp;
        results = results;
      }));
    }

-- a begin whose hop 0 came out so
abbrev pub begun_by : Set → ℕ → History → Request → ℕ → HopOutcome → Begins
begun_by set server history request seen (Ok outcome) =
    begun_with set server history request seen outcome.0
begun_by set server history request seen (Err need) =
    refused_by request seen need (max (clock_of history) seen + 1)

-- a new request
abbrev pub answer_new : Set → ℕ → History → Request → ℕ → Option Answer → Begins
answer_new set server history request seen (Some fault) = only fault
answer_new set server history request seen None =
    if is_full history seen then only Full
    else (if is_busy set server history then only Busy
    else begun_by set server history request seen
    (meaning set request.program 0 request.args [] (tables_of set history)))

-- The answer of a server with this history: the first of these whose condition holds. A request
-- that is recorded; what is wrong with it; no room; a chain that has still to return; else hop 0
-- runs.
abbrev pub answer_recorded : Set → ℕ → History → Request → ℕ → Option Entry → Begins
answer_recorded set server history request seen (Some entry) = only (recorded_answer entry request)
answer_recorded set server history request seen None =
    answer_new set server history request seen (request_fault set server request)

abbrev pub answer : Set → ℕ → History → Request → ℕ → Begins
answer set server history request seen =
    answer_recorded set server history request seen (record_of request history)
