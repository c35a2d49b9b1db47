-- A request that is due: what comes of it, and that its entry is lawful.
use Rattle.std.proofs.Common.{◌≡◌, ◌||◌, ℕ, Bool, true, false, not, if◌then◌else◌, length, nat_lt, is_some, IfSome, List, [], None, Ok, max, ◌+◌, refl, sym, ap, ◌∙◌, subst}
use Rattle.lynx_set.specs.Set.{Set}
use Rattle.lynx_entry.specs.declared.message.Message.{Message}
use Rattle.lynx_entry.specs.Entry.{History}
use Rattle.std.proofs.lemmas.Bool.{ltb-true}
use Rattle.lynx_names.specs.declared.limits.TheConstants.{MAX_ENTRIES, STAMP_LIMIT}
use Rattle.lynx_server.specs.inner.Hops as hops
use Rattle.lynx_server.specs.inner.Hops.{outcome_of, hop_entry}
use Rattle.lynx_rules.specs.Checks.{request_fault}
use Rattle.lynx_cells.specs.Database.{Database}
use Rattle.lynx_hops.specs.Meaning.{HopOutcome, meaning}
use Rattle.lynx_entry.specs.declared.answer.Answer.TheVariants.{Full, Busy}
use Rattle.lynx_names.specs.declared.numbers.NumberAt.{NumberAt}
use Rattle.lynx_entry.specs.declared.entry.BegunEntry.{BegunEntry}
use Rattle.lynx_entry.specs.declared.entry.Entry.TheVariants.{Begun, Hop}
use Rattle.lynx_entry.specs.declared.request.Request.{Request}
use Rattle.lynx_rules.specs.Turns.{begun_count, number_for, numbers_of}
use Rattle.lynx_rules.specs.Tables.{clock_of, tables_of}
use Rattle.lynx_rules.specs.Lawful.{record_of, HasRoom, IsLawful, Starts}
use Rattle.lynx_rules.specs.Answers.{Begins, answer, answer_new, answer_recorded, begun_by, is_busy, is_full, only}
use Rattle.lynx_rules.proofs.Steps.{answer-lawful}
use Rattle.lynx_server.specs.Books.{BooksState}
use Rattle.lynx_server.specs.inner.Begins.{IsDue, begun_entry, due}

-- the answer to a request that is due comes of its hop
pub due-answer : (books : BooksState) (request : Request) (seen : ℕ) → IsDue books request seen →
    answer books.set books.server books.history request seen ≡ due books request seen
due-answer books request seen is =
    ap (answer_recorded books.set books.server books.history request seen) is.new
    ∙ ap (answer_new books.set books.server books.history request seen) is.in_order
    ∙ ap (λ b. if b then only Full else (if is_busy books.set books.server books.history then only Busy else due books request seen)) is.room
    ∙ ap (λ b. if b then only Busy else due books request seen) is.not_busy

-- what comes of it is lawful
pub due-lawful : (books : BooksState) (request : Request) (seen : ℕ) → IsDue books request seen →
    number_for books.set books.history books.server ≡ begun_count books.history →
    IfSome (due books request seen).added (Starts books.set books.server books.history)
due-lawful books request seen is home =
    subst (λ (begins : Begins). IfSome begins.added (Starts books.set books.server books.history)) (due-answer books request seen is)
    (answer-lawful books.set books.server books.history request seen home)

-- what comes of a hop that came out so
pub due-by : (books : BooksState) (request : Request) (seen : ℕ) (outcome : HopOutcome) →
    meaning books.set request.program 0 request.args [] (tables_of books.set books.history) ≡ outcome →
    due books request seen ≡ begun_by books.set books.server books.history request seen outcome
due-by books request seen outcome is = ap (begun_by books.set books.server books.history request seen) is

-- equal numbers and results make the same entry
pub same_begun : (books : BooksState) (request : Request) (seen stamp : ℕ) (begun : BegunEntry) (numbers drawn : List NumberAt) (results given : List ℕ) →
    begun ≡ begun_entry books request seen stamp numbers results → numbers ≡ drawn → results ≡ given →
    begun ≡ begun_entry books request seen stamp drawn given
same_begun books request seen stamp begun numbers drawn results given is drawn_are given_are =
    is ∙ ap (λ n. begun_entry books request seen stamp n results) drawn_are ∙ ap (begun_entry books request seen stamp drawn) given_are

-- the entry of a hop 0 that ran is lawful
pub run-lawful : (books : BooksState) (request : Request) (seen stamp : ℕ) (numbers : List NumberAt) (results : List ℕ) (db : Database) (begun : BegunEntry) →
    IsDue books request seen → number_for books.set books.history books.server ≡ begun_count books.history →
    stamp ≡ max (clock_of books.history) seen + 1 → numbers ≡ numbers_of books.set books.history request.program →
    meaning books.set request.program 0 request.args [] (tables_of books.set books.history) ≡ Ok (results, db) →
    begun ≡ begun_entry books request seen stamp numbers results →
    IsLawful books.set books.server books.history (Begun begun)
run-lawful books request seen stamp numbers results db begun is home stamp_is numbers_are ran begun_is =
    let starts : IfSome (begun_by books.set books.server books.history request seen (Ok (results, db))).added (Starts books.set books.server books.history) =
    subst (λ (begins : Begins). IfSome begins.added (Starts books.set books.server books.history)) (due-by books request seen (Ok (results, db)) ran)
    (due-lawful books request seen is home) in
    let same : begun ≡ begun_entry books request seen (max (clock_of books.history) seen + 1) (numbers_of books.set books.history request.program) results =
    begun_is ∙ ap (λ s. begun_entry books request seen s numbers results) stamp_is
    ∙ ap (λ n. begun_entry books request seen (max (clock_of books.history) seen + 1) n results) numbers_are in
    subst (λ entry. IsLawful books.set books.server books.history (Begun entry)) (sym same) starts.lawful

both_pass : (a b : Bool) → (not a || not b) ≡ false → (a ≡ true) × (b ≡ true)
both_pass true true passed = (refl, refl)
both_pass true false passed = cc
both_pass false b passed = cc

-- a history that isn't full has room
pub room_left : (history : History) (told : ℕ) → is_full history told ≡ false → HasRoom history told
room_left history told left =
    let tests = both_pass (nat_lt (length history) MAX_ENTRIES) (nat_lt (max (clock_of history) told + 1) STAMP_LIMIT) left in
    record { entries = ltb-true _ _ tests.0; stamps = ltb-true _ _ tests.1 }

-- the entry of a later hop that ran is lawful
pub hop-lawful : (books : BooksState) (message : Message) (stamp : ℕ) (results : List ℕ) (db : Database) → hops.IsDue books message stamp →
    outcome_of books message ≡ Ok (results, db) → IsLawful books.set books.server books.history (Hop (hop_entry message stamp results))
hop-lawful books message stamp results db is ran = record {
  room = room_left books.history message.stamp is.room;
  stamp = is.stamp_is;
  well_formed = is.well_formed;
  new = ap is_some is.new;
  in_turn = is.in_turn;
  results = (db, ran);
}

-- a request that finds a chain which has still to return
pub busy-answer : (set : Set) (server : ℕ) (history : History) (request : Request) (seen : ℕ) → record_of request history ≡ None →
    request_fault set server request ≡ None → is_full history seen ≡ false → is_busy set server history ≡ true →
    answer set server history request seen ≡ only Busy
busy-answer set server history request seen new in_order room busy =
    let rest = begun_by set server history request seen (meaning set request.program 0 request.args [] (tables_of set history)) in
    ap (answer_recorded set server history request seen) new
    ∙ ap (answer_new set server history request seen) in_order
    ∙ ap (λ b. if b then only Full else (if is_busy set server history then only Busy else rest)) room
    ∙ ap (λ b. if b then only Busy else rest) busy
