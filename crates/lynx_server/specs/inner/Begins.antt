-- The states of a begin.
use Rattle.std.specs.Prelude.{◌≡◌, ℕ, ◌+◌, false, max, Option, Some, None, List, [], Result, Ok, Err, IfOk, OnOk, OnErr}
use Rattle.lynx_cells.specs.Database.{applied}
use Rattle.lynx_hops.specs.Meaning.{meaning}
use Rattle.lynx_names.specs.declared.numbers.NumberAt.{NumberAt}
use Rattle.lynx_entry.specs.declared.request.Request.{Request}
use Rattle.lynx_entry.specs.declared.entry.BegunEntry.{BegunEntry}
use Rattle.lynx_entry.specs.declared.entry.Entry.{Entry}
use Rattle.lynx_keep.specs.Kept as keep
use Rattle.lynx_keep.specs.declared.fault.KeepFault.{KeepFault}
use Rattle.lynx_rules.specs.Turns.{begun_count, numbers_of}
use Rattle.lynx_rules.specs.Tables.{clock_of, tables_of}
use Rattle.lynx_rules.specs.Checks.{request_fault}
use Rattle.lynx_rules.specs.Lawful.{record_of}
use Rattle.lynx_rules.specs.Answers.{Begins, is_full, is_busy, begun_by}
use Rattle.lynx_server.specs.declared.steps.Kept.{Kept}
use Rattle.lynx_server.specs.declared.steps.Taken.{Taken}
use Rattle.lynx_server.specs.declared.steps.RanStep.{RanStep}
use Rattle.lynx_server.specs.declared.steps.RefusedStep.{RefusedStep}
use Rattle.lynx_server.specs.declared.steps.Stepped.{Stepped}
use Rattle.lynx_server.specs.declared.steps.Stepped.TheVariants.{Ran, Refused}
use Rattle.lynx_server.specs.Books.{BooksState}
use Rattle.lynx_server.specs.History.{grown}
use Rattle.lynx_server.specs.Keeping.{kept_of}
use Rattle.lynx_server.specs.inner.Keeping.{Commits}

-- nothing answers the request before its hop runs
pub record IsDue (books : BooksState) (request : Request) (seen : ℕ) : Type 0 where
  pub new : record_of request books.history ≡ None
  pub in_order : request_fault books.set books.server request ≡ None
  pub room : is_full books.history seen ≡ false
  pub not_busy : is_busy books.set books.server books.history ≡ false

-- the request can be begun now: no draw is out, and the stamp is the next one
pub record CanBegin (books : BooksState) (request : Request) (seen stamp : ℕ) : Type 0 where
  pub free : books.out ≡ None
  pub due : IsDue books request seen
  pub stamp_is : stamp ≡ max (clock_of books.history) seen + 1

-- what comes of a request that is due
abbrev pub due : BooksState → Request → ℕ → Begins
due books request seen =
    begun_by books.set books.server books.history request seen
    (meaning books.set request.program 0 request.args [] (tables_of books.set books.history))

-- the books with what was added, and no draw out
abbrev pub books_with : BooksState → Option Entry → BooksState
books_with books added =
    record {
      set = books.set;
      server = books.server;
      history = grown books.history added;
      out = None;
    }

-- a begin was answered and kept; an error leaves the books as they were, and no draw out
pub record KeepsBegin {K : Type 0} (terms : keep.Terms K) (keeper keeper_after : K)
    (books : BooksState) (request : Request) (seen : ℕ) (result : Result Kept KeepFault)
    (books_after : BooksState) : Type 0 where
  pub answer : IfOk result (λ kept. kept.answer ≡ (due books request seen).answer)
  pub grows : OnOk result (books_after ≡ books_with books (due books request seen).added)
  pub err : OnErr result (books_after ≡ books_with books None)
  pub commits : Commits terms keeper keeper_after (kept_of books.set books.history)
      (kept_of books.set (grown books.history (due books request seen).added)) result

-- the entry of a chain that begins next
abbrev pub begun_entry : BooksState → Request → ℕ → ℕ → List NumberAt → List ℕ → BegunEntry
begun_entry books request seen stamp numbers results = record {
  request = request;
  seen = seen;
  chain = record { origin = books.server; index = begun_count books.history };
  numbers = numbers;
  stamp = stamp;
  results = results;
}

-- the same books, whichever draw is out
pub record AreAlike (old new : BooksState) : Type 0 where
  pub set_is : new.set ≡ old.set
  pub server_is : new.server ≡ old.server
  pub history_is : new.history ≡ old.history

-- a request with its draw, which is out
pub record IsTaken (books : BooksState) (request : Request) (seen : ℕ) (taken : Taken) : Type
    0 where
  pub request_is : taken.request ≡ request
  pub seen_is : taken.seen ≡ seen
  pub stamp_is : taken.stamp ≡ max (clock_of books.history) seen + 1
  pub draw_is : taken.draw ≡ numbers_of books.set books.history request.program
  pub out_is : books.out ≡ Some taken.draw

-- its hop ran
pub record HasRun (books : BooksState) (request : Request) (seen : ℕ) (step : RanStep) : Type
    0 where
  pub taken_is : IsTaken books request seen step.taken
  pub ran_is : meaning books.set request.program 0 request.args []
      (tables_of books.set books.history)
      ≡ Ok (step.ran.0, applied step.ran.1 (tables_of books.set books.history))

-- its hop refused, and its draw was given back
pub record HasRefused (books : BooksState) (request : Request) (seen : ℕ)
    (step : RefusedStep) : Type 0 where
  pub request_is : step.request ≡ request
  pub seen_is : step.seen ≡ seen
  pub stamp_is : step.stamp ≡ max (clock_of books.history) seen + 1
  pub need_is : meaning books.set request.program 0 request.args []
      (tables_of books.set books.history) ≡ Err step.need
  pub out_is : books.out ≡ None

abbrev pub HasStepped : BooksState → Request → ℕ → Stepped → Type 0
HasStepped books request seen (Ran step) = HasRun books request seen step
HasStepped books request seen (Refused step) = HasRefused books request seen step
