-- The states of a later hop.
use Rattle.std.specs.Prelude.{◌≡◌, ℕ, ◌+◌, false, true, max, Option, Some, None, List, [], Ok, Err, unwrap_or}
use Rattle.lynx_cells.specs.Database.{applied}
use Rattle.lynx_hops.specs.Meaning.{HopOutcome, meaning}
use Rattle.lynx_entry.specs.declared.entry.HopEntry.{HopEntry}
use Rattle.lynx_entry.specs.declared.message.Message.{Message}
use Rattle.lynx_rules.specs.Tables.{clock_of, tables_of}
use Rattle.lynx_rules.specs.Turns.{turn_of}
use Rattle.lynx_rules.specs.Checks.{is_well_formed}
use Rattle.lynx_rules.specs.Lawful.{hop_entry_of, number_at}
use Rattle.lynx_rules.specs.Answers.{is_full}
use Rattle.lynx_rules.specs.Deliveries.{Delivers, done_by}
use Rattle.lynx_server.specs.declared.hop_steps.TakenMessage.{TakenMessage}
use Rattle.lynx_server.specs.declared.hop_steps.RanMessage.{RanMessage}
use Rattle.lynx_server.specs.Books.{BooksState}

-- nothing answers the message before its hop runs
pub record IsDue (books : BooksState) (message : Message) (stamp : ℕ) : Type 0 where
  pub well_formed : is_well_formed books.set books.server books.history message ≡ true
  pub new : hop_entry_of message.chain message.hop books.history ≡ None
  pub in_turn : unwrap_or (number_at message.numbers books.server) 0
      ≡ turn_of books.set books.server books.history message.chain.origin
  pub room : is_full books.history message.stamp ≡ false
  pub stamp_is : stamp ≡ max (clock_of books.history) message.stamp + 1

-- what the message's hop does
abbrev pub outcome_of : BooksState → Message → HopOutcome
outcome_of books message =
    meaning books.set message.program message.hop message.args message.results
    (tables_of books.set books.history)

-- what comes of a message that is due, where nothing is held
abbrev pub due_delivery : BooksState → Message → Delivers
due_delivery books message = done_by books.set books.history [] message (outcome_of books message)

abbrev pub hop_entry : Message → ℕ → List ℕ → HopEntry
hop_entry message stamp results = record { message = message; stamp = stamp; results = results }

-- its hop ran
abbrev pub HasRun : BooksState → RanMessage → Type 0
HasRun books step =
    outcome_of books step.taken.message
    ≡ Ok (step.ran.0, applied step.ran.1 (tables_of books.set books.history))

-- the hop ran
pub record RanOn (books : BooksState) (taken : TakenMessage) (step : RanMessage) : Type 0 where
  pub taken_is : step.taken ≡ taken
  pub ran : HasRun books step

-- the hop ran, or it refused
abbrev pub HasCome : BooksState → TakenMessage → Option RanMessage → Type 0
HasCome books taken (Some step) = RanOn books taken step
HasCome books taken None = (need : ℕ) × (outcome_of books taken.message ≡ Err need)
