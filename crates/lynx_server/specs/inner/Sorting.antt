-- What is to become of a message.
use Rattle.std.specs.Prelude.{◌==◌, Bool, ◌≡◌, ℕ, ◌<◌, List, length, insert, None, unwrap_or}
use Rattle.lynx_names.specs.declared.limits.TheConstants.{MAX_HELD}
use Rattle.lynx_entry.specs.declared.answer.Delivered.{Delivered}
use Rattle.lynx_entry.specs.declared.answer.Delivered.TheVariants.{Held}
use Rattle.lynx_entry.specs.declared.message.Message.{Message}
use Rattle.lynx_turn.specs.Held.{place_for}
use Rattle.lynx_rules.specs.Turns.{turn_of}
use Rattle.lynx_rules.specs.Lawful.{number_at}
use Rattle.lynx_rules.specs.Deliveries.{Delivers, early, deliver_by_turn, delivery, done_by}
use Rattle.lynx_server.specs.declared.sorting.Sorted.{Sorted}
use Rattle.lynx_server.specs.declared.sorting.Sorted.TheVariants.{Answered, Waits, Runs}
use Rattle.lynx_server.specs.Books.{BooksState}
use Rattle.lynx_server.specs.inner.Hops.{IsDue, outcome_of}

-- an answer that changes nothing
abbrev pub unchanged : Delivered → List Message → Delivers
unchanged delivered held = record { delivered = delivered; added = None; held = held }

-- the message is held in its place
pub record IsHolding (held : List Message) (message : Message) (delivers : Delivers) : Type 0 where
  pub delivers_is : delivers
      ≡ record {
        delivered = Held;
        added = None;
        held = insert held (place_for message held) message;
      }
  pub room : length held < MAX_HELD

-- the hop runs
pub record IsRunning (books : BooksState) (held : List Message) (message : Message) (stamp : ℕ)
    (delivers : Delivers) : Type 0 where
  pub due : IsDue books message stamp
  pub delivers_is : delivers
      ≡ done_by books.set books.history held message (outcome_of books message)

-- what becomes of it so is the delivery
abbrev pub Sorts : BooksState → List Message → Message → Delivers → Sorted → Type 0
Sorts books held message delivers (Answered delivered) = delivers ≡ unchanged delivered held
Sorts books held message delivers Waits = IsHolding held message delivers
Sorts books held message delivers (Runs stamp) = IsRunning books held message stamp delivers

-- what becomes of a message that comes before its turn
abbrev pub IsEarly : List Message → Message → Sorted → Type 0
IsEarly held message (Answered delivered) = early MAX_HELD held message ≡ unchanged delivered held
IsEarly held message Waits = IsHolding held message (early MAX_HELD held message)
IsEarly held message (Runs stamp) = ⊥

abbrev pub IsSortedByTurn : BooksState → List Message → Message → Sorted → Type 0
IsSortedByTurn books held message sorted =
    Sorts books held message
    (deliver_by_turn books.set books.server MAX_HELD books.history held message
    (unwrap_or (number_at message.numbers books.server) 0)
    (turn_of books.set books.server books.history message.chain.origin))
    sorted

abbrev pub IsSorted : BooksState → List Message → Message → Sorted → Type 0
IsSorted books held message sorted =
    Sorts books held message (delivery books.set books.server MAX_HELD books.history held message)
    sorted

-- it is the message's turn
abbrev pub stands_here : BooksState → Message → Bool
stands_here books message =
    unwrap_or (number_at message.numbers books.server) 0 == turn_of books.set books.server
    books.history message.chain.origin
