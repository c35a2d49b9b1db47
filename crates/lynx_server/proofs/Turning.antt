-- What a message's number and the turn say of its delivery.
use Rattle.std.proofs.Common.{◌≡◌, ◌≤◌, ℕ, Bool, true, false, if◌then◌else◌, nat_lt, List, refl, ◌∙◌, arith}
use Rattle.std.proofs.lemmas.Bool.{ltb-false}
use Rattle.lynx_names.specs.declared.limits.TheConstants.{MAX_HELD}
use Rattle.lynx_entry.specs.declared.answer.Delivered.TheVariants.{Malformed, Full}
use Rattle.lynx_entry.specs.declared.message.Message.{Message}
use Rattle.lynx_turn.specs.declared.turns.Stand.TheVariants.{Now, Early, Past}
use Rattle.lynx_turn.specs.Turns.{stand}
use Rattle.lynx_rules.specs.Answers.{is_full}
use Rattle.lynx_rules.specs.Deliveries.{Delivers, deliver_by_turn, done_by, early}
use Rattle.lynx_server.specs.declared.sorting.Sorted.{Sorted}
use Rattle.lynx_server.specs.declared.sorting.Sorted.TheVariants.{Answered, Waits, Runs}
use Rattle.lynx_server.specs.Books.{BooksState}
use Rattle.lynx_server.specs.inner.Hops.{outcome_of}
use Rattle.lynx_server.specs.inner.Sorting.{Sorts, IsEarly, unchanged}

past_by : (a b : Bool) → Past ≡ (if a then Past else (if b then Early else Now)) → a ≡ true
past_by true b is = refl
past_by false true is = cc
past_by false false is = cc

early_by : (a b : Bool) → Early ≡ (if a then Past else (if b then Early else Now)) → (a ≡ false) × (b ≡ true)
early_by true b is = cc
early_by false true is = (refl, refl)
early_by false false is = cc

now_by : (a b : Bool) → Now ≡ (if a then Past else (if b then Early else Now)) → (a ≡ false) × (b ≡ false)
now_by true b is = cc
now_by false true is = cc
now_by false false is = (refl, refl)

-- a message that is past
pub past-delivers : (books : BooksState) (held : List Message) (message : Message) (number turn : ℕ) → Past ≡ stand number turn →
    deliver_by_turn books.set books.server MAX_HELD books.history held message number turn ≡ unchanged Malformed held
past-delivers books held message number turn is = rw (past_by (nat_lt number turn) (nat_lt turn number) is) refl

-- a message that is early
pub early-delivers : (books : BooksState) (held : List Message) (message : Message) (number turn : ℕ) → Early ≡ stand number turn →
    deliver_by_turn books.set books.server MAX_HELD books.history held message number turn ≡ early MAX_HELD held message
early-delivers books held message number turn is =
    let tests = early_by (nat_lt number turn) (nat_lt turn number) is in
    rw (tests.0, tests.1) refl

-- a message whose turn it is
pub now-delivers : (books : BooksState) (held : List Message) (message : Message) (number turn : ℕ) (full : Bool) → Now ≡ stand number turn →
    is_full books.history message.stamp ≡ full →
    deliver_by_turn books.set books.server MAX_HELD books.history held message number turn
    ≡ (if full then unchanged Full held else done_by books.set books.history held message (outcome_of books message))
now-delivers books held message number turn full is full_is =
    let tests = now_by (nat_lt number turn) (nat_lt turn number) is in
    rw (tests.0, tests.1, full_is) refl

-- its number is the turn
pub now-in_turn : (number turn : ℕ) → Now ≡ stand number turn → number ≡ turn
now-in_turn number turn is =
    let tests = now_by (nat_lt number turn) (nat_lt turn number) is in
    let low : turn ≤ number = ltb-false _ _ tests.0 in
    let high : number ≤ turn = ltb-false _ _ tests.1 in
    omega arith

-- what becomes of an early message
pub early-sorts : (books : BooksState) (held : List Message) (message : Message) (delivers : Delivers) (sorted : Sorted) →
    delivers ≡ early MAX_HELD held message → IsEarly held message sorted → Sorts books held message delivers sorted
early-sorts books held message delivers (Answered delivered) is sorts = is ∙ sorts
early-sorts books held message delivers Waits is sorts = record { delivers_is = is ∙ sorts.delivers_is; room = sorts.room }
early-sorts books held message delivers (Runs stamp) is sorts = absurd sorts
