-- What a server owes of what is settled.
use Rattle.std.proofs.Common.{◌≡◌, ◌≤◌, ◌<◌, [], ◌∷◌, ℕ, zero, suc, List, length, take, slice_get, Some, None, ◌∙◌, arith}
use Rattle.std.proofs.lemmas.List.{length-take-le}
use Rattle.lynx_entry.specs.declared.message.Message.{Message}
use Rattle.lynx_server.specs.Owed.{IsFirstOwed, IsOwed}
use Rattle.lynx_resting.specs.Resting.{RestingState, settled_part}
use Rattle.lynx_resting.proofs.Finding.{below_front}

-- an element of the front is one of all
front_element : {X : Type 0} (n : ℕ) (xs : List X) (place : ℕ) (x : X) → slice_get (take n xs) place ≡ Some x → slice_get xs place ≡ Some x
front_element zero xs place x there = cc
front_element (suc n) [] place x there = there
front_element (suc n) (first ∷ xs) zero x there = there
front_element (suc n) (first ∷ xs) (suc place) x there = front_element n xs place x there

module _ {K : Type 0} (resting : RestingState K) (within : resting.settled ≤ length resting.here.history) where
  owed_whole : (place : ℕ) (message : Message) → IsOwed (settled_part resting) place message → IsOwed resting.here place message
  owed_whole place message owed = record {
    entry = owed.entry;
    there = front_element resting.settled resting.here.history place owed.entry owed.there;
    owed = owed.owed;
  }

  long : length (take resting.settled resting.here.history) ≡ resting.settled
  long = length-take-le resting.settled resting.here.history within

  pub due_settled : (from place : ℕ) (message : Message) → IsFirstOwed resting.here from (Some (place, message)) → place < resting.settled →
      IsFirstOwed (settled_part resting) from (Some (place, message))
  due_settled from place message first low = (
    first.0,
    record { entry = first.1.entry; there = below_front resting.settled resting.here.history place low ∙ first.1.there; owed = first.1.owed },
    λ other above below more owed. first.2 other above below more (owed_whole other more owed),
  )

  pub due_behind : (from place : ℕ) (message : Message) → IsFirstOwed resting.here from (Some (place, message)) → resting.settled ≤ place →
      IsFirstOwed (settled_part resting) from None
  due_behind from place message first past =
      λ other above below more owed. first.2 other above (let end = long in omega (arith, below, end, past)) more (owed_whole other more owed)

  pub due_nothing : (from : ℕ) → IsFirstOwed resting.here from None → IsFirstOwed (settled_part resting) from None
  due_nothing from none =
      λ other above below more owed. none other above (let end = long in let low = within in omega (arith, below, end, low)) more (owed_whole other more owed)
