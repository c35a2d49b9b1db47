-- A stream that comes in pieces, and is given back item by item.
use Rattle.std.specs.Prelude.{◌≡◌, ◌≢◌, ◌≤◌, ℕ, List, [], ◌∷◌, ◌++◌, length, drop, Option, Some, None, Result, Ok, Err, IfSome}
use Rattle.std.specs.List.{flat_map}
use Rattle.lynx_codec.specs.declared.fault.DecodeFault.{DecodeFault}
use Rattle.lynx_codec.specs.declared.fault.DecodeFault.TheVariants as faults
use Rattle.lynx_codec.specs.declared.item.Item.{Item}
use Rattle.lynx_codec.specs.Encoding.{encoding}
use Rattle.lynx_codec.specs.Ranges.{IsItem, IsInRange}
use Rattle.lynx_codec.specs.Reading.{Fails}
use Rattle.lynx_codec.specs.Front.{front}

-- what a feed is seen as
pub record Stream : Type 0 where
  -- the bytes that were pushed, without the encodings of the items that were given
  pub rest : List ℕ
  -- the fault that was given, which ended the feed
  pub failed : Option DecodeFault

-- of these bytes so many were given
abbrev pub stream_of : List ℕ → ℕ → Option DecodeFault → Stream
stream_of bytes given failed = record { rest = drop given bytes; failed = failed }

-- a fault that was given stands at the front
abbrev pub IsFailing : Stream → Type 0
IsFailing stream = IfSome stream.failed (λ fault. front stream.rest ≡ Err fault)

-- no encoding of an item stands at the front of the bytes
abbrev pub BeginsNoItem : List ℕ → Type 0
BeginsNoItem bytes = (item : Item) (more : List ℕ) → IsItem item → bytes ≡ encoding item ++ more → ⊥

-- A call answers what stands at the front, and of an item how many bytes its encoding has.
abbrev pub Finds : List ℕ → Result (Option (Item × ℕ)) DecodeFault → Type 0
Finds bytes (Ok None) = front bytes ≡ Ok None
Finds bytes (Ok (Some found)) = front bytes ≡ Ok (Some (found.0, drop found.1 bytes))
Finds bytes (Err fault) = Fails fault (front bytes)

-- the first bytes, so many of them, are the encoding of the item
pub record IsFront (bytes : List ℕ) (item : Item) (size : ℕ) : Type 0 where
  pub within : size ≤ length bytes
  pub encoding_stands : bytes ≡ encoding item ++ drop size bytes
  pub is_item : IsItem item

-- the item's encoding stood at the front of old, and new has what stood behind it
pub record Gives (old : Stream) (item : Item) (new : Stream) : Type 0 where
  pub encoding_stood : old.rest ≡ encoding item ++ new.rest
  pub is_item : IsItem item
  pub in_range : IsInRange item
  pub was_open : old.failed ≡ None
  pub stays_open : new.failed ≡ None

-- nothing whole stands at the front, and no fault: more bytes have to come
pub record Waits (old new : Stream) : Type 0 where
  pub unchanged : new ≡ old
  pub was_open : old.failed ≡ None
  pub nothing_yet : front old.rest ≡ Ok None
  pub no_item : BeginsNoItem old.rest

-- the fault stands at the front, and has ended the feed
pub record Ends (old : Stream) (fault : DecodeFault) (new : Stream) : Type 0 where
  pub stood : front old.rest ≡ Err fault
  pub no_item : BeginsNoItem old.rest
  pub ended : new ≡ record old { failed = Some fault }

-- memory was wanted for an item or a fault that stands at the front: nothing has changed
pub record Lacks (old new : Stream) : Type 0 where
  pub unchanged : new ≡ old
  pub was_open : old.failed ≡ None
  pub something_stands : front old.rest ≢ Ok None

-- what a fault means
abbrev pub Faults : Stream → Stream → DecodeFault → Type 0
Faults old new faults.Memory = Lacks old new
-- that bytes are missing is never known before the end
Faults old new faults.Short = ⊥
Faults old new faults.BadTag = Ends old faults.BadTag new
Faults old new faults.BadLength = Ends old faults.BadLength new
Faults old new faults.OutOfRange = Ends old faults.OutOfRange new

-- how a stream ends if it ends here
abbrev pub end_of : Option DecodeFault → List ℕ → Result (Unit {0}) DecodeFault
end_of (Some fault) rest = Err fault
end_of None [] = Ok tt
end_of None (byte ∷ rest) = Err faults.Short

-- From old, these items are given, one after the other.
abbrev pub GivesAll : Stream → List Item → Stream → Type 0
GivesAll old [] new = new ≡ old
GivesAll old (item ∷ items) new = (mid : Stream) × Gives old item mid × GivesAll mid items new

-- From old, pieces are pushed, and behind each of them items are given.
abbrev pub Run : Stream → List (List ℕ × List Item) → Stream → Type 0
Run old [] new = new ≡ old
Run old (step ∷ steps) new =
    (mid : Stream) × GivesAll (record old { rest = old.rest ++ step.0 }) step.1 mid
    × Run mid steps new

-- a feed that was pushed nothing
abbrev pub empty : Stream
empty = record { rest = []; failed = None }

-- all that was pushed, and all that was given
abbrev pub pushed_of : List (List ℕ × List Item) → List ℕ
pushed_of steps = flat_map (λ step. step.0) steps

abbrev pub given_of : List (List ℕ × List Item) → List Item
given_of steps = flat_map (λ step. step.1) steps
