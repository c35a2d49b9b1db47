-- Messages that are held, and their order.
use Rattle.std.specs.Prelude.{ℕ, ◌≤◌, ◌==◌, ◌&&◌, Bool, if◌then◌else◌, not, nat_lt, List, length, fold, Option, Some, None}
use Rattle.std.specs.List.{take_while}
use Rattle.lynx_names.specs.declared.limits.TheConstants.{MAX_HELD}
use Rattle.lynx_names.specs.declared.chain.ChainId.{ChainId}
use Rattle.lynx_entry.specs.declared.message.Message.{Message}

-- the same chain
abbrev pub same_chain : ChainId → ChainId → Bool
same_chain left right = (left.origin == right.origin) && (left.index == right.index)

-- the message is for that hop of the chain
abbrev pub is_for : ChainId → ℕ → Message → Bool
is_for chain hop message = same_chain message.chain chain && (message.hop == hop)

-- both are for one hop of one chain
abbrev pub same_hop : Message → Message → Bool
same_hop left right = same_chain left.chain right.chain && (left.hop == right.hop)

-- by origin, then index, then hop
abbrev pub is_before : Message → Message → Bool
is_before left right =
    if not (left.chain.origin == right.chain.origin) then nat_lt left.chain.origin
    right.chain.origin
    else (if not (left.chain.index == right.chain.index) then nat_lt left.chain.index
    right.chain.index
    else nat_lt left.hop right.hop)

-- the lesser of a message and the least so far
abbrev pub lesser : Option Message → Message → Option Message
lesser None message = Some message
lesser (Some least) message = if is_before message least then Some message else Some least

abbrev pub least_of : List Message → Option Message
least_of messages = fold lesser None messages

-- how many of the first are before the message
abbrev pub place_for : Message → List Message → ℕ
place_for message held = length (take_while (λ other. is_before other message) held)

-- no more than the room that there is
pub record IsHeld (messages : List Message) (capacity : ℕ) : Type 0 where
  pub few : length messages ≤ MAX_HELD
  pub room : MAX_HELD ≤ capacity
