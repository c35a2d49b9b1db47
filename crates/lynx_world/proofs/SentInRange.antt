-- A sent message is in the range of its encoding.
use Rattle.std.proofs.Common.{◌≤◌, List, [], ◌∷◌, ◌++◌, inl, inr, arith}
use Rattle.lynx_names.specs.declared.limits.TheConstants.{MAX_SERVERS}
use Rattle.lynx_set.specs.Set.{Set}
use Rattle.lynx_entry.specs.declared.message.Message.{Message}
use Rattle.lynx_codec.specs.Ranges.{IsMessageInRange}
use Rattle.lynx_server.proofs.InRange.{next-in_range}
use Rattle.lynx_world.specs.Legal.{IsLegal, IsLegalAfter, IsSent}
use Rattle.lynx_world.specs.Placed.{Placed}
use Rattle.lynx_world.specs.Worlds.{history_of}

after-in_range : (set : Set) (before list : List Placed) (message : Message) → set.servers ≤ MAX_SERVERS →
    IsLegalAfter set before list → IsSent set list message → IsMessageInRange message
after-in_range set before [] message few legal sent = absurd sent
after-in_range set before (placed ∷ list) message few legal (inl is) =
    next-in_range set placed.server (history_of placed.server before) placed.entry message
    (omega (arith, few, legal.0.at_server)) legal.0.lawful is
after-in_range set before (placed ∷ list) message few legal (inr sent) =
    after-in_range set (before ++ placed ∷ []) list message few legal.1 sent

-- an entry of a legal list sends a message in range
pub sent-in_range : (set : Set) (list : List Placed) (message : Message) → set.servers ≤ MAX_SERVERS →
    IsLegal set list → IsSent set list message → IsMessageInRange message
sent-in_range set list message few legal sent = after-in_range set [] list message few legal sent
