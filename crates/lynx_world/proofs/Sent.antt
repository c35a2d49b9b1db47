-- The messages that were sent, as a list grows; an entry's own message is one of them.
use Rattle.std.proofs.Common.{◌≡◌, List, [], ◌∷◌, ◌++◌, Some, inl, inr, ◌⊎◌, subst}
use Rattle.lynx_set.specs.Set.{Set}
use Rattle.lynx_entry.specs.declared.message.Message.{Message}
use Rattle.lynx_rules.specs.Messages.{next_message}
use Rattle.lynx_rules.specs.Lawful.{message_of}
use Rattle.lynx_world.specs.Placed.{Placed}
use Rattle.lynx_world.specs.Legal.{IsSent, IsLegal}
use Rattle.lynx_world.proofs.Members.{IsIn}
use Rattle.lynx_world.proofs.Standing.{stands}

-- a message that was sent stays sent
pub sent-append : (set : Set) (list more : List Placed) (message : Message) → IsSent set list message → IsSent set (list ++ more) message
sent-append set [] more message never = absurd never
sent-append set (first ∷ list) more message (inl sends) = inl sends
sent-append set (first ∷ list) more message (inr later) = inr (sent-append set list more message later)

-- a message is sent by the last entry, or by one before it
pub sent-push : (set : Set) (list : List Placed) (last : Placed) (message : Message) → IsSent set (list ++ last ∷ []) message →
    IsSent set list message ⊎ (next_message set last.entry ≡ Some message)
sent-push set [] last message (inl sends) = inr sends
sent-push set [] last message (inr never) = absurd never
sent-push set (first ∷ list) last message (inl sends) = inl (inl sends)
sent-push set (first ∷ list) last message (inr later) =
    elim (sent-push set list last message later) [ inl there ↦ inl (inr there) | inr sends ↦ inr sends ]

-- an entry of a legal list ran on a message that was sent
pub message-sent : (set : Set) (list : List Placed) (placed : Placed) (message : Message) → IsLegal set list → IsIn placed list →
    message_of placed.entry ≡ Some message → IsSent set list message
message-sent set list placed message legal there is =
    let stood = stands set list placed legal there in
    subst (λ l. IsSent set l message) stood.whole
    (sent-append set stood.before (placed ∷ stood.behind) message (stood.may_follow.sent message is))
