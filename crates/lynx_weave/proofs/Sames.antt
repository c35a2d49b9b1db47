-- What `==` says of a message that was found.
use Rattle.std.proofs.Common.{◌≡◌, Bool, Option, Some, IsTrue, sym, ap, ◌∙◌}
use Rattle.lynx_entry.specs.declared.message.Message.{Message}
use Rattle.lynx_entry.specs.contracts.message.MessagePartialEq as messages_eq
use Rattle.lynx_entry.proofs.Alike.{messages_decide}

given : (a b : Message) → Some a ≡ Some b → a ≡ b
given a b is = cc

-- a message that was found is that one
pub same_found : (found : Option Message) (sent message : Message) (r : Bool) → r ≡ messages_eq.TheImpl.ghosts.eq sent message → found ≡ Some sent →
    (IsTrue r → found ≡ Some message) × (found ≡ Some message → IsTrue r)
same_found found sent message r is there =
    let decides = messages_decide sent message in
    (λ passes. there ∙ ap Some (decides.0 (sym is ∙ passes)), λ same. is ∙ decides.1 (given sent message (sym there ∙ same)))
