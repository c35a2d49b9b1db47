-- A list stays legal where an entry is added that may follow it.
use Rattle.std.proofs.Common.{◌≡◌, ℕ, ◌+◌, ◌<◌, Bool, true, false, cond, List, [], ◌∷◌, ◌++◌, Option, Some, None, IfSome, nat_eq, find, fold, inl, inr, append_assoc, refl, sym, ap, ◌∙◌, subst}
use Rattle.std.specs.List.{AllByRecursion, cons_option}
use Rattle.std.proofs.lemmas.List.{append-nil}
use Rattle.std.proofs.lemmas.Bool.{eqb-true}
use Rattle.lynx_names.specs.declared.chain.ChainId.{ChainId}
use Rattle.lynx_set.specs.Set.{Set}
use Rattle.lynx_entry.specs.declared.entry.Entry.{Entry}
use Rattle.lynx_entry.specs.declared.message.Message.{Message}
use Rattle.lynx_entry.specs.Entry.{History}
use Rattle.lynx_rules.specs.Messages.{next_message}
use Rattle.lynx_rules.specs.Turns.{is_begun, begins_visiting, number_for, begun_count}
use Rattle.lynx_entry.specs.declared.request.Request.{Request}
use Rattle.lynx_rules.specs.Answers.{Begins, answer}
use Rattle.lynx_rules.specs.Deliveries.{delivery}
use Rattle.lynx_rules.specs.Lawful.{Starts, Runs, message_of}
use Rattle.lynx_rules.proofs.Steps.{begins_visiting-lawful, answer-lawful, delivery-lawful}
use Rattle.lynx_world.specs.Placed.{Placed}
use Rattle.lynx_world.specs.Worlds.{history_of, messages_of}
use Rattle.lynx_world.specs.Steps.{is_message_of, sent_message}
use Rattle.lynx_world.specs.Legal.{IsSent, MayFollow, IsLegalAfter, IsLegal}

legal_after-push : (set : Set) (before list : List Placed) (placed : Placed) →
    IsLegalAfter set before list → MayFollow set (before ++ list) placed → IsLegalAfter set before (list ++ placed ∷ [])
legal_after-push set before [] placed legal next = (subst (λ list. MayFollow set list placed) (append-nil before) next, tt)
legal_after-push set before (first ∷ list) placed legal next = (
  legal.0,
  legal_after-push set (before ++ first ∷ []) list placed legal.1
      (subst (λ list. MayFollow set list placed) (sym (append_assoc before (first ∷ []) list)) next),
)

-- one more entry that may follow
pub legal-push : (set : Set) (list : List Placed) (placed : Placed) →
    IsLegal set list → MayFollow set list placed → IsLegal set (list ++ placed ∷ [])
legal-push set list placed legal next = legal_after-push set [] list placed legal next

-- what is told of an entry at a server is told of its history
cons_told : (P : Entry → Type 0) (server : ℕ) (placed : Placed) (history : History) (b : Bool) → nat_eq placed.server server ≡ b →
    (placed.server ≡ server → P placed.entry) → AllByRecursion P history →
    AllByRecursion P (cons_option (cond b (Some placed.entry) None) history)
cons_told P server placed history true is told rest = (told (eqb-true _ _ is), rest)
cons_told P server placed history false is told rest = rest

-- each chain that began at a server of a legal list visits it
begins_visit : (set : Set) (server : ℕ) (before list : List Placed) → IsLegalAfter set before list →
    AllByRecursion (λ entry. begins_visiting set server entry ≡ is_begun entry) (history_of server list)
begins_visit set server before [] legal = tt
begins_visit set server before (placed ∷ list) legal =
    cons_told (λ entry. begins_visiting set server entry ≡ is_begun entry) server placed (history_of server list)
    (nat_eq placed.server server) refl
    (λ same. subst (λ s. begins_visiting set s placed.entry ≡ is_begun placed.entry) same
    (begins_visiting-lawful set placed.server (history_of placed.server before) placed.entry legal.0.lawful))
    (begins_visit set server (before ++ placed ∷ []) list legal.1)

counted_alike : {X : Type 0} (p q : X → Bool) (n : ℕ) (xs : List X) → AllByRecursion (λ x. p x ≡ q x) xs →
    fold (λ a x. a + cond (p x) 1 0) n xs ≡ fold (λ a x. a + cond (q x) 1 0) n xs
counted_alike p q n [] alike = refl
counted_alike p q n (x ∷ xs) alike =
    ap (λ b. fold (λ a y. a + cond (p y) 1 0) (n + cond b 1 0) xs) alike.0 ∙ counted_alike p q (n + cond (q x) 1 0) xs alike.1

-- at a server of a legal list, the number of a begin for its own server is the count of begins
pub number_for-own : (set : Set) (server : ℕ) (list : List Placed) → IsLegal set list →
    number_for set (history_of server list) server ≡ begun_count (history_of server list)
number_for-own set server list legal =
    counted_alike (begins_visiting set server) is_begun 0 (history_of server list) (begins_visit set server [] list legal)

-- the message is found at the first entry, or behind it
found_first : (set : Set) (placed : Placed) (list : List Placed) (message other : Message) (b : Bool) (o : Option Message) →
    next_message set placed.entry ≡ Some other → cond b (Some other) o ≡ Some message →
    (o ≡ Some message → IsSent set list message) → IsSent set (placed ∷ list) message
found_first set placed list message other true o sends is later = inl (sends ∙ is)
found_first set placed list message other false o sends is later = inr (later is)

found_here : (set : Set) (placed : Placed) (list : List Placed) (chain : ChainId) (hop : ℕ) (message : Message) (next : Option Message) →
    next_message set placed.entry ≡ next →
    find (is_message_of chain hop) (cons_option next (messages_of set list)) ≡ Some message →
    (sent_message set chain hop list ≡ Some message → IsSent set list message) → IsSent set (placed ∷ list) message
found_here set placed list chain hop message None sends is later = inr (later is)
found_here set placed list chain hop message (Some other) sends is later =
    found_first set placed list message other (is_message_of chain hop other) _ sends is later

-- a message that is found was sent
pub sent_found : (set : Set) (list : List Placed) (chain : ChainId) (hop : ℕ) (message : Message) →
    sent_message set chain hop list ≡ Some message → IsSent set list message
sent_found set [] chain hop message found = cc
sent_found set (placed ∷ list) chain hop message found =
    found_here set placed list chain hop message (next_message set placed.entry) refl found (sent_found set list chain hop message)

told_of : {X : Type 0} (o : Option X) (P Q : X → Type 0) → ((x : X) → P x → Q x) → IfSome o P → IfSome o Q
told_of None P Q all told = tt
told_of (Some x) P Q all told = all x told

-- the entry that a begin adds may follow
pub begun-may_follow : (set : Set) (list : List Placed) (server : ℕ) (request : Request) (seen : ℕ) (begins : Begins) →
    IsLegal set list → server < set.servers → begins ≡ answer set server (history_of server list) request seen →
    IfSome begins.added (λ entry. MayFollow set list (record { server = server; entry = entry }))
begun-may_follow set list server request seen begins legal there is =
    subst (λ (b : Begins). IfSome b.added (λ entry. MayFollow set list (record { server = server; entry = entry }))) (sym is)
    (told_of _ (Starts set server (history_of server list)) _
    (λ entry starts. record {
      at_server = there;
      lawful = starts.lawful;
      sent = λ message of_message. absurd_of entry message starts.of_none of_message;
    })
    (answer-lawful set server (history_of server list) request seen (number_for-own set server list legal)))
  where
    absurd_of : (entry : Entry) (message : Message) → message_of entry ≡ None → message_of entry ≡ Some message → IsSent set list message
    absurd_of entry message none some = cc

-- the entry that the delivery of a sent message adds may follow
pub ran-may_follow : (set : Set) (list : List Placed) (server room : ℕ) (held : List Message) (message : Message) (added : Option Entry) →
    IsSent set list message → server < set.servers →
    added ≡ (delivery set server room (history_of server list) held message).added →
    IfSome added (λ entry. MayFollow set list (record { server = server; entry = entry }))
ran-may_follow set list server room held message added sent there is =
    subst (λ (o : Option Entry). IfSome o (λ entry. MayFollow set list (record { server = server; entry = entry }))) (sym is)
    (told_of _ (Runs set server (history_of server list) message) _
    (λ entry runs. record {
      at_server = there;
      lawful = runs.lawful;
      sent = λ other of_other. subst (IsSent set list) (same entry other runs.of_message of_other) sent;
    })
    (delivery-lawful set server room (history_of server list) held message))
  where
    same : (entry : Entry) (other : Message) → message_of entry ≡ Some message → message_of entry ≡ Some other → message ≡ other
    same entry other one two = cc
