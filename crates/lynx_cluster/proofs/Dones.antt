-- What is told to be done was done.
use Rattle.std.proofs.Common.{◌≡◌, ◌∙◌, ◌&&◌, eq-eqb, ℕ, Bool, true, false, cond, not, nat_eq, nat_lt, List, [], ◌∷◌, ◌++◌, find, length, Option, Some, None, IsSome, Ok, Err, inl, inr, refl, sym, ap, subst}
use Rattle.std.specs.Prelude.{IfSome, unwrap_or}
use Rattle.std.specs.List.{list_any}
use Rattle.std.proofs.lemmas.List.{append-nil}
use Rattle.lynx_names.specs.declared.chain.ChainId.{ChainId}
use Rattle.lynx_names.specs.declared.limits.TheConstants.{MAX_HELD}
use Rattle.lynx_entry.specs.declared.answer.Delivered.{Delivered}
use Rattle.lynx_entry.specs.declared.answer.Delivered.TheVariants as delivered
use Rattle.lynx_entry.specs.declared.entry.Entry.{Entry}
use Rattle.lynx_entry.specs.declared.entry.Entry.TheVariants.{Begun, Refused, Hop}
use Rattle.lynx_entry.specs.declared.message.Message.{Message}
use Rattle.lynx_entry.specs.Entry.{History}
use Rattle.lynx_hops.specs.Meaning.{HopOutcome, meaning}
use Rattle.lynx_keep.specs.Kept.{Terms}
use Rattle.lynx_rules.specs.Answers.{is_full}
use Rattle.lynx_rules.specs.Checks.{is_well_formed}
use Rattle.lynx_rules.specs.Deliveries.{Delivers as DeliveredSo, deliver_by_turn, deliver_new, delivery, done_by, early, same_hop, same_message}
use Rattle.lynx_rules.specs.Lawful.{hop_entry_of, is_hop_of, number_at}
use Rattle.lynx_rules.specs.Tables.{tables_of}
use Rattle.lynx_rules.specs.Turns.{turn_of}
use Rattle.lynx_server.specs.Acts.{act_of, is_act}
use Rattle.lynx_server.specs.History.{grown}
use Rattle.lynx_server.specs.declared.server.Woken.{Woken}
use Rattle.lynx_server.specs.Owed.{IsSender}
use Rattle.lynx_server.specs.Serving.{Delivers, DeliversWoken, Serving, Wakes, delivery_of, told_stopped, woken_of}
use Rattle.lynx_set.specs.Set.{Set}
use Rattle.lynx_worker.specs.declared.steps.Acknowledgement.{Acknowledgement}
use Rattle.lynx_cluster.specs.inner.Serving.{AreDone, NamesSender, NotesDone, TellsDone, was_done}

-- ---- entries stay

found_on : (test : Entry → Bool) (history more : History) → IsSome (find test history) → IsSome (find test (history ++ more))
found_on test [] more some = cc
found_on test (entry ∷ history) more some = by (test entry) some (found_on test history more)
  where
    by : (b : Bool) → IsSome (cond b (Some entry) (find test history)) → (IsSome (find test history) → IsSome (find test (history ++ more))) →
        IsSome (cond b (Some entry) (find test (history ++ more)))
    by true some later = refl
    by false some later = later some

found_last : (test : Entry → Bool) (history : History) (entry : Entry) → test entry ≡ true → IsSome (find test (history ++ entry ∷ []))
found_last test [] entry passes = by (test entry) passes
  where
    by : (b : Bool) → b ≡ true → IsSome (cond b (Some entry) None)
    by true e = refl
    by false e = cc
found_last test (first ∷ history) entry passes = by (test first) (found_last test history entry passes)
  where
    by : (b : Bool) → IsSome (find test (history ++ entry ∷ [])) → IsSome (cond b (Some first) (find test (history ++ entry ∷ [])))
    by true later = refl
    by false later = later

-- the one history is the other, with entries behind it
pub record Grows (old new : History) : Type 0 where
  pub more : History
  pub is : new ≡ old ++ more

pub stays : (old new : History) → new ≡ old → Grows old new
stays old new same = record { more = []; is = same ∙ sym (append-nil old) }

grows_by : (old new : History) (added : Option Entry) → new ≡ grown old added → Grows old new
grows_by old new None is = stays old new is
grows_by old new (Some entry) is = record { more = entry ∷ []; is = is }

stands_on : (old new : History) (chain : ChainId) (hop : ℕ) → Grows old new → IsSome (act_of chain hop old) → IsSome (act_of chain hop new)
stands_on old new chain hop grows some = subst (λ (h : History). IsSome (act_of chain hop h)) (sym grows.is) (found_on (is_act chain hop) old grows.more some)

pub still_done : (old new : History) (acknowledgements : List Acknowledgement) → Grows old new → AreDone old acknowledgements → AreDone new acknowledgements
still_done old new [] grows done = tt
still_done old new (acknowledgement ∷ acknowledgements) grows done = (stands_on old new acknowledgement.chain acknowledgement.hop grows done.0, still_done old new acknowledgements grows done.1)

one_more : (history : History) (acknowledgements : List Acknowledgement) (acknowledgement : Acknowledgement) → IsSome (act_of acknowledgement.chain acknowledgement.hop history) → AreDone history acknowledgements →
    AreDone history (acknowledgements ++ acknowledgement ∷ [])
one_more history [] acknowledgement there done = (there, tt)
one_more history (first ∷ acknowledgements) acknowledgement there done = (done.0, one_more history acknowledgements acknowledgement there done.1)

-- an acknowledgement that was noted for who sends the hop is for its sender
pub names_sender : {K : Type 0} (serving : Serving K) (to : Option ℕ) (chain : ChainId) (hop : ℕ) (given : Delivered) (old new : List Acknowledgement) →
    NotesDone to chain hop given old new → IfSome to (IsSender serving.set hop (act_of chain hop serving.history)) → NamesSender serving old new
names_sender serving to chain hop given old new (inl same) is = inl same
names_sender serving to chain hop given old new (inr noted) is = inr (
  record { to = noted.1.0; chain = chain; hop = hop },
  noted.1.2,
  subst (λ (found : Option ℕ). IfSome found (IsSender serving.set hop (act_of chain hop serving.history))) noted.1.1 is,
)

-- ---- what a delivery comes to

-- a hop that was done has its entry
abbrev IsTold : Message → History → DeliveredSo → Type 0
IsTold message history delivers = was_done delivers.delivered ≡ true → IsSome (act_of message.chain message.hop (grown history delivers.added))

told_either : (message : Message) (history : History) (b : Bool) (one other : DeliveredSo) → IsTold message history one → IsTold message history other →
    IsTold message history (cond b one other)
told_either message history true one other first second = first
told_either message history false one other first second = second

same_act : (message : Message) → is_act message.chain message.hop (Hop (record { message = message; stamp = 0; results = [] })) ≡ true
same_act message = by (nat_eq message.chain.origin message.chain.origin) (nat_eq message.chain.index message.chain.index) (nat_eq message.hop message.hop)
    (eq-eqb _ _ refl) (eq-eqb _ _ refl) (eq-eqb _ _ refl)
  where
    by : (a b c : Bool) → a ≡ true → b ≡ true → c ≡ true → ((a && b) && c) ≡ true
    by true true true ea eb ec = refl
    by true true false ea eb ec = cc
    by true false c ea eb ec = cc
    by false b c ea eb ec = cc

ran-told : (set : Set) (history : History) (held : List Message) (message : Message) (outcome : HopOutcome) → IsTold message history (done_by set history held message outcome)
ran-told set history held message (Ok outcome) done = found_last (is_act message.chain message.hop) history _ (same_act message)
ran-told set history held message (Err need) done = cc

early-told : (room : ℕ) (history : History) (held : List Message) (message : Message) → IsTold message history (early room held message)
early-told room history held message =
    told_either message history (list_any (λ other. same_hop other message && not (same_message other message)) held) _ _ (λ done. cc)
    (told_either message history (list_any (same_message message) held) _ _ (λ done. cc)
    (told_either message history (nat_lt (length held) room) _ _ (λ done. cc) (λ done. cc)))

by_turn-told : (set : Set) (server room : ℕ) (history : History) (held : List Message) (message : Message) (number turn : ℕ) →
    IsTold message history (deliver_by_turn set server room history held message number turn)
by_turn-told set server room history held message number turn =
    told_either message history (nat_lt number turn) _ _ (λ done. cc)
    (told_either message history (nat_lt turn number) _ _ (early-told room history held message)
    (told_either message history (is_full history message.stamp) _ _ (λ done. cc)
    (ran-told set history held message (meaning set message.program message.hop message.args message.results (tables_of set history)))))

-- the entry of a hop is an act of it
hop_act : (chain : ChainId) (hop : ℕ) (entry : Entry) → is_hop_of chain hop entry ≡ true → is_act chain hop entry ≡ true
hop_act chain hop (Begun begun) is = cc
hop_act chain hop (Refused refused) is = cc
hop_act chain hop (Hop ran) is = is

found_act : (chain : ChainId) (hop : ℕ) (history : History) (entry : Entry) → hop_entry_of chain hop history ≡ Some entry → IsSome (act_of chain hop history)
found_act chain hop [] entry is = cc
found_act chain hop (first ∷ history) entry is =
    by (is_hop_of chain hop first) (is_act chain hop first) refl refl is (hop_act chain hop first) (found_act chain hop history entry)
  where
    by : (a b : Bool) → is_hop_of chain hop first ≡ a → is_act chain hop first ≡ b → cond a (Some first) (hop_entry_of chain hop history) ≡ Some entry →
        (is_hop_of chain hop first ≡ true → is_act chain hop first ≡ true) → (hop_entry_of chain hop history ≡ Some entry → IsSome (act_of chain hop history)) →
        IsSome (cond b (Some first) (act_of chain hop history))
    by a true ea eb found acts later = refl
    by true false ea eb found acts later = let both = sym eb ∙ acts ea in cc
    by false false ea eb found acts later = later found

new-told : (set : Set) (server room : ℕ) (history : History) (held : List Message) (message : Message) (entry : Option Entry) →
    hop_entry_of message.chain message.hop history ≡ entry → IsTold message history (deliver_new set server room history held message entry)
new-told set server room history held message (Some entry) found done = found_act message.chain message.hop history entry found
new-told set server room history held message None found done =
    by_turn-told set server room history held message (unwrap_or (number_at message.numbers server) 0) (turn_of set server history message.chain.origin) done

delivery-told : (set : Set) (server room : ℕ) (history : History) (held : List Message) (message : Message) → IsTold message history (delivery set server room history held message)
delivery-told set server room history held message =
    told_either message history (is_well_formed set server history message) _ _
    (new-told set server room history held message (hop_entry_of message.chain message.hop history) refl) (λ done. cc)

-- ---- what a server's delivery leaves

-- entries stay, and where the hop was done it has its entry
pub record Leaves (old : History) (chain : ChainId) (hop : ℕ) (given : Delivered) (new : History) : Type 0 where
  pub grows : Grows old new
  pub there : was_done given ≡ true → IsSome (act_of chain hop new)

-- the delivery is that of the definition
by_definition : {K : Type 0} (old : Serving K) (message : Message) (given : Delivered) (new : History) → given ≡ (delivery_of old message).delivered →
    new ≡ grown old.history (delivery_of old message).added → Leaves old.history message.chain message.hop given new
by_definition old message given new given_is new_is = record {
  grows = grows_by old.history new (delivery_of old message).added new_is;
  there = λ done. subst (λ (h : History). IsSome (act_of message.chain message.hop h)) (sym new_is)
      (delivery-told old.set old.server MAX_HELD old.history old.held message (subst (λ (d : Delivered). was_done d ≡ true) given_is done));
}

nothing_done : (old : History) (chain : ChainId) (hop : ℕ) (given : Delivered) (new : History) → was_done given ≡ false → new ≡ old → Leaves old chain hop given new
nothing_done old chain hop given new undone same = record { grows = stays old new same; there = λ done. let both = sym done ∙ undone in cc }

delivers_leaves : {K : Type 0} (terms : Terms K) (old : Serving K) (message : Message) (given : Delivered) (new : Serving K) → Delivers terms old message given new →
    Leaves old.history message.chain message.hop given new.history
delivers_leaves terms old message delivered.Memory new is = nothing_done old.history message.chain message.hop _ new.history refl is.history_is
delivers_leaves terms old message delivered.Stopped new is = nothing_done old.history message.chain message.hop _ new.history refl is.history_is
delivers_leaves terms old message (delivered.Done stamp results next) new is = by_definition old message _ new.history is.delivered_is is.becomes.history_is
delivers_leaves terms old message (delivered.Repeat stamp results next) new is = by_definition old message _ new.history is.delivered_is is.becomes.history_is
delivers_leaves terms old message delivered.Held new is = by_definition old message _ new.history is.delivered_is is.becomes.history_is
delivers_leaves terms old message delivered.Dropped new is = by_definition old message _ new.history is.delivered_is is.becomes.history_is
delivers_leaves terms old message delivered.Malformed new is = by_definition old message _ new.history is.delivered_is is.becomes.history_is
delivers_leaves terms old message delivered.Full new is = by_definition old message _ new.history is.delivered_is is.becomes.history_is

-- .. and so does one that was held
woken_leaves : {K : Type 0} (terms : Terms K) (old : Serving K) (message : Message) (given : Delivered) (new : Serving K) → DeliversWoken terms old message given new →
    Leaves old.history message.chain message.hop given new.history
woken_leaves terms old message delivered.Memory new is = nothing_done old.history message.chain message.hop _ new.history refl is.history_is
woken_leaves terms old message delivered.Stopped new is = nothing_done old.history message.chain message.hop _ new.history refl is.history_is
woken_leaves terms old message (delivered.Done stamp results next) new is = by_definition old message _ new.history is.delivered_is is.becomes.history_is
woken_leaves terms old message (delivered.Repeat stamp results next) new is = by_definition old message _ new.history is.delivered_is is.becomes.history_is
woken_leaves terms old message delivered.Held new is = by_definition old message _ new.history is.delivered_is is.becomes.history_is
woken_leaves terms old message delivered.Dropped new is = by_definition old message _ new.history is.delivered_is is.becomes.history_is
woken_leaves terms old message delivered.Malformed new is = by_definition old message _ new.history is.delivered_is is.becomes.history_is
woken_leaves terms old message delivered.Full new is = by_definition old message _ new.history is.delivered_is is.becomes.history_is

-- at a server that stopped nothing is done
pub delivery_leaves : {K : Type 0} (terms : Terms K) (old : Serving K) (message : Message) (given : Delivered) (new : Serving K) →
    (old.is_stopped ≡ true → (given ≡ delivered.Stopped) × (new ≡ old)) → (old.is_stopped ≡ false → Delivers terms old message given new) →
    Leaves old.history message.chain message.hop given new.history
delivery_leaves {K} terms old message given new stopped delivers = by old.is_stopped refl
  where
    by : (b : Bool) → old.is_stopped ≡ b → Leaves old.history message.chain message.hop given new.history
    by true is = nothing_done old.history message.chain message.hop given new.history (ap was_done (stopped is).0) (ap (λ (s : Serving K). s.history) (stopped is).1)
    by false is = delivers_leaves terms old message given new (delivers is)

-- ---- a waking

pub waking_leaves : {K : Type 0} (terms : Terms K) (old : Serving K) (woken : Woken) (new : Serving K) →
    (old.is_stopped ≡ true → (Some woken ≡ told_stopped (woken_of old)) × (new ≡ old)) → (old.is_stopped ≡ false → Wakes terms old (Some woken) new) →
    Leaves old.history woken.chain woken.hop woken.delivered new.history
waking_leaves {K} terms old woken new stopped wakes = by old.is_stopped refl
  where
    undone : (message : Option Message) → Some woken ≡ told_stopped message → was_done woken.delivered ≡ false
    undone None is = cc
    undone (Some message) is = ap (λ (w : Option Woken). elim w as (λ _. Bool) [ Some one ↦ was_done one.delivered | None ↦ false ]) is

    by : (b : Bool) → old.is_stopped ≡ b → Leaves old.history woken.chain woken.hop woken.delivered new.history
    by true is = nothing_done old.history woken.chain woken.hop woken.delivered new.history (undone (woken_of old) (stopped is).0) (ap (λ (s : Serving K). s.history) (stopped is).1)
    by false is =
        let one = wakes is in
        let leaves = woken_leaves terms old one.message woken.delivered new one.wakes in
        subst (λ (chain : ChainId). Leaves old.history chain woken.hop woken.delivered new.history) (sym one.chain_is)
        (subst (λ (hop : ℕ). Leaves old.history one.message.chain hop woken.delivered new.history) (sym one.hop_is) leaves)

-- none is woken
pub sleeping_stays : {K : Type 0} (terms : Terms K) (old : Serving K) (new : Serving K) →
    (old.is_stopped ≡ true → (None ≡ told_stopped (woken_of old)) × (new ≡ old)) → (old.is_stopped ≡ false → Wakes terms old None new) → Grows old.history new.history
sleeping_stays {K} terms old new stopped wakes = by old.is_stopped refl
  where
    by : (b : Bool) → old.is_stopped ≡ b → Grows old.history new.history
    by true is = stays old.history new.history (ap (λ (s : Serving K). s.history) (stopped is).1)
    by false is = stays old.history new.history (wakes is).1.history_is

-- ---- what is noted of it

pub notes_done : (old new : History) (told telling : List Acknowledgement) (to : Option ℕ) (chain : ChainId) (hop : ℕ) (given : Delivered) → Leaves old chain hop given new →
    NotesDone to chain hop given told telling → TellsDone old told new telling
notes_done old new told telling to chain hop given leaves (inl same) done = subst (AreDone new) (sym same) (still_done old new told leaves.grows done)
notes_done old new told telling to chain hop given leaves (inr more) done =
    subst (AreDone new) (sym more.1.2)
    (one_more new told (record { to = more.1.0; chain = chain; hop = hop }) (leaves.there more.0) (still_done old new told leaves.grows done))

-- what is told once it is settled is of what is settled
pub settled_done : (is_settled : Bool) (history front : History) (before after : List Acknowledgement) → AreDone history before → (is_settled ≡ true → front ≡ history) →
    (is_settled ≡ true → after ≡ before) → (is_settled ≡ false → after ≡ []) → AreDone front after
settled_done true history front before after done whole same none =
    subst (λ (h : History). AreDone h after) (sym (whole refl)) (subst (λ (acknowledgements : List Acknowledgement). AreDone history acknowledgements) (sym (same refl)) done)
settled_done false history front before after done whole same none = subst (λ (acknowledgements : List Acknowledgement). AreDone front acknowledgements) (sym (none refl)) tt
