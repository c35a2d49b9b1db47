-- Finding the message of a hop by the entry of the hop before.
use Rattle.std.proofs.Common.{◌≡◌, ◌<◌, ◌+◌, ◌&&◌, ℕ, Bool, true, false, cond, nat_eq, map, List, [], ◌∷◌, slice_get, find, Option, Some, None, refl, sym, ap, ◌∙◌, subst, inl, inr, ◌⊎◌, eq-eqb, arith}
use Rattle.std.specs.List.{cons_option}
use Rattle.std.specs.Option.{option_and_then}
use Rattle.std.proofs.lemmas.Bool.{eqb-true}
use Rattle.std.proofs.lemmas.Bool.Decides.{eqb_tells}
use Rattle.std.proofs.lemmas.Option.{slice_get_cases}
use Rattle.lynx_names.specs.declared.chain.ChainId.{ChainId}
use Rattle.lynx_set.specs.Set.{Set}
use Rattle.lynx_entry.specs.declared.entry.BegunEntry.{BegunEntry}
use Rattle.lynx_entry.specs.declared.entry.Entry.{Entry}
use Rattle.lynx_entry.specs.declared.entry.Entry.TheVariants.{Begun, Refused, Hop}
use Rattle.lynx_entry.specs.declared.message.Message.{Message}
use Rattle.lynx_entry.specs.Entry.{History}
use Rattle.lynx_keep.specs.Kept.{KeptState}
use Rattle.lynx_turn.specs.Held.{same_chain}
use Rattle.lynx_rules.specs.Messages.{next_message}
use Rattle.lynx_server.specs.Acts.{act_of, is_act}
use Rattle.lynx_server.specs.Serving.{Serving}
use Rattle.lynx_world.specs.declared.added.Added.{Added}
use Rattle.lynx_world.specs.Placed.{Placed}
use Rattle.lynx_world.specs.Legal.{IsLegal, IsSent}
use Rattle.lynx_world.specs.Order.{hop_in}
use Rattle.lynx_world.specs.Servers.{AreServers, Servers, list_of}
use Rattle.lynx_world.specs.inner.Senders.{act_at, act_found, act_in, act_of_begun, home_of}
use Rattle.lynx_world.specs.Steps.{is_message_of, sent_message}
use Rattle.lynx_world.specs.Worlds.{messages_of}
use Rattle.lynx_world.proofs.Members.{IsIn, found_in, in_history, in_list, sender_of}
use Rattle.lynx_world.proofs.Acts.{acts}
use Rattle.lynx_world.proofs.Once.{both, hop_server, known, program_of, sends_after, same_chain-self, same_name}
use Rattle.lynx_world.proofs.Unique.{one_entry}
use Rattle.lynx_world.proofs.LegalSteps.{sent_found}
use Rattle.lynx_world.proofs.Standing.{stands}

-- an entry of a hop of a chain passes the test, and no other
act_hop : (chain : ChainId) (hop : ℕ) (entry : Entry) → is_act chain hop entry ≡ true → hop_in chain entry ≡ Some hop
act_hop chain hop (Begun begun) is =
    let parts = both (same_chain begun.chain chain) (nat_eq hop 0) is in
    ap (λ b. cond b (Some 0) None) parts.0 ∙ ap Some (sym (eqb-true hop 0 parts.1))
act_hop chain hop (Refused refused) is = cc
act_hop chain hop (Hop ran) is =
    let parts = both (same_chain ran.message.chain chain) (nat_eq ran.message.hop hop) is in
    ap (λ b. cond b (Some ran.message.hop) None) parts.0 ∙ ap Some (eqb-true ran.message.hop hop parts.1)

chosen : (b : Bool) (h k : ℕ) → cond b (Some h) None ≡ Some k → (b ≡ true) × (h ≡ k)
chosen true h k is = (refl, cc)
chosen false h k is = cc

hop_act : (chain : ChainId) (hop : ℕ) (entry : Entry) → hop_in chain entry ≡ Some hop → is_act chain hop entry ≡ true
hop_act chain hop (Begun begun) is =
    let parts = chosen (same_chain begun.chain chain) 0 hop is in
    ap (λ b. b && nat_eq hop 0) parts.0 ∙ eq-eqb hop 0 (sym parts.1)
hop_act chain hop (Refused refused) is = cc
hop_act chain hop (Hop ran) is =
    let parts = chosen (same_chain ran.message.chain chain) ran.message.hop hop is in
    ap (λ b. b && nat_eq ran.message.hop hop) parts.0 ∙ eq-eqb ran.message.hop hop parts.1

-- an entry is of one hop of one chain
of_one : (a b : ChainId) (i j : ℕ) (entry : Entry) → hop_in a entry ≡ Some i → hop_in b entry ≡ Some j → (a ≡ b) × (i ≡ j)
of_one a b i j (Begun begun) one other =
    let left = chosen (same_chain begun.chain a) 0 i one in
    let right = chosen (same_chain begun.chain b) 0 j other in
    (sym (same_name begun.chain a left.0) ∙ same_name begun.chain b right.0, sym left.1 ∙ right.1)
of_one a b i j (Refused refused) one other = cc
of_one a b i j (Hop ran) one other =
    let left = chosen (same_chain ran.message.chain a) ran.message.hop i one in
    let right = chosen (same_chain ran.message.chain b) ran.message.hop j other in
    (sym (same_name ran.message.chain a left.0) ∙ same_name ran.message.chain b right.0, sym left.1 ∙ right.1)

-- a message for the hop passes the test
for_hop : (chain : ChainId) (hop : ℕ) (message : Message) → message.chain ≡ chain → message.hop ≡ hop → is_message_of chain hop message ≡ true
for_hop chain hop message chain_is hop_is =
    ap (λ b. b && nat_eq message.hop hop) (ap (same_chain message.chain) (sym chain_is) ∙ same_chain-self message.chain) ∙ eq-eqb message.hop hop hop_is

-- what isn't found isn't there
not_found : {X : Type 0} (test : X → Bool) (xs : List X) (x : X) → find test xs ≡ None → IsIn x xs → test x ≡ true → ⊥
not_found test [] x none never passes = never
not_found {X} test (first ∷ xs) x none there passes = by (test first) refl none there (not_found test xs x)
  where
    by : (b : Bool) → test first ≡ b → cond b (Some first) (find test xs) ≡ None → (first ≡ x) ⊎ IsIn x xs →
        (find test xs ≡ None → IsIn x xs → test x ≡ true → ⊥) → ⊥
    by true is none there rest = cc
    by false is none (inl same) rest = let no : test x ≡ false = ap test (sym same) ∙ is in let yes_no = sym no ∙ passes in cc
    by false is none (inr later) rest = rest none later passes

-- an entry of a list, by the list of its entries
in_entries : (list : List Placed) (placed : Placed) → IsIn placed list → IsIn placed.entry (map (λ (p : Placed). p.entry) list)
in_entries [] placed never = never
in_entries (first ∷ list) placed (inl same) = inl (ap (λ (p : Placed). p.entry) same)
in_entries (first ∷ list) placed (inr later) = inr (in_entries list placed later)

of_entries : (list : List Placed) (entry : Entry) → IsIn entry (map (λ (p : Placed). p.entry) list) → (q : Placed) × IsIn q list × (q.entry ≡ entry)
of_entries [] entry never = absurd never
of_entries (first ∷ list) entry (inl same) = (first, inl refl, same)
of_entries (first ∷ list) entry (inr later) = let r = of_entries list entry later in (r.0, inr r.1, r.2)

-- what is found in a list, told by the one entry of that hop
act_listed : (set : Set) (chain : ChainId) (hop : ℕ) (list : List Placed) (q : Placed) → IsLegal set list → IsIn q list →
    hop_in chain q.entry ≡ Some hop → act_in chain hop list ≡ Some q.entry
act_listed set chain hop list q legal there is = by (act_in chain hop list) refl
  where
    by : (o : Option Entry) → act_in chain hop list ≡ o → act_in chain hop list ≡ Some q.entry
    by None none = absurd (not_found (is_act chain hop) _ q.entry none (in_entries list q there) (hop_act chain hop q.entry is))
    by (Some entry) found =
        let stands = found_in (is_act chain hop) _ entry found in
        let p = of_entries list entry stands.0 in
        let one : p.0 ≡ q = one_entry set chain hop list p.0 q legal p.1 there (ap (hop_in chain) p.2 ∙ act_hop chain hop entry stands.1) is in
        found ∙ ap Some (sym p.2 ∙ ap (λ (r : Placed). r.entry) one)

-- each server of the set is there
server_there : (set : Set) (servers : Servers) (order : List Added) (server : ℕ) → AreServers set servers order → server < set.servers →
    (here : Serving KeptState) × (slice_get servers server ≡ Some here)
server_there set servers order server are within =
    elim (slice_get_cases servers server).1 [
      | inl found ↦ (found.0, found.2)
      | inr past ↦ let beyond = past.0 in let many = are.many in absurd (omega arith)
    ]

-- the entry of a hop, where a history has no other
act_kept : (chain : ChainId) (hop : ℕ) (history : History) (entry : Entry) → IsIn entry history → hop_in chain entry ≡ Some hop →
    ((other : Entry) → IsIn other history → hop_in chain other ≡ Some hop → other ≡ entry) → act_of chain hop history ≡ Some entry
act_kept chain hop history entry there is one = by (act_of chain hop history) refl
  where
    by : (o : Option Entry) → act_of chain hop history ≡ o → act_of chain hop history ≡ Some entry
    by None none = absurd (not_found (is_act chain hop) history entry none there (hop_act chain hop entry is))
    by (Some other) found =
        let stands_there = found_in (is_act chain hop) history other found in
        found ∙ ap Some (one other stands_there.0 (act_hop chain hop other stands_there.1))

-- what stands in the list at a server is what that server has of its hop
there_at : (set : Set) (servers : Servers) (order : List Added) (chain : ChainId) (hop server : ℕ) (entry : Entry) → AreServers set servers order →
    IsIn (record { server = server; entry = entry }) (list_of servers order) → hop_in chain entry ≡ Some hop →
    act_at chain hop servers server ≡ Some entry
there_at set servers order chain hop server entry are there is =
    let list = list_of servers order in
    let placed : Placed = record { server = server; entry = entry } in
    let stood = stands set list placed are.is_legal there in
    let here = server_there set servers order server are stood.may_follow.at_server in
    let its = are.each server here.0 here.1 in
    let kept : IsIn entry here.0.history = subst (IsIn entry) (sym its.history_is) (in_history server list placed there refl) in
    ap (option_and_then (λ (h : Serving KeptState). act_of chain hop h.history)) here.1
    ∙ act_kept chain hop here.0.history entry kept is
    (λ other in_it other_is.
    ap (λ (p : Placed). p.entry)
    (one_entry set chain hop list (record { server = server; entry = other }) placed are.is_legal
    (in_list server list other (subst (IsIn other) its.history_is in_it)) there other_is is))

-- what a server has of a hop stands in the list there
given_at : (set : Set) (servers : Servers) (order : List Added) (chain : ChainId) (hop server : ℕ) (entry : Entry) → AreServers set servers order →
    act_at chain hop servers server ≡ Some entry →
    IsIn (record { server = server; entry = entry }) (list_of servers order) × (hop_in chain entry ≡ Some hop)
given_at set servers order chain hop server entry are given = by (slice_get servers server) refl given
  where
    by : (o : Option (Serving KeptState)) → slice_get servers server ≡ o →
        option_and_then (λ (here : Serving KeptState). act_of chain hop here.history) o ≡ Some entry →
        IsIn (record { server = server; entry = entry }) (list_of servers order) × (hop_in chain entry ≡ Some hop)
    by None none given = cc
    by (Some here) there given =
        let stands_there = found_in (is_act chain hop) here.history entry given in (
          in_list server (list_of servers order) entry (subst (IsIn entry) (are.each server here there).history_is stands_there.0),
          act_hop chain hop entry stands_there.1,
        )

-- a later hop ran at the server that the chain's program tells
home_is : (set : Set) (list : List Placed) (server : ℕ) (entry : Entry) (chain : ChainId) (hop : ℕ) (begun : BegunEntry) → IsLegal set list →
    IsIn (record { server = server; entry = entry }) list → hop_in chain entry ≡ Some hop → (hop ≡ 0 → ⊥) →
    begun.request.program ≡ program_of entry → home_of set hop (Begun begun) ≡ Some server
home_is set list server (Begun other) chain hop begun legal there is later program =
    let test = chosen (same_chain other.chain chain) 0 hop is in absurd (later (sym test.1))
home_is set list server (Refused refused) chain hop begun legal there is later program = cc
home_is set list server (Hop ran) chain hop begun legal there is later program =
    let test = chosen (same_chain ran.message.chain chain) ran.message.hop hop is in
    ap (λ p. hop_server set p hop) program
    ∙ ap (hop_server set ran.message.program) (sym test.1)
    ∙ (known set list legal).at_home (record { server = server; entry = Hop ran }) ran.message there refl

-- an entry of the list is found by the begin of its chain
found_by_begin : (set : Set) (servers : Servers) (order : List Added) (chain : ChainId) (hop server : ℕ) (entry : Entry) → AreServers set servers order →
    IsIn (record { server = server; entry = entry }) (list_of servers order) → hop_in chain entry ≡ Some hop →
    act_found set chain hop servers ≡ Some entry
found_by_begin set servers order chain hop server entry are there is =
    let list = list_of servers order in
    let act = acts set list server entry chain hop are.is_legal there is in
    let begins : hop_in chain (Begun act.begun) ≡ Some 0 =
    ap (λ b. cond b (Some 0) None) (ap (λ c. same_chain c chain) act.chain_is ∙ same_chain-self chain) in
    ap (option_and_then (act_of_begun set chain hop servers)) (there_at set servers order chain 0 chain.origin (Begun act.begun) are act.there begins)
    ∙ elim (eqb_tells hop 0) [
      | inl (e, same) ↦
          let one = one_entry set chain 0 list (record { server = chain.origin; entry = Begun act.begun }) (record { server = server; entry = entry })
          are.is_legal act.there there begins (is ∙ ap Some same) in
          ap (λ b. cond b (Some (Begun act.begun)) (option_and_then (act_at chain hop servers) (home_of set hop (Begun act.begun)))) e
          ∙ ap (λ (p : Placed). Some p.entry) one
      | inr (e, later) ↦
          ap (λ b. cond b (Some (Begun act.begun)) (option_and_then (act_at chain hop servers) (home_of set hop (Begun act.begun)))) e
          ∙ ap (option_and_then (act_at chain hop servers)) (home_is set list server entry chain hop act.begun are.is_legal there is later act.program)
          ∙ there_at set servers order chain hop server entry are there is
    ]

-- what is found is what some server has of the hop
found_somewhere : (set : Set) (servers : Servers) (chain : ChainId) (hop : ℕ) (entry : Entry) → act_found set chain hop servers ≡ Some entry →
    (server : ℕ) × (act_at chain hop servers server ≡ Some entry)
found_somewhere set servers chain hop entry found = by (act_at chain 0 servers chain.origin) refl found
  where
    home : (begun : Entry) (o : Option ℕ) → option_and_then (act_at chain hop servers) o ≡ Some entry →
        (server : ℕ) × (act_at chain hop servers server ≡ Some entry)
    home begun None found = cc
    home begun (Some server) found = (server, found)

    by : (o : Option Entry) → act_at chain 0 servers chain.origin ≡ o → option_and_then (act_of_begun set chain hop servers) o ≡ Some entry →
        (server : ℕ) × (act_at chain hop servers server ≡ Some entry)
    by None none found = cc
    by (Some begun) begins found = elim (eqb_tells hop 0) [
      | inl (e, same) ↦
          let is = ap (λ b. cond b (Some begun) (option_and_then (act_at chain hop servers) (home_of set hop begun))) e in
          (chain.origin, ap (λ n. act_at chain n servers chain.origin) same ∙ begins ∙ sym is ∙ found)
      | inr (e, later) ↦
          let is = ap (λ b. cond b (Some begun) (option_and_then (act_at chain hop servers) (home_of set hop begun))) e in
          home begun (home_of set hop begun) (sym is ∙ found)
    ]

-- The entry of a hop that is found at the servers of a world is the one of the list.
pub act_is : (set : Set) (servers : Servers) (order : List Added) (chain : ChainId) (hop : ℕ) → AreServers set servers order →
    act_found set chain hop servers ≡ act_in chain hop (list_of servers order)
act_is set servers order chain hop are = by (act_in chain hop (list_of servers order)) refl
  where
    nothing : (o : Option Entry) → act_found set chain hop servers ≡ o → act_in chain hop (list_of servers order) ≡ None →
        act_found set chain hop servers ≡ None
    nothing None is none = is
    nothing (Some entry) is none =
        let there = found_somewhere set servers chain hop entry is in
        let stood = given_at set servers order chain hop there.0 entry are there.1 in
        absurd (not_found (is_act chain hop) _ entry none (in_entries (list_of servers order) (record { server = there.0; entry = entry }) stood.0)
        (hop_act chain hop entry stood.1))

    by : (o : Option Entry) → act_in chain hop (list_of servers order) ≡ o → act_found set chain hop servers ≡ act_in chain hop (list_of servers order)
    by None none = nothing (act_found set chain hop servers) refl none ∙ sym none
    by (Some entry) is =
        let list = list_of servers order in
        let found = found_in (is_act chain hop) _ entry is in
        let q = of_entries list entry found.0 in
        found_by_begin set servers order chain hop q.0.server q.0.entry are q.1 (ap (hop_in chain) q.2 ∙ act_hop chain hop entry found.1)
        ∙ ap Some q.2 ∙ sym is

-- a message that was sent is one of the messages of the list
in_messages : (set : Set) (list : List Placed) (message : Message) → IsSent set list message → IsIn message (messages_of set list)
in_messages set [] message never = never
in_messages set (placed ∷ list) message (inl sends) =
    subst (λ o. IsIn message (cons_option o (messages_of set list))) (sym sends) (inl refl)
in_messages set (placed ∷ list) message (inr later) = behind (next_message set placed.entry) (in_messages set list message later)
  where
    behind : (o : Option Message) → IsIn message (messages_of set list) → IsIn message (cons_option o (messages_of set list))
    behind None there = there
    behind (Some other) there = inr there

-- a message that is found is for the hop
found_for : (set : Set) (list : List Placed) (chain : ChainId) (hop : ℕ) (message : Message) → sent_message set chain hop list ≡ Some message →
    (message.chain ≡ chain) × (message.hop ≡ hop)
found_for set list chain hop message found =
    let passes = found_in (is_message_of chain hop) (messages_of set list) message found in
    let parts = both (same_chain message.chain chain) (nat_eq message.hop hop) passes.1 in
    (same_name message.chain chain parts.0, eqb-true message.hop hop parts.1)

-- no message is for a first hop
pub none_for_first : (set : Set) (list : List Placed) (chain : ChainId) → sent_message set chain 0 list ≡ None
none_for_first set list chain = by (sent_message set chain 0 list) refl
  where
    by : (o : Option Message) → sent_message set chain 0 list ≡ o → sent_message set chain 0 list ≡ None
    by None is = is
    by (Some message) found =
        let q = sender_of set list message (sent_found set list chain 0 message found) in
        let sends = sends_after set q.0.entry message q.2 in
        let next = sends.1.next_hop in
        let zero_is = (found_for set list chain 0 message found).1 in
        absurd (omega arith)

-- an entry of a list sends its message
sent_of : (set : Set) (l : List Placed) (p : Placed) (m : Message) → IsIn p l → next_message set p.entry ≡ Some m → IsSent set l m
sent_of set [] p m never sends = never
sent_of set (first ∷ l) p m (inl same) sends = inl (ap (λ (r : Placed). next_message set r.entry) same ∙ sends)
sent_of set (first ∷ l) p m (inr later) sends = inr (sent_of set l p m later sends)

-- The message for a hop is the one that the entry of the hop before sends.
pub sent_by_act : (set : Set) (list : List Placed) (chain : ChainId) (hop : ℕ) → IsLegal set list →
    sent_message set chain (hop + 1) list ≡ option_and_then (next_message set) (act_in chain hop list)
sent_by_act set list chain hop legal = by (sent_message set chain (hop + 1) list) refl
  where
    -- the sender of a message for the hop
    sender_is : (message : Message) → sent_message set chain (hop + 1) list ≡ Some message →
        option_and_then (next_message set) (act_in chain hop list) ≡ Some message
    sender_is message found =
        let q = sender_of set list message (sent_found set list chain (hop + 1) message found) in
        let sends = sends_after set q.0.entry message q.2 in
        let next = sends.1.next_hop in
        let for = found_for set list chain (hop + 1) message found in
        let hop_is = for.1 in
        let same_hop : sends.0 ≡ hop = omega arith in
        let in_chain : hop_in chain q.0.entry ≡ Some hop = ap (λ c. hop_in c q.0.entry) (sym for.0) ∙ sends.1.in_chain ∙ ap Some same_hop in
        ap (option_and_then (next_message set)) (act_listed set chain hop list q.0 legal q.1 in_chain) ∙ q.2

    -- an entry of the hop that sends a message
    sends_none : (o : Option Entry) → act_in chain hop list ≡ o → sent_message set chain (hop + 1) list ≡ None → option_and_then (next_message set) o ≡ None
    sends_none None is none = refl
    sends_none (Some entry) is none = next (next_message set entry) refl
      where
        next : (m : Option Message) → next_message set entry ≡ m → next_message set entry ≡ None
        next None is_none = is_none
        next (Some message) sends =
            let found = found_in (is_act chain hop) _ entry is in
            let q = of_entries list entry found.0 in
            let sent = sent_of set list q.0 message q.1 (ap (next_message set) q.2 ∙ sends) in
            let after = sends_after set entry message sends in
            let one = of_one message.chain chain after.0 hop entry after.1.in_chain (act_hop chain hop entry found.1) in
            absurd (not_found (is_message_of chain (hop + 1)) (messages_of set list) message none (in_messages set list message sent)
            (for_hop chain (hop + 1) message one.0 (sym after.1.next_hop ∙ ap (λ n. n + 1) one.1)))

    by : (o : Option Message) → sent_message set chain (hop + 1) list ≡ o → sent_message set chain (hop + 1) list ≡ option_and_then (next_message set) (act_in chain hop list)
    by (Some message) found = found ∙ sym (sender_is message found)
    by None none = none ∙ sym (sends_none (act_in chain hop list) refl none)
