-- The hops that a chain has done are those of the program that it began with, from 0 on, each given all results before it.
use Rattle.std.proofs.Common.{◌≡◌, ℕ, suc, ◌+◌, ◌<◌, Bool, true, false, cond, List, [], ◌∷◌, ◌++◌, map, length, Option, Some, None, filter, nat_lt, inl, inr, ◌⊎◌, append_assoc, refl, sym, ap, ◌∙◌, subst, arith}
use Rattle.std.specs.List.{cons_option, range_with_len}
use Rattle.std.specs.Option.{option_or}
use Rattle.std.proofs.lemmas.List.{append-nil, length-append, length-map, map_push}
use Rattle.std.proofs.lemmas.List.Elements.{filter_map-append, filter-append}
use Rattle.lynx_names.specs.declared.chain.ChainId.{ChainId}
use Rattle.lynx_set.specs.Set.{Set}
use Rattle.lynx_commute.specs.Acts.{Act}
use Rattle.lynx_entry.specs.declared.entry.BegunEntry.{BegunEntry}
use Rattle.lynx_entry.specs.declared.entry.HopEntry.{HopEntry}
use Rattle.lynx_entry.specs.declared.entry.Entry.{Entry}
use Rattle.lynx_entry.specs.declared.entry.Entry.TheVariants.{Begun, Refused, Hop as HopRan}
use Rattle.lynx_entry.specs.declared.message.Message.{Message}
use Rattle.lynx_entry.specs.declared.request.Request.{Request}
use Rattle.lynx_rules.specs.Deliveries.{same_chain}
use Rattle.lynx_rules.specs.Messages.{next_message}
use Rattle.lynx_names.proofs.Ranges.{range_more}
use Rattle.lynx_world.specs.Placed.{Placed}
use Rattle.lynx_world.specs.Legal.{IsSent, MayFollow, IsLegal}
use Rattle.lynx_world.proofs.LegalSteps.{legal-push}
use Rattle.lynx_world.specs.Order.{hop_in, done_hops}
use Rattle.lynx_world.proofs.Once.{once_and_in_order, same_chain-self, same_name}
use Rattle.lynx_world.proofs.Sent.{sent-push}
use Rattle.lynx_world.proofs.Standing.{legal_induction}
use Rattle.lynx_order.specs.Explanations.{request_in, request_of}
use Rattle.lynx_order.proofs.Dones.{Done, begun_as, ran_as, done_in, dones}
use Rattle.lynx_order.proofs.OneDatabase.{dones-push}
use Rattle.lynx_set.specs.Lookups.{hops_of}

-- ---- the hops of a chain

-- the hop of a call that comes behind these results
abbrev pub act_after : ℕ → List ℕ → List (List ℕ) → Act
act_after program args earlier = record { program = program; hop = length earlier; args = args; earlier = earlier }

-- the hops of a call, behind those that gave these results
abbrev pub IsChainOf : ℕ → List ℕ → List (List ℕ) → List Done → Type 0
IsChainOf program args earlier [] = Unit {0}
IsChainOf program args earlier (done ∷ list) =
    (done.act ≡ act_after program args earlier) × IsChainOf program args (earlier ++ done.results ∷ []) list

-- the results of hops
abbrev pub results_in_all : List Done → List (List ℕ)
results_in_all list = map (λ done. done.results) list

-- the hops that a chain has done
abbrev pub dones_of : List Placed → ChainId → List Done
dones_of list chain = filter (λ done. same_chain done.chain chain) (dones list)

chain-push : (program : ℕ) (args : List ℕ) (earlier : List (List ℕ)) (list : List Done) (done : Done) → IsChainOf program args earlier list →
    done.act ≡ act_after program args (earlier ++ results_in_all list) → IsChainOf program args earlier (list ++ done ∷ [])
chain-push program args earlier [] done chain is = (subst (λ e. done.act ≡ act_after program args e) (append-nil earlier) is, tt)
chain-push program args earlier (first ∷ list) done chain is = (
  chain.0,
  chain-push program args (earlier ++ first.results ∷ []) list done chain.1
      (subst (λ e. done.act ≡ act_after program args e) (sym (append_assoc earlier (first.results ∷ []) (results_in_all list))) is),
)

-- ---- what is told of each chain

-- a chain that hasn't begun has done nothing; one that has did hops of its call
abbrev pub Form : Option Request → List Done → Type 0
Form None list = list ≡ []
Form (Some request) list = IsChainOf request.program request.args [] list × (0 < length list)

-- a message is behind the first hops of its chain
pub record IsMessageOf (request : Request) (list : List Done) (message : Message) : Type 0 where
  pub before : List Done
  pub behind : List Done
  pub whole : before ++ behind ≡ list
  pub count : length before ≡ message.hop
  pub results : message.results ≡ results_in_all before
  pub program : message.program ≡ request.program
  pub args : message.args ≡ request.args

abbrev pub SentForm : Option Request → List Done → Message → Type 0
SentForm None list message = ⊥
SentForm (Some request) list message = IsMessageOf request list message

pub record Told (set : Set) (list : List Placed) : Type 0 where
  pub form : (chain : ChainId) → Form (request_of list chain) (dones_of list chain)
  pub sent : (message : Message) → IsSent set list message → SentForm (request_of list message.chain) (dones_of list message.chain) message

-- ---- one more entry

or-none : {X : Type 0} (o : Option X) → option_or o None ≡ o
or-none None = refl
or-none (Some x) = refl

or-or : {X : Type 0} (a b c : Option X) → option_or a (option_or b c) ≡ option_or (option_or a b) c
or-or None b c = refl
or-or (Some x) b c = refl

request_of-push : (list : List Placed) (placed : Placed) (chain : ChainId) →
    request_of (list ++ placed ∷ []) chain ≡ option_or (request_of list chain) (request_in chain placed.entry)
request_of-push [] placed chain = or-none (request_in chain placed.entry)
request_of-push (first ∷ list) placed chain =
    ap (option_or (request_in chain first.entry)) (request_of-push list placed chain)
    ∙ or-or (request_in chain first.entry) (request_of list chain) (request_in chain placed.entry)

dones_of-push : (list : List Placed) (placed : Placed) (chain : ChainId) (o : Option Done) → done_in placed.entry ≡ o →
    dones_of (list ++ placed ∷ []) chain ≡ dones_of list chain ++ filter (λ done. same_chain done.chain chain) (cons_option o [])
dones_of-push list placed chain o is =
    ap (filter (λ done. same_chain done.chain chain)) (dones-push list placed o is)
    ∙ filter-append (λ done. same_chain done.chain chain) (dones list) (cons_option o [])

-- an entry of another chain begins none
no_request : (chain : ChainId) (entry : Entry) → ((done : Done) → done_in entry ≡ Some done → same_chain done.chain chain ≡ false) → request_in chain entry ≡ None
no_request chain (Begun begun) other =
    ap (λ b. cond b (Some begun.request) None) (other (begun_as begun) refl)
no_request chain (Refused refused) other = refl
no_request chain (HopRan ran) other = refl

no_done : (chain : ChainId) (o : Option Done) → ((done : Done) → o ≡ Some done → same_chain done.chain chain ≡ false) →
    filter (λ done. same_chain done.chain chain) (cons_option o []) ≡ []
no_done chain None other = refl
no_done chain (Some done) other = ap (λ b. cond b (done ∷ []) []) (other done refl)

-- and what is told of the chain stays
form_kept : (list : List Placed) (placed : Placed) (chain : ChainId) →
    ((done : Done) → done_in placed.entry ≡ Some done → same_chain done.chain chain ≡ false) →
    Form (request_of list chain) (dones_of list chain) → Form (request_of (list ++ placed ∷ []) chain) (dones_of (list ++ placed ∷ []) chain)
form_kept list placed chain other form =
    let request = request_of-push list placed chain ∙ ap (option_or (request_of list chain)) (no_request chain placed.entry other)
    ∙ or-none (request_of list chain) in
    let done = dones_of-push list placed chain (done_in placed.entry) refl ∙ ap (λ more. dones_of list chain ++ more) (no_done chain (done_in placed.entry) other)
    ∙ append-nil (dones_of list chain) in
    subst (λ o. Form o (dones_of (list ++ placed ∷ []) chain)) (sym request)
    (subst (Form (request_of list chain)) (sym done) form)

-- ---- which hop comes next

last_same : {X : Type 0} (xs : List X) (a b : X) → xs ++ a ∷ [] ≡ xs ++ b ∷ [] → a ≡ b
last_same [] a b same = cc
last_same (x ∷ xs) a b same = last_same xs a b (rest same)
  where
    rest : (x ∷ (xs ++ a ∷ [])) ≡ (x ∷ (xs ++ b ∷ [])) → xs ++ a ∷ [] ≡ xs ++ b ∷ []
    rest e = cc

-- the hop of an entry is the count of its chain's hops before it
next_hop : (set : Set) (list : List Placed) (placed : Placed) (chain : ChainId) (hop : ℕ) → IsLegal set list → MayFollow set list placed →
    hop_in chain placed.entry ≡ Some hop → hop ≡ length (done_hops chain list)
next_hop set list placed chain hop legal may is =
    let n = length (done_hops chain list) in
    let old = once_and_in_order set list legal chain in
    let new = once_and_in_order set (list ++ placed ∷ []) (legal-push set list placed legal may) chain in
    let one : done_hops chain (list ++ placed ∷ []) ≡ done_hops chain list ++ hop ∷ [] =
    filter_map-append (λ (p : Placed). hop_in chain p.entry) list (placed ∷ []) ∙ ap (λ o. done_hops chain list ++ cons_option o []) is in
    let count : length (done_hops chain (list ++ placed ∷ [])) ≡ suc n =
    ap length one ∙ length-append (done_hops chain list) (hop ∷ []) ∙ (omega arith) in
    let ranges : range_with_len 0 n ++ hop ∷ [] ≡ range_with_len 0 n ++ (0 + n) ∷ [] =
    ap (λ l. l ++ hop ∷ []) (sym old) ∙ sym one ∙ new ∙ ap (range_with_len 0) count ∙ range_more 0 n in
    last_same (range_with_len 0 n) hop (0 + n) ranges ∙ (omega arith)

-- a chain's hops are those of what it has done
hops_here : (chain : ChainId) (entry : Entry) (hops : List ℕ) (list : List Done) → hops ≡ map (λ (done : Done). done.act.hop) list →
    cons_option (hop_in chain entry) hops
    ≡ map (λ (done : Done). done.act.hop) (filter (λ done. same_chain done.chain chain) (cons_option (done_in entry) []) ++ list)
hops_here chain (Begun begun) hops list same = by (same_chain begun.chain chain)
  where
    by : (b : Bool) → cons_option (cond b (Some 0) None) hops ≡ map (λ (done : Done). done.act.hop) (cond b (begun_as begun ∷ []) [] ++ list)
    by true = ap (λ l. 0 ∷ l) same
    by false = same
hops_here chain (Refused refused) hops list same = same
hops_here chain (HopRan ran) hops list same = by (same_chain ran.message.chain chain)
  where
    by : (b : Bool) → cons_option (cond b (Some ran.message.hop) None) hops ≡ map (λ (done : Done). done.act.hop) (cond b (ran_as ran ∷ []) [] ++ list)
    by true = ap (λ l. ran.message.hop ∷ l) same
    by false = same

pub done_hops-is : (list : List Placed) (chain : ChainId) → done_hops chain list ≡ map (λ done. done.act.hop) (dones_of list chain)
done_hops-is [] chain = refl
done_hops-is (placed ∷ list) chain =
    hops_here chain placed.entry (done_hops chain list) (dones_of list chain) (done_hops-is list chain)
    ∙ ap (map (λ done. done.act.hop)) (sym (first_dones (done_in placed.entry)))
  where
    first_dones : (o : Option Done) → filter (λ done. same_chain done.chain chain) (cons_option o (dones list))
        ≡ filter (λ done. same_chain done.chain chain) (cons_option o []) ++ dones_of list chain
    first_dones None = refl
    first_dones (Some done) = by (same_chain done.chain chain)
      where
        by : (b : Bool) → cond b (done ∷ dones_of list chain) (dones_of list chain) ≡ cond b (done ∷ []) [] ++ dones_of list chain
        by true = refl
        by false = refl

pub count-is : (list : List Placed) (chain : ChainId) → length (done_hops chain list) ≡ length (dones_of list chain)
count-is list chain = ap length (done_hops-is list chain) ∙ length-map (dones_of list chain) (λ done. done.act.hop)

-- ---- the entry's own chain

-- what an entry that is a hop adds to its chain
record Adds (list : List Placed) (placed : Placed) (done : Done) : Type 0 where
  request : Request
  begun : request_of (list ++ placed ∷ []) done.chain ≡ Some request
  old : List Done
  whole : dones_of (list ++ placed ∷ []) done.chain ≡ old ++ done ∷ []
  chain : IsChainOf request.program request.args [] old
  act : done.act ≡ act_after request.program request.args (results_in_all old)

own_done : (done : Done) → filter (λ d. same_chain d.chain done.chain) (cons_option (Some done) []) ≡ done ∷ []
own_done done = ap (λ b. cond b (done ∷ []) []) (same_chain-self done.chain)

own-push : (list : List Placed) (placed : Placed) (done : Done) → done_in placed.entry ≡ Some done →
    dones_of (list ++ placed ∷ []) done.chain ≡ dones_of list done.chain ++ done ∷ []
own-push list placed done is = dones_of-push list placed done.chain (Some done) is ∙ ap (λ more. dones_of list done.chain ++ more) (own_done done)

none_of_length : {X : Type 0} (xs : List X) → length xs ≡ 0 → xs ≡ []
none_of_length [] is = refl
none_of_length (x ∷ xs) is = absurd (omega arith)

-- nothing has begun where nothing was done
not_begun : (o : Option Request) (list : List Done) → Form o list → list ≡ [] → o ≡ None
not_begun None list form none = refl
not_begun (Some request) list form none = let some = form.1 in let same = ap length none in absurd (omega arith)

-- a chain that begins
begun_adds : (set : Set) (list : List Placed) (server : ℕ) (begun : BegunEntry) → IsLegal set list → Told set list →
    MayFollow set list (record { server = server; entry = Begun begun }) → Adds list (record { server = server; entry = Begun begun }) (begun_as begun)
begun_adds set list server begun legal told may =
    let placed : Placed = record { server = server; entry = Begun begun } in
    let hop = next_hop set list placed begun.chain 0 legal may (ap (λ b. cond b (Some 0) None) (same_chain-self begun.chain)) in
    let none : dones_of list begun.chain ≡ [] = none_of_length (dones_of list begun.chain) (sym (count-is list begun.chain) ∙ sym hop) in
    let new = not_begun (request_of list begun.chain) (dones_of list begun.chain) (told.form begun.chain) none in
    record {
      request = begun.request;
      begun = request_of-push list placed begun.chain ∙ ap (λ o. option_or o (request_in begun.chain (Begun begun))) new
          ∙ ap (λ b. cond b (Some begun.request) None) (same_chain-self begun.chain);
      old = [];
      whole = own-push list placed (begun_as begun) refl ∙ ap (λ l. l ++ begun_as begun ∷ []) none;
      chain = tt;
      act = refl;
    }

all_before : (before behind list : List Done) → before ++ behind ≡ list → length before ≡ length list → before ≡ list
all_before before [] list whole count = sym (append-nil before) ∙ whole
all_before before (first ∷ behind) list whole count =
    let longer = ap length whole in let sum = length-append before (first ∷ behind) in absurd (omega arith)

-- a later hop
ran_adds : (set : Set) (list : List Placed) (server : ℕ) (ran : HopEntry) → IsLegal set list → Told set list →
    MayFollow set list (record { server = server; entry = HopRan ran }) → Adds list (record { server = server; entry = HopRan ran }) (ran_as ran)
ran_adds set list server ran legal told may =
    by (request_of list ran.message.chain) refl (told.form ran.message.chain) (told.sent ran.message (may.sent ran.message refl))
  where
    by : (o : Option Request) → request_of list ran.message.chain ≡ o → Form o (dones_of list ran.message.chain) →
        SentForm o (dones_of list ran.message.chain) ran.message → Adds list (record { server = server; entry = HopRan ran }) (ran_as ran)
    by None is form sent = absurd sent
    by (Some request) is form sent =
        let placed : Placed = record { server = server; entry = HopRan ran } in
        let old = dones_of list ran.message.chain in
        let hop = next_hop set list placed ran.message.chain ran.message.hop legal may (ap (λ b. cond b (Some ran.message.hop) None) (same_chain-self ran.message.chain)) in
        let whole : sent.before ≡ old = all_before sent.before sent.behind old sent.whole (sent.count ∙ hop ∙ count-is list ran.message.chain) in
        let results : ran.message.results ≡ results_in_all old = sent.results ∙ ap results_in_all whole in
        let number : ran.message.hop ≡ length (results_in_all old) = hop ∙ count-is list ran.message.chain ∙ sym (length-map old (λ (d : Done). d.results)) in
        record {
          request = request;
          begun = request_of-push list placed ran.message.chain ∙ ap (λ o. option_or o (request_in ran.message.chain (HopRan ran))) is;
          old = old;
          whole = own-push list placed (ran_as ran) refl;
          chain = form.0;
          act = λ i. record { program = sent.program i; hop = number i; args = sent.args i; earlier = results i };
        }

adds : (set : Set) (list : List Placed) (server : ℕ) (entry : Entry) (done : Done) → IsLegal set list → Told set list →
    MayFollow set list (record { server = server; entry = entry }) → done_in entry ≡ Some done → Adds list (record { server = server; entry = entry }) done
adds set list server (Begun begun) done legal told may is =
    let same : begun_as begun ≡ done = cc in
    subst (Adds list (record { server = server; entry = Begun begun })) same (begun_adds set list server begun legal told may)
adds set list server (Refused refused) done legal told may is = cc
adds set list server (HopRan ran) done legal told may is =
    let same : ran_as ran ≡ done = cc in
    subst (Adds list (record { server = server; entry = HopRan ran })) same (ran_adds set list server ran legal told may)

-- the chain of an entry's hop, after it
form_added : (list : List Placed) (placed : Placed) (done : Done) → Adds list placed done →
    Form (request_of (list ++ placed ∷ []) done.chain) (dones_of (list ++ placed ∷ []) done.chain)
form_added list placed done added =
    let some : 0 < length (added.old ++ done ∷ []) = let sum = length-append added.old (done ∷ []) in omega arith in
    subst (λ o. Form o (dones_of (list ++ placed ∷ []) done.chain)) (sym added.begun)
    (subst (Form (Some added.request)) (sym added.whole)
    (chain-push added.request.program added.request.args [] added.old done added.chain added.act, some))

form-push : (set : Set) (list : List Placed) (server : ℕ) (entry : Entry) (o : Option Done) → IsLegal set list → Told set list →
    MayFollow set list (record { server = server; entry = entry }) → done_in entry ≡ o → (chain : ChainId) →
    Form (request_of (list ++ record { server = server; entry = entry } ∷ []) chain) (dones_of (list ++ record { server = server; entry = entry } ∷ []) chain)
form-push set list server entry None legal told may is chain =
    form_kept list (record { server = server; entry = entry }) chain (λ done same. absurd (never done same)) (told.form chain)
  where
    never : (done : Done) → done_in entry ≡ Some done → ⊥
    never done same = cc
form-push set list server entry (Some done) legal told may is chain = by (same_chain done.chain chain) refl
  where
    other : same_chain done.chain chain ≡ false → (d : Done) → done_in entry ≡ Some d → same_chain d.chain chain ≡ false
    other differs d same = let one : done ≡ d = cc in ap (λ (x : Done). same_chain x.chain chain) (sym one) ∙ differs

    by : (b : Bool) → same_chain done.chain chain ≡ b →
        Form (request_of (list ++ record { server = server; entry = entry } ∷ []) chain) (dones_of (list ++ record { server = server; entry = entry } ∷ []) chain)
    by true here =
        subst (λ c. Form (request_of (list ++ record { server = server; entry = entry } ∷ []) c) (dones_of (list ++ record { server = server; entry = entry } ∷ []) c))
        (same_name _ _ here) (form_added list (record { server = server; entry = entry }) done (adds set list server entry done legal told may is))
    by false differs = form_kept list (record { server = server; entry = entry }) chain (other differs) (told.form chain)

-- ---- messages

-- what the message of a hop has
record Sends (done : Done) (message : Message) : Type 0 where
  chain : done.chain ≡ message.chain
  program : message.program ≡ done.act.program
  hop : message.hop ≡ done.act.hop + 1
  args : message.args ≡ done.act.args
  results : message.results ≡ done.act.earlier ++ done.results ∷ []

made_is : (b : Bool) (made message : Message) → cond b (Some made) None ≡ Some message → made ≡ message
made_is true made message e = cc
made_is false made message e = cc

sends_so : (set : Set) (entry : Entry) (message : Message) → next_message set entry ≡ Some message → (done : Done) × (done_in entry ≡ Some done) × Sends done message
sends_so set (Begun begun) message e =
    let same = made_is (nat_lt (0 + 1) (length (hops_of set begun.request.program))) _ message e in
    (begun_as begun, refl, subst (Sends (begun_as begun)) same (record { chain = refl; program = refl; hop = refl; args = refl; results = refl }))
sends_so set (Refused refused) message e = cc
sends_so set (HopRan ran) message e =
    let same = made_is (nat_lt (ran.message.hop + 1) (length (hops_of set ran.message.program))) _ message e in
    (ran_as ran, refl, subst (Sends (ran_as ran)) same (record { chain = refl; program = refl; hop = refl; args = refl; results = refl }))

-- a message sent before
sent_kept : (o more : Option Request) (list new : List Done) (message : Message) → SentForm o list message → SentForm (option_or o more) (list ++ new) message
sent_kept None more list new message sent = absurd sent
sent_kept (Some request) more list new message sent = record {
  before = sent.before;
  behind = sent.behind ++ new;
  whole = sym (append_assoc sent.before sent.behind new) ∙ ap (λ l. l ++ new) sent.whole;
  count = sent.count;
  results = sent.results;
  program = sent.program;
  args = sent.args;
}

-- a message that the entry sends
sent_new : (list : List Placed) (placed : Placed) (done : Done) (message : Message) → Adds list placed done → Sends done message →
    SentForm (request_of (list ++ placed ∷ []) done.chain) (dones_of (list ++ placed ∷ []) done.chain) message
sent_new list placed done message added sends =
    subst (λ o. SentForm o (dones_of (list ++ placed ∷ []) done.chain) message) (sym added.begun) (record {
      before = added.old ++ done ∷ [];
      behind = [];
      whole = append-nil (added.old ++ done ∷ []) ∙ sym added.whole;
      count = length-append added.old (done ∷ []) ∙ ap (λ n. n + 1) (sym (length-map added.old (λ (d : Done). d.results))
          ∙ sym (ap (λ (a : Act). a.hop) added.act)) ∙ sym sends.hop;
      results = sends.results ∙ ap (λ e. e ++ done.results ∷ []) (ap (λ (a : Act). a.earlier) added.act)
          ∙ sym (map_push (λ (d : Done). d.results) added.old done);
      program = sends.program ∙ ap (λ (a : Act). a.program) added.act;
      args = sends.args ∙ ap (λ (a : Act). a.args) added.act;
    })

sent_form-push : (set : Set) (list : List Placed) (server : ℕ) (entry : Entry) → IsLegal set list → Told set list →
    MayFollow set list (record { server = server; entry = entry }) → (message : Message) →
    IsSent set list message ⊎ (next_message set entry ≡ Some message) →
    SentForm (request_of (list ++ record { server = server; entry = entry } ∷ []) message.chain) (dones_of (list ++ record { server = server; entry = entry } ∷ []) message.chain) message
sent_form-push set list server entry legal told may message (inl old) =
    let placed : Placed = record { server = server; entry = entry } in
    subst (λ o. SentForm o (dones_of (list ++ placed ∷ []) message.chain) message) (sym (request_of-push list placed message.chain))
    (subst (λ l. SentForm (option_or (request_of list message.chain) (request_in message.chain entry)) l message)
    (sym (dones_of-push list placed message.chain (done_in entry) refl))
    (sent_kept (request_of list message.chain) (request_in message.chain entry) (dones_of list message.chain) _ message (told.sent message old)))
sent_form-push set list server entry legal told may message (inr sends) =
    let placed : Placed = record { server = server; entry = entry } in
    let own = sends_so set entry message sends in
    subst (λ c. SentForm (request_of (list ++ placed ∷ []) c) (dones_of (list ++ placed ∷ []) c) message) own.2.chain
    (sent_new list placed own.0 message (adds set list server entry own.0 legal told may own.1) own.2)

-- what is told of each legal list
pub told : (set : Set) (list : List Placed) → IsLegal set list → Told set list
told set list legal =
    legal_induction set (Told set) (record { form = λ chain. refl; sent = λ message never. absurd never })
    (λ before placed was old may. record {
      form = form-push set before placed.server placed.entry (done_in placed.entry) was old may refl;
      sent = λ message sent. sent_form-push set before placed.server placed.entry was old may message (sent-push set before placed message sent);
    }) list legal
