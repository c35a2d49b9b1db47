-- In a lawful history stamps rise, and neither a request nor a hop of a chain has two entries.
use Rattle.std.proofs.Common.{◌≡◌, ◌≢◌, ℕ, zero, suc, ◌+◌, ◌<◌, ◌≤◌, ◌&&◌, Bool, true, false, find, fold, [], ◌∷◌, take, length, slice_get, Some, None, nat_eq, inl, inr, count_by, refl, sym, ap, ◌∙◌, arith}
use Rattle.std.proofs.lemmas.Bool.{cases_lt, eqb-true}
use Rattle.std.proofs.lemmas.Bool.Decides.{eqb_tells}
use Rattle.std.proofs.lemmas.List.Sums.{count_by_more_no, count_by_more_yes}
use Rattle.std.proofs.lemmas.Option.{get_or_from_slice_get, slice_get_within}
use Rattle.lynx_names.specs.declared.chain.ChainId.{ChainId}
use Rattle.lynx_names.specs.declared.limits.TheConstants.{MAX_ENTRIES}
use Rattle.lynx_set.specs.Set.{Set}
use Rattle.lynx_entry.specs.declared.entry.BegunEntry.{BegunEntry}
use Rattle.lynx_entry.specs.declared.entry.HopEntry.{HopEntry}
use Rattle.lynx_entry.specs.declared.entry.Entry.{Entry}
use Rattle.lynx_entry.specs.declared.entry.Entry.TheVariants.{Begun, Refused, Hop}
use Rattle.lynx_entry.specs.declared.message.Message.{Message}
use Rattle.lynx_entry.specs.declared.request.Request.{Request}
use Rattle.lynx_entry.specs.Entry.{History, stamp_of}
use Rattle.lynx_turn.specs.Held.{same_chain}
use Rattle.lynx_rules.specs.Turns.{is_begun}
use Rattle.lynx_rules.specs.Tables.{clock_of}
use Rattle.lynx_rules.specs.Lawful.{IsLawful, hop_entry_of, is_hop_of, is_record_of, message_of}
use Rattle.lynx_server.specs.Acts.{is_act}
use Rattle.lynx_server.specs.History.{IsLawfulHistory}
use Rattle.lynx_server.proofs.InHistory.{lawful_in}
use Rattle.lynx_server.proofs.Acting.{later}
use Rattle.lynx_world.proofs.Once.{both, same_name}
use Rattle.lynx_weave.proofs.Gets.{found_none, get_take, item, none_is}

-- ---- stamps

clock_from : (clock : ℕ) (history : History) (i : ℕ) (entry : Entry) → slice_get history i ≡ Some entry →
    fold (λ c e. stamp_of e) clock (take (suc i) history) ≡ stamp_of entry
clock_from clock [] i entry is = cc
clock_from clock (first ∷ history) zero entry is = let same : first ≡ entry = cc in ap stamp_of same
clock_from clock (first ∷ history) (suc i) entry is = clock_from (stamp_of first) history i entry is

pub above_clock : (set : Set) (server : ℕ) (before : History) (entry : Entry) → IsLawful set server before entry →
    clock_of before < stamp_of entry
above_clock set server before (Begun begun) lawful = let is = lawful.stamp in omega arith
above_clock set server before (Refused refused) lawful = let is = lawful.stamp in omega arith
above_clock set server before (Hop ran) lawful = let is = lawful.stamp in omega arith

-- an entry's stamp is above its message's
pub above_message : (set : Set) (server : ℕ) (before : History) (entry : Entry) (message : Message) → IsLawful set server before entry →
    message_of entry ≡ Some message → message.stamp < stamp_of entry
above_message set server before (Begun begun) message lawful is = cc
above_message set server before (Refused refused) message lawful is = cc
above_message set server before (Hop ran) message lawful is =
    let same : ran.message ≡ message = cc in
    let told : ran.message.stamp ≡ message.stamp = ap (λ (m : Message). m.stamp) same in
    let stamp = lawful.stamp in omega arith

-- there is room for each entry
pub few_before : (set : Set) (server : ℕ) (before : History) (entry : Entry) → IsLawful set server before entry → length before < MAX_ENTRIES
few_before set server before (Begun begun) lawful = lawful.room.entries
few_before set server before (Refused refused) lawful = lawful.room.entries
few_before set server before (Hop ran) lawful = lawful.room.entries

-- stamps rise
pub rises : (set : Set) (server : ℕ) (history : History) → IsLawfulHistory set server history → (j i : ℕ) (one other : Entry) →
    i < j → slice_get history i ≡ Some one → slice_get history j ≡ Some other → stamp_of one < stamp_of other
rises set server history lawful zero i one other below first second = absurd (omega arith)
rises set server history lawful (suc j) i one other below first second =
    let within = slice_get_within history (suc j) other second in
    let middle = item history j (omega arith) in
    let clock : clock_of (take (suc j) history) ≡ stamp_of middle.0 = clock_from 0 history j middle.0 middle.1 in
    let above = above_clock set server (take (suc j) history) other (lawful_in set server history (suc j) other lawful second) in
    elim (eqb_tells i j) [
      | inl same ↦
          let here : Some one ≡ Some middle.0 = sym first ∙ ap (slice_get history) same.1 ∙ middle.1 in
          let alike : one ≡ middle.0 = cc in
          let stamp : stamp_of one ≡ stamp_of middle.0 = ap stamp_of alike in omega arith
      | inr differs ↦
          let apart : i ≢ j = differs.1 in
          let lower = rises set server history lawful j i one middle.0 (omega arith) first middle.1 in omega arith
    ]

-- ---- one entry a key

-- no two places have an entry that passes
abbrev pub IsSole : (Entry → Bool) → History → Type 0
IsSole test history =
    (i j : ℕ) (one other : Entry) → slice_get history i ≡ Some one → slice_get history j ≡ Some other →
    test one ≡ true → test other ≡ true → i ≡ j

sole_by : (test : Entry → Bool) (history : History) →
    ((i j : ℕ) (one other : Entry) → i < j → slice_get history i ≡ Some one → slice_get history j ≡ Some other → test one ≡ true → test other ≡ true → ⊥) →
    IsSole test history
sole_by test history never i j one other first second passes too = elim (cases_lt i j) [
  | inl below ↦ absurd (never i j one other below first second passes too)
  | inr least ↦ elim (eqb_tells i j) [
    | inl same ↦ same.1
    | inr differs ↦ let apart : i ≢ j = differs.1 in absurd (never j i other one (omega arith) second first too passes)
  ]
]

-- requests of one client and number have one record
record_alike : (a b : Request) → a.client ≡ b.client → a.number ≡ b.number → (entry : Entry) → is_record_of a entry ≡ is_record_of b entry
record_alike a b client number (Begun begun) = λ i. (nat_eq begun.request.client (client i) && nat_eq begun.request.number (number i))
record_alike a b client number (Refused refused) = λ i. (nat_eq refused.request.client (client i) && nat_eq refused.request.number (number i))
record_alike a b client number (Hop ran) = refl

no_record : (request own : Request) (history : History) (i j : ℕ) (one : Entry) → i < j → find (is_record_of own) (take j history) ≡ None →
    (nat_eq own.client request.client && nat_eq own.number request.number) ≡ true →
    slice_get history i ≡ Some one → is_record_of request one ≡ true → ⊥
no_record request own history i j one below none same there passes =
    let parts = both (nat_eq own.client request.client) (nat_eq own.number request.number) same in
    found_none (is_record_of own) (take j history) i one none (get_take history j i below ∙ there)
    (record_alike own request (eqb-true _ _ parts.0) (eqb-true _ _ parts.1) one ∙ passes)

pub sole_record : (set : Set) (server : ℕ) (history : History) (request : Request) → IsLawfulHistory set server history →
    IsSole (is_record_of request) history
sole_record set server history request lawful =
    sole_by (is_record_of request) history
    (λ i j one other below first second passes too. by i j one other below first passes (lawful_in set server history j other lawful second) too)
  where
    by : (i j : ℕ) (one other : Entry) → i < j → slice_get history i ≡ Some one → is_record_of request one ≡ true →
        IsLawful set server (take j history) other → is_record_of request other ≡ true → ⊥
    by i j one (Begun begun) below first passes is too =
        no_record request begun.request history i j one below (none_is _ is.may_begin.new) too first passes
    by i j one (Refused refused) below first passes is too =
        no_record request refused.request history i j one below (none_is _ is.may_begin.new) too first passes
    by i j one (Hop ran) below first passes is too = cc

-- ---- hops

count_here : (test : Entry → Bool) (history : History) (j : ℕ) (e : Entry) → j < length history → slice_get history j ≡ Some e → test e ≡ true →
    count_by test (take (suc j) history) ≡ count_by test (take j history) + 1
count_here test history j e within there passes =
    ap (λ n. count_by test (take n history)) (succ j)
    ∙ count_by_more_yes test history j e within (ap test (get_or_from_slice_get history j e e there) ∙ passes)
  where
    succ : (m : ℕ) → suc m ≡ m + 1
    succ m = omega arith

count_up : (test : Entry → Bool) (history : History) (j : ℕ) (e : Entry) → j < length history → slice_get history j ≡ Some e →
    count_by test (take j history) ≤ count_by test (take (suc j) history)
count_up test history j e within there = by (test e) refl
  where
    succ : (m : ℕ) → suc m ≡ m + 1
    succ m = omega arith

    by : (b : Bool) → test e ≡ b → count_by test (take j history) ≤ count_by test (take (suc j) history)
    by true is = let more = count_here test history j e within there is in omega arith
    by false is =
        let same : count_by test (take (suc j) history) ≡ count_by test (take j history) =
        ap (λ n. count_by test (take n history)) (succ j)
        ∙ count_by_more_no test history j e within (ap test (get_or_from_slice_get history j e e there) ∙ is) in
        omega arith

-- an entry that passes is counted behind it
pub counted_before : (test : Entry → Bool) (history : History) (j i : ℕ) (one : Entry) → i < j → j ≤ length history →
    slice_get history i ≡ Some one → test one ≡ true → count_by test (take i history) < count_by test (take j history)
counted_before test history zero i one below within there passes = absurd (omega arith)
counted_before test history (suc j) i one below within there passes =
    let middle = item history j (omega arith) in
    elim (eqb_tells i j) [
      | inl same ↦
          let here : Some one ≡ Some middle.0 = sym there ∙ ap (slice_get history) same.1 ∙ middle.1 in
          let alike : one ≡ middle.0 = cc in
          let more = count_here test history j middle.0 (omega arith) middle.1 (ap test (sym alike) ∙ passes) in
          let start : count_by test (take i history) ≡ count_by test (take j history) = ap (λ n. count_by test (take n history)) same.1 in
          omega arith
      | inr differs ↦
          let apart : i ≢ j = differs.1 in
          let up = count_up test history j middle.0 (omega arith) middle.1 in
          let lower = counted_before test history j i one (omega arith) (omega arith) there passes in omega arith
    ]

-- a chain that began at an earlier place is another
begun_twice : (set : Set) (server : ℕ) (history : History) (chain : ChainId) (i j : ℕ) (one other : BegunEntry) → IsLawfulHistory set server history →
    i < j → slice_get history i ≡ Some (Begun one) → slice_get history j ≡ Some (Begun other) →
    same_chain one.chain chain ≡ true → same_chain other.chain chain ≡ true → ⊥
begun_twice set server history chain i j one other lawful below first second is too =
    let same : one.chain ≡ other.chain = same_name one.chain chain is ∙ sym (same_name other.chain chain too) in
    let index : one.chain.index ≡ other.chain.index = ap (λ (c : ChainId). c.index) same in
    let at_first = (lawful_in set server history i (Begun one) lawful first).index in
    let at_second = (lawful_in set server history j (Begun other) lawful second).index in
    let within = slice_get_within history j (Begun other) second in
    let rises = counted_before is_begun history j i (Begun one) below (omega arith) first refl in
    omega arith

-- a later hop isn't the first
not_first : (set : Set) (server : ℕ) (before : History) (chain : ChainId) (hop : ℕ) (ran : HopEntry) → IsLawful set server before (Hop ran) →
    is_act chain hop (Hop ran) ≡ true → 0 < hop
not_first set server before chain hop ran lawful is =
    let above = later set server before ran.message lawful.well_formed in
    let parts = both (same_chain ran.message.chain chain) (nat_eq ran.message.hop hop) is in
    let same : ran.message.hop ≡ hop = eqb-true _ _ parts.1 in omega arith

first_only : (chain : ChainId) (hop : ℕ) (begun : BegunEntry) → is_act chain hop (Begun begun) ≡ true → (same_chain begun.chain chain ≡ true) × (hop ≡ 0)
first_only chain hop begun is =
    let parts = both (same_chain begun.chain chain) (nat_eq hop 0) is in (parts.0, eqb-true _ _ parts.1)

-- a hop's entry is new
hop_twice : (history : History) (chain : ChainId) (hop i j : ℕ) (one other : HopEntry) → i < j →
    hop_entry_of other.message.chain other.message.hop (take j history) ≡ None → slice_get history i ≡ Some (Hop one) →
    is_act chain hop (Hop one) ≡ true → is_act chain hop (Hop other) ≡ true → ⊥
hop_twice history chain hop i j one other below none there is too =
    let parts = both (same_chain other.message.chain chain) (nat_eq other.message.hop hop) too in
    let chain_is = same_name other.message.chain chain parts.0 in
    let hop_is : other.message.hop ≡ hop = eqb-true _ _ parts.1 in
    let passes : is_hop_of other.message.chain other.message.hop (Hop one) ≡ true =
    ap (λ c. is_hop_of c other.message.hop (Hop one)) chain_is ∙ ap (λ h. is_hop_of chain h (Hop one)) hop_is ∙ is in
    found_none (is_hop_of other.message.chain other.message.hop) (take j history) i (Hop one) none (get_take history j i below ∙ there) passes

pub sole_act : (set : Set) (server : ℕ) (history : History) (chain : ChainId) (hop : ℕ) → IsLawfulHistory set server history →
    IsSole (is_act chain hop) history
sole_act set server history chain hop lawful =
    sole_by (is_act chain hop) history
    (λ i j one other below first second passes too. by i j one other below first second passes too)
  where
    by : (i j : ℕ) (one other : Entry) → i < j → slice_get history i ≡ Some one → slice_get history j ≡ Some other →
        is_act chain hop one ≡ true → is_act chain hop other ≡ true → ⊥
    by i j (Begun one) (Begun other) below first second is too =
        begun_twice set server history chain i j one other lawful below first second (first_only chain hop one is).0 (first_only chain hop other too).0
    by i j (Begun one) (Hop other) below first second is too =
        let zero_is = (first_only chain hop one is).1 in
        let above = not_first set server (take j history) chain hop other (lawful_in set server history j (Hop other) lawful second) too in omega arith
    by i j (Hop one) (Begun other) below first second is too =
        let zero_is = (first_only chain hop other too).1 in
        let above = not_first set server (take i history) chain hop one (lawful_in set server history i (Hop one) lawful first) is in omega arith
    by i j (Hop one) (Hop other) below first second is too =
        hop_twice history chain hop i j one other below (none_is _ (lawful_in set server history j (Hop other) lawful second).new) first is too
    by i j (Refused one) other below first second is too = cc
    by i j (Begun one) (Refused other) below first second is too = cc
    by i j (Hop one) (Refused other) below first second is too = cc
