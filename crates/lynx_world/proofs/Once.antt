-- In a legal list each chain's hops stand once and in order.
use Rattle.std.proofs.Common.{◌≡◌, ◌≢◌, ℕ, zero, suc, ◌+◌, ◌<◌, Bool, true, false, cond, ◌&&◌, List, [], ◌∷◌, ◌++◌, length, Option, Some, None, IsTrue, inl, inr, ◌⊎◌, nat_eq, nat_lt, eq-eqb, append_assoc, slice_get, option_map, option_and_then, refl, sym, ap, ◌∙◌, subst, arith}
use Rattle.std.specs.List.{cons_option, range_with_len}
use Rattle.std.proofs.lemmas.List.{append-nil, length-append}
use Rattle.std.proofs.lemmas.List.Elements.{filter_map-append}
use Rattle.std.proofs.lemmas.Bool.{eqb-true, ltb-true}
use Rattle.std.proofs.lemmas.Bool.Decides.{eqb_tells}
use Rattle.std.proofs.lemmas.List.Sums.{sum_by-append}
use Rattle.lynx_names.specs.declared.chain.ChainId.{ChainId}
use Rattle.lynx_set.specs.declared.program.Hop.{Hop}
use Rattle.lynx_set.specs.declared.program.Program.{Program}
use Rattle.lynx_set.specs.Set.{Set}
use Rattle.lynx_entry.specs.declared.entry.Entry.{Entry}
use Rattle.lynx_entry.specs.declared.entry.Entry.TheVariants.{Begun, Refused, Hop as HopRan}
use Rattle.lynx_entry.specs.declared.entry.BegunEntry.{BegunEntry}
use Rattle.lynx_entry.specs.declared.entry.HopEntry.{HopEntry}
use Rattle.lynx_entry.specs.declared.message.Message.{Message}
use Rattle.lynx_names.specs.declared.numbers.NumberAt.{NumberAt}
use Rattle.lynx_entry.specs.Entry.{History}
use Rattle.lynx_rules.specs.Turns.{is_begun, begun_count}
use Rattle.lynx_rules.specs.Messages.{next_message, message_after}
use Rattle.lynx_rules.specs.Checks.{fits, fits_hop, fits_program, has_begun, is_well_formed}
use Rattle.lynx_rules.specs.Lawful.{is_hop_of, message_of}
use Rattle.lynx_rules.specs.Deliveries.{same_chain}
use Rattle.lynx_world.specs.Placed.{Placed}
use Rattle.lynx_world.specs.Worlds.{history_of}
use Rattle.lynx_world.specs.Legal.{MayFollow, IsLegalAfter, IsLegal}
use Rattle.lynx_world.specs.Order.{hop_in, done_hops, IsOnceAndInOrder}
use Rattle.lynx_world.proofs.Histories.{history_of-push}
use Rattle.lynx_names.proofs.Ranges.{range_more}
use Rattle.lynx_world.proofs.Members.{IsIn, in-push, in_range, below_range, entry_of_done, done_of_entry, sender_of, none_of}
use Rattle.lynx_set.specs.Lookups.{hop_at, hops_of, program_at}

-- the program of an entry
abbrev pub program_of : Entry → ℕ
program_of (Begun begun) = begun.request.program
program_of (Refused refused) = 0
program_of (HopRan ran) = ran.message.program

-- the server of a hop, if the set has it
abbrev pub hop_server : Set → ℕ → ℕ → Option ℕ
hop_server set program hop = option_map (λ (found : Hop). found.server) (hop_at set program hop)

-- what is known of a legal list
pub record IsKnown (set : Set) (list : List Placed) : Type 0 where
  pub in_order : IsOnceAndInOrder list
  pub indexed : (chain : ChainId) → 0 < length (done_hops chain list) → chain.index < begun_count (history_of chain.origin list)
  pub one_program : (chain : ChainId) (p q : Placed) (a b : ℕ) → IsIn p list → IsIn q list →
      hop_in chain p.entry ≡ Some a → hop_in chain q.entry ≡ Some b → program_of p.entry ≡ program_of q.entry
  pub at_home : (p : Placed) (message : Message) → IsIn p list → message_of p.entry ≡ Some message →
      hop_server set message.program message.hop ≡ Some p.server

pub both : (a b : Bool) → (a && b) ≡ true → (a ≡ true) × (b ≡ true)
both true b e = (refl, e)
both false b e = cc

same_chain-true : (a b : ChainId) → same_chain a b ≡ true → (a.origin ≡ b.origin) × (a.index ≡ b.index)
same_chain-true a b e = let parts = both (nat_eq a.origin b.origin) (nat_eq a.index b.index) e in (eqb-true _ _ parts.0, eqb-true _ _ parts.1)

pub same_chain-self : (a : ChainId) → same_chain a a ≡ true
same_chain-self a = rw (eq-eqb a.origin a.origin refl, eq-eqb a.index a.index refl) refl

-- the test of a chain went well
pub chosen_hop : (b : Bool) (h k : ℕ) → cond b (Some h) None ≡ Some k → (b ≡ true) × (h ≡ k)
chosen_hop true h k e = (refl, cc)
chosen_hop false h k e = cc

given : {X : Type 0} (b : Bool) (x y : X) → cond b (Some x) None ≡ Some y → x ≡ y
given true x y e = cc
given false x y e = cc

from_after : (set : Set) (chain : ChainId) (program hop stamp : ℕ) (args : List ℕ) (numbers : List NumberAt) (results : List (List ℕ)) (message : Message) →
    message_after set chain program hop stamp args numbers results ≡ Some message →
    (chain ≡ message.chain) × (program ≡ message.program) × (hop + 1 ≡ message.hop)
from_after set chain program hop stamp args numbers results message e =
    let same = given (nat_lt (hop + 1) (length (hops_of set program))) _ message e in
    (ap (λ (m : Message). m.chain) same, ap (λ (m : Message). m.program) same, ap (λ (m : Message). m.hop) same)

in_own_chain : (chain own : ChainId) (hop : ℕ) → own ≡ chain → cond (same_chain own chain) (Some hop) None ≡ Some hop
in_own_chain chain own hop e = ap (λ b. cond b (Some hop) None) (sym (ap (same_chain own) e) ∙ same_chain-self own)

-- what a message and the entry that sends it have in common
pub record Sends (entry : Entry) (message : Message) (k : ℕ) : Type 0 where
  pub in_chain : hop_in message.chain entry ≡ Some k
  pub next_hop : k + 1 ≡ message.hop
  pub of_program : program_of entry ≡ message.program

pub sends_after : (set : Set) (entry : Entry) (message : Message) → next_message set entry ≡ Some message → (k : ℕ) × Sends entry message k
sends_after set (Begun begun) message e =
    let parts = from_after set begun.chain begun.request.program 0 _ _ _ _ message e in
    (0, record { in_chain = in_own_chain message.chain begun.chain 0 parts.0; next_hop = parts.2; of_program = parts.1 })
sends_after set (Refused refused) message e = cc
sends_after set (HopRan ran) message e =
    let parts = from_after set ran.message.chain ran.message.program ran.message.hop _ _ _ _ message e in
    (ran.message.hop, record { in_chain = in_own_chain message.chain ran.message.chain ran.message.hop parts.0; next_hop = parts.2; of_program = parts.1 })

-- what a well formed message says of its hop
pub record IsHome (set : Set) (server : ℕ) (message : Message) : Type 0 where
  pub later : 0 < message.hop
  pub server_is : hop_server set message.program message.hop ≡ Some server

-- the first two of the tests of a message
home_of : (set : Set) (server : ℕ) (message : Message) (program : Program) (hop : Hop) (servers : List ℕ) →
    fits set server message program hop servers ≡ true → (0 < message.hop) × (hop.server ≡ server)
home_of set server message program hop servers e =
    let p6 = both _ _ e in let p5 = both _ _ p6.0 in let p4 = both _ _ p5.0 in let p3 = both _ _ p4.0 in
    let p2 = both _ _ p3.0 in let p1 = both (nat_lt 0 message.hop) (nat_eq hop.server server) p2.0 in
    (ltb-true _ _ p1.0, eqb-true _ _ p1.1)

home_in : (set : Set) (server : ℕ) (message : Message) (program : Program) (hop : Option Hop) →
    fits_hop set server message program hop ≡ true → (0 < message.hop) × (option_map (λ (found : Hop). found.server) hop ≡ Some server)
home_in set server message program None e = cc
home_in set server message program (Some hop) e = let parts = home_of set server message program hop _ e in (parts.0, ap Some parts.1)

home_at : (set : Set) (server : ℕ) (message : Message) (program : Option Program) → fits_program set server message program ≡ true →
    (0 < message.hop) × (option_map (λ (found : Hop). found.server) (option_and_then (λ (found : Program). slice_get found.hops message.hop) program) ≡ Some server)
home_at set server message None e = cc
home_at set server message (Some program) e = home_in set server message program _ e

is_home : (set : Set) (server : ℕ) (history : History) (message : Message) → IsTrue (is_well_formed set server history message) → IsHome set server message
is_home set server history message formed =
    let parts = home_at set server message (program_at set message.program)
    (both (fits_program set server message (program_at set message.program)) (has_begun server history message) formed).0 in
    record { later = parts.0; server_is = parts.1 }

nothing_in : {X : Type 0} (x : X) (xs : List X) → length xs ≡ 0 → IsIn x xs → ⊥
nothing_in x [] none never = never
nothing_in x (y ∷ ys) none there = omega arith

zero_of : (n : ℕ) → (0 < n → ⊥) → n ≡ 0
zero_of zero never = refl
zero_of (suc n) never = absurd (never (omega arith))

pub same_name : (a b : ChainId) → same_chain a b ≡ true → a ≡ b
same_name a b e = let parts = same_chain-true a b e in λ i. record { origin = parts.0 i; index = parts.1 i }

begun_count-push : (server : ℕ) (list : List Placed) (placed : Placed) →
    begun_count (history_of server (list ++ placed ∷ [])) ≡ begun_count (history_of server list) + begun_count (cond (nat_eq placed.server server) (placed.entry ∷ []) [])
begun_count-push server list placed =
    ap begun_count (history_of-push server list placed) ∙ sum_by-append (λ entry. cond (is_begun entry) 1 0) (history_of server list) _

-- what is known of an entry that may follow
pub record IsNew (set : Set) (list : List Placed) (placed : Placed) : Type 0 where
  pub next_hop : (chain : ChainId) (k : ℕ) → hop_in chain placed.entry ≡ Some k → k ≡ length (done_hops chain list)
  pub same_program : (chain : ChainId) (k : ℕ) (q : Placed) (a : ℕ) → hop_in chain placed.entry ≡ Some k → IsIn q list → hop_in chain q.entry ≡ Some a →
      program_of placed.entry ≡ program_of q.entry
  pub index_below : (chain : ChainId) (k : ℕ) → hop_in chain placed.entry ≡ Some k → length (done_hops chain list) ≡ 0 →
      chain.index < begun_count (history_of chain.origin (list ++ placed ∷ []))
  pub home : (message : Message) → message_of placed.entry ≡ Some message → hop_server set message.program message.hop ≡ Some placed.server

-- a chain that begins has no hop yet
begun_anew : (set : Set) (list : List Placed) (server : ℕ) (begun : BegunEntry) → IsKnown set list →
    MayFollow set list (record { server = server; entry = Begun begun }) → (chain : ChainId) → begun.chain ≡ chain → length (done_hops chain list) ≡ 0
begun_anew set list server begun known may chain same = zero_of _ (λ some. no (known.indexed chain some))
  where
    no : chain.index < begun_count (history_of chain.origin list) → ⊥
    no below =
        let origin : chain.origin ≡ server = sym (ap (λ (c : ChainId). c.origin) same) ∙ may.lawful.origin in
        let index : chain.index ≡ begun_count (history_of server list) = sym (ap (λ (c : ChainId). c.index) same) ∙ may.lawful.index in
        let here : begun_count (history_of chain.origin list) ≡ begun_count (history_of server list) = ap (λ o. begun_count (history_of o list)) origin in
        omega arith

begun_is_new : (set : Set) (list : List Placed) (server : ℕ) (begun : BegunEntry) → IsKnown set list →
    MayFollow set list (record { server = server; entry = Begun begun }) → IsNew set list (record { server = server; entry = Begun begun })
begun_is_new set list server begun known may = record {
  next_hop = λ chain k is.
      let test = chosen_hop (same_chain begun.chain chain) 0 k is in
      sym test.1 ∙ sym (begun_anew set list server begun known may chain (same_name _ _ test.0));
  same_program = λ chain k q a is there done.
      let test = chosen_hop (same_chain begun.chain chain) 0 k is in
      absurd (nothing_in a (done_hops chain list) (begun_anew set list server begun known may chain (same_name _ _ test.0)) (done_of_entry chain a list q there done));
  index_below = λ chain k is none.
      let test = chosen_hop (same_chain begun.chain chain) 0 k is in
      below chain (same_name _ _ test.0);
  home = λ message is. never message is;
}
  where
    never : (message : Message) → message_of (Begun begun) ≡ Some message → hop_server set message.program message.hop ≡ Some server
    never message is = cc

    below : (chain : ChainId) → begun.chain ≡ chain → chain.index < begun_count (history_of chain.origin (list ++ record { server = server; entry = Begun begun } ∷ []))
    below chain same =
        let origin : server ≡ chain.origin = sym may.lawful.origin ∙ ap (λ (c : ChainId). c.origin) same in
        let index : chain.index ≡ begun_count (history_of server list) = sym (ap (λ (c : ChainId). c.index) same) ∙ may.lawful.index in
        let more = begun_count-push chain.origin list (record { server = server; entry = Begun begun }) in
        let one : begun_count (cond (nat_eq server chain.origin) (Begun begun ∷ []) []) ≡ 1 =
        ap (λ b. begun_count (cond b (Begun begun ∷ []) [])) (eq-eqb server chain.origin origin) in
        let here : begun_count (history_of chain.origin list) ≡ begun_count (history_of server list) = ap (λ o. begun_count (history_of o list)) (sym origin) in
        omega arith

-- a hop that runs is the next of its chain
record IsNext (set : Set) (list : List Placed) (message : Message) : Type 0 where
  hop_is : message.hop ≡ length (done_hops message.chain list)
  program_is : (q : Placed) (a : ℕ) → IsIn q list → hop_in message.chain q.entry ≡ Some a → message.program ≡ program_of q.entry

-- no entry of this hop of the chain stands in the list
not_yet : (set : Set) (list : List Placed) (server : ℕ) (ran : HopEntry) (sender : Placed) (k : ℕ) → IsKnown set list →
    MayFollow set list (record { server = server; entry = HopRan ran }) → IsHome set server ran.message →
    IsIn sender list → Sends sender.entry ran.message k →
    (at : ℕ) (entry : Entry) → IsIn (record { server = at; entry = entry }) list → hop_in ran.message.chain entry ≡ Some ran.message.hop → ⊥
not_yet set list server ran sender k known may home there sends at (Begun begun) here is =
    let test = chosen_hop (same_chain begun.chain ran.message.chain) 0 ran.message.hop is in
    let later = home.later in
    let zero_is = test.1 in omega arith
not_yet set list server ran sender k known may home there sends at (Refused refused) here is = cc
not_yet set list server ran sender k known may home there sends at (HopRan other) here is =
    let test = chosen_hop (same_chain other.message.chain ran.message.chain) other.message.hop ran.message.hop is in
    let program : other.message.program ≡ ran.message.program =
    known.one_program ran.message.chain (record { server = at; entry = HopRan other }) sender ran.message.hop k here there is sends.in_chain ∙ sends.of_program in
    let home_there = known.at_home (record { server = at; entry = HopRan other }) other.message here refl in
    let same_server : at ≡ server = one_server at (sym home_there ∙ ap (λ p. hop_server set p other.message.hop) program ∙ ap (hop_server set ran.message.program) test.1 ∙ home.server_is) in
    let none = none_of (is_hop_of ran.message.chain ran.message.hop) server list (record { server = at; entry = HopRan other }) may.lawful.new here same_server in
    let some : is_hop_of ran.message.chain ran.message.hop (HopRan other) ≡ true =
    ap (λ b. b && nat_eq other.message.hop ran.message.hop) test.0 ∙ eq-eqb _ _ test.1 in
    clash (is_hop_of ran.message.chain ran.message.hop (HopRan other)) some none
  where
    clash : (b : Bool) → b ≡ true → b ≡ false → ⊥
    clash b yes_is no_is = cc

    one_server : (at : ℕ) → Some at ≡ Some server → at ≡ server
    one_server at e = cc

hop_is_next : (set : Set) (list : List Placed) (server : ℕ) (ran : HopEntry) (sender : Placed) (k : ℕ) → IsKnown set list →
    MayFollow set list (record { server = server; entry = HopRan ran }) → IsHome set server ran.message →
    IsIn sender list → Sends sender.entry ran.message k → IsNext set list ran.message
hop_is_next set list server ran sender k known may home there sends =
    let n = length (done_hops ran.message.chain list) in
    let order = known.in_order ran.message.chain in
    let before : k < 0 + n = below_range 0 n k (subst (IsIn k) order (done_of_entry ran.message.chain k list sender there sends.in_chain)) in
    let next = sends.next_hop in
    record {
      hop_is = exactly k n ran.message.hop before next (λ below.
          let found = entry_of_done ran.message.chain ran.message.hop list (subst (IsIn ran.message.hop) (sym order) (in_range 0 n ran.message.hop (omega arith) (omega arith))) in
          not_yet set list server ran sender k known may home there sends found.0.server found.0.entry found.1 found.2);
      program_is = λ q a here done. sym sends.of_program ∙ known.one_program ran.message.chain sender q k a there here sends.in_chain done;
    }
  where
    exactly : (k n h : ℕ) → k < 0 + n → k + 1 ≡ h → (h < n → ⊥) → h ≡ n
    exactly k n h before next not_below = elim (eqb_tells h n) [
      | inl same ↦ same.1
      | inr differs ↦ let apart : h ≢ n = differs.1 in absurd (not_below (omega arith))
    ]

hop_is_new : (set : Set) (list : List Placed) (server : ℕ) (ran : HopEntry) → IsHome set server ran.message → IsNext set list ran.message →
    IsNew set list (record { server = server; entry = HopRan ran })
hop_is_new set list server ran home next = record {
  next_hop = λ chain k is.
      let test = chosen_hop (same_chain ran.message.chain chain) ran.message.hop k is in
      sym test.1 ∙ next.hop_is ∙ ap (λ c. length (done_hops c list)) (same_name _ _ test.0);
  same_program = λ chain k q a is there done.
      let test = chosen_hop (same_chain ran.message.chain chain) ran.message.hop k is in
      next.program_is q a there (ap (λ c. hop_in c q.entry) (same_name _ _ test.0) ∙ done);
  index_below = λ chain k is none.
      let test = chosen_hop (same_chain ran.message.chain chain) ran.message.hop k is in
      let same : length (done_hops ran.message.chain list) ≡ 0 = ap (λ c. length (done_hops c list)) (same_name _ _ test.0) ∙ none in
      let later = home.later in let hop_is = next.hop_is in
      absurd (omega arith);
  home = λ message is. subst (λ (m : Message). hop_server set m.program m.hop ≡ Some server) (only message is) home.server_is;
}
  where
    only : (message : Message) → message_of (HopRan ran) ≡ Some message → ran.message ≡ message
    only message is = cc

pub is_new : (set : Set) (list : List Placed) (server : ℕ) (entry : Entry) → IsKnown set list →
    MayFollow set list (record { server = server; entry = entry }) → IsNew set list (record { server = server; entry = entry })
is_new set list server (Begun begun) known may = begun_is_new set list server begun known may
is_new set list server (Refused refused) known may = record {
  next_hop = λ chain k is. absurd (nothing k is);
  same_program = λ chain k q a is there done. absurd (nothing k is);
  index_below = λ chain k is none. absurd (nothing k is);
  home = λ message is. absurd (nothing_sent message is);
}
  where
    nothing : (k : ℕ) → ◌≡◌ {A = Option ℕ} None (Some k) → ⊥
    nothing k is = cc

    nothing_sent : (message : Message) → ◌≡◌ {A = Option Message} None (Some message) → ⊥
    nothing_sent message is = cc
is_new set list server (HopRan ran) known may =
    let home = is_home set server (history_of server list) ran.message may.lawful.well_formed in
    let sender = sender_of set list ran.message (may.sent ran.message refl) in
    let sends = sends_after set sender.0.entry ran.message sender.2 in
    hop_is_new set list server ran home (hop_is_next set list server ran sender.0 sends.0 known may home sender.1 sends.1)

done_hops-push : (chain : ChainId) (list : List Placed) (placed : Placed) →
    done_hops chain (list ++ placed ∷ []) ≡ done_hops chain list ++ cons_option (hop_in chain placed.entry) []
done_hops-push chain list placed = filter_map-append (λ p. hop_in chain p.entry) list (placed ∷ [])

order_on : (xs ys : List ℕ) (k : ℕ) → xs ≡ range_with_len 0 (length xs) → k ≡ length xs → ys ≡ xs ++ k ∷ [] → ys ≡ range_with_len 0 (length ys)
order_on xs ys k order last is =
    let longer : length ys ≡ suc (length xs) = ap length is ∙ length-append xs (k ∷ []) ∙ omega arith in
    is ∙ ap (λ n. xs ++ n ∷ []) (last ∙ omega arith) ∙ ap (λ zs. zs ++ (0 + length xs) ∷ []) order
    ∙ sym (range_more 0 (length xs)) ∙ ap (range_with_len 0) (sym longer)

order-push : (set : Set) (list : List Placed) (placed : Placed) → IsKnown set list → IsNew set list placed →
    (chain : ChainId) (o : Option ℕ) → hop_in chain placed.entry ≡ o →
    done_hops chain (list ++ placed ∷ []) ≡ range_with_len 0 (length (done_hops chain (list ++ placed ∷ [])))
order-push set list placed known new chain None is =
    let same : done_hops chain (list ++ placed ∷ []) ≡ done_hops chain list =
    done_hops-push chain list placed ∙ ap (λ o. done_hops chain list ++ cons_option o []) is ∙ append-nil (done_hops chain list) in
    subst (λ xs. xs ≡ range_with_len 0 (length xs)) (sym same) (known.in_order chain)
order-push set list placed known new chain (Some k) is =
    order_on (done_hops chain list) (done_hops chain (list ++ placed ∷ [])) k (known.in_order chain) (new.next_hop chain k is)
    (done_hops-push chain list placed ∙ ap (λ o. done_hops chain list ++ cons_option o []) is)

index-push : (set : Set) (list : List Placed) (placed : Placed) → IsKnown set list → IsNew set list placed →
    (chain : ChainId) (o : Option ℕ) → hop_in chain placed.entry ≡ o → 0 < length (done_hops chain (list ++ placed ∷ [])) →
    chain.index < begun_count (history_of chain.origin (list ++ placed ∷ []))
index-push set list placed known new chain o is some = by_count (length (done_hops chain list)) refl o is
  where
    older : 0 < length (done_hops chain list) → chain.index < begun_count (history_of chain.origin (list ++ placed ∷ []))
    older there = let below = known.indexed chain there in let grown = begun_count-push chain.origin list placed in omega arith

    same_length : hop_in chain placed.entry ≡ None → length (done_hops chain (list ++ placed ∷ [])) ≡ length (done_hops chain list)
    same_length none = ap length (done_hops-push chain list placed ∙ ap (λ o. done_hops chain list ++ cons_option o []) none ∙ append-nil (done_hops chain list))

    by_count : (n : ℕ) → length (done_hops chain list) ≡ n → (o : Option ℕ) → hop_in chain placed.entry ≡ o →
        chain.index < begun_count (history_of chain.origin (list ++ placed ∷ []))
    by_count (suc n) count o is = older (omega arith)
    by_count zero count None is = let same = same_length is in absurd (omega arith)
    by_count zero count (Some k) is = new.index_below chain k is count

program-push : (set : Set) (list : List Placed) (placed : Placed) → IsKnown set list → IsNew set list placed →
    (chain : ChainId) (p q : Placed) (a b : ℕ) → IsIn p list ⊎ (placed ≡ p) → IsIn q list ⊎ (placed ≡ q) →
    hop_in chain p.entry ≡ Some a → hop_in chain q.entry ≡ Some b → program_of p.entry ≡ program_of q.entry
program-push set list placed known new chain p q a b (inl here) (inl there) is was = known.one_program chain p q a b here there is was
program-push set list placed known new chain p q a b (inr same) (inl there) is was =
    ap (λ (r : Placed). program_of r.entry) (sym same)
    ∙ new.same_program chain a q b (ap (λ (r : Placed). hop_in chain r.entry) same ∙ is) there was
program-push set list placed known new chain p q a b (inl here) (inr same) is was =
    sym (ap (λ (r : Placed). program_of r.entry) (sym same)
    ∙ new.same_program chain b p a (ap (λ (r : Placed). hop_in chain r.entry) same ∙ was) here is)
program-push set list placed known new chain p q a b (inr one) (inr two) is was = ap (λ (r : Placed). program_of r.entry) (sym one ∙ two)

home-push : (set : Set) (list : List Placed) (placed : Placed) → IsKnown set list → IsNew set list placed →
    (p : Placed) (message : Message) → IsIn p list ⊎ (placed ≡ p) → message_of p.entry ≡ Some message →
    hop_server set message.program message.hop ≡ Some p.server
home-push set list placed known new p message (inl here) is = known.at_home p message here is
home-push set list placed known new p message (inr same) is =
    new.home message (ap (λ (r : Placed). message_of r.entry) same ∙ is) ∙ ap (λ (r : Placed). Some r.server) same

known-push : (set : Set) (list : List Placed) (placed : Placed) → IsKnown set list → MayFollow set list placed → IsKnown set (list ++ placed ∷ [])
known-push set list placed known may =
    let new : IsNew set list placed = is_new set list placed.server placed.entry known may in
    record {
      in_order = λ chain. order-push set list placed known new chain _ refl;
      indexed = λ chain some. index-push set list placed known new chain _ refl some;
      one_program = λ chain p q a b here there is was.
          program-push set list placed known new chain p q a b (in-push p placed list here) (in-push q placed list there) is was;
      at_home = λ p message here is. home-push set list placed known new p message (in-push p placed list here) is;
    }

known_after : (set : Set) (before list : List Placed) → IsKnown set before → IsLegalAfter set before list → IsKnown set (before ++ list)
known_after set before [] known legal = subst (IsKnown set) (sym (append-nil before)) known
known_after set before (placed ∷ list) known legal =
    subst (IsKnown set) (append_assoc before (placed ∷ []) list)
    (known_after set (before ++ placed ∷ []) list (known-push set before placed known legal.0) legal.1)

nothing_known : (set : Set) → IsKnown set []
nothing_known set = record {
  in_order = λ chain. refl;
  indexed = λ chain some. absurd (omega arith);
  one_program = λ chain p q a b here there is was. absurd here;
  at_home = λ p message here is. absurd here;
}

-- what is known of each legal list
pub known : (set : Set) (list : List Placed) → IsLegal set list → IsKnown set list
known set list legal = known_after set [] list (nothing_known set) legal

-- in a legal list each chain's hops stand once and in order
pub once_and_in_order : (set : Set) (list : List Placed) → IsLegal set list → IsOnceAndInOrder list
once_and_in_order set list legal = (known set list legal).in_order
