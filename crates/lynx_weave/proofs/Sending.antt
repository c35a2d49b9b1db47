-- The entry that sends a message stands at the server of its hop, and nowhere else.
use Rattle.std.proofs.Common.{◌≡◌, ◌≢◌, inl, inr, ℕ, zero, suc, ◌+◌, ◌<◌, ◌≤◌, Bool, true, false, not, cond, ◌&&◌, nat_eq, nat_lt, eq-eqb, List, [], ◌∷◌, slice_get, length, Option, Some, None, option_map, option_and_then, refl, sym, ap, ◌∙◌, subst, arith}
use Rattle.std.specs.Prelude.{IsNone, unwrap_or}
use Rattle.std.proofs.lemmas.Bool.{eqb-true}
use Rattle.std.proofs.lemmas.Bool.Decides.{eqb_tells}
use Rattle.std.proofs.lemmas.Option.{slice_get_within}
use Rattle.lynx_names.specs.declared.chain.ChainId.{ChainId}
use Rattle.lynx_set.specs.declared.program.Hop.{Hop as SetHop}
use Rattle.lynx_set.specs.declared.program.Program.{Program}
use Rattle.lynx_set.specs.Set.{Set}
use Rattle.lynx_set.specs.Lookups.{hops_of, program_at, server_at}
use Rattle.lynx_entry.specs.declared.answer.Answer.{Answer}
use Rattle.lynx_entry.specs.declared.answer.Answer.TheVariants.{WrongOrigin}
use Rattle.lynx_entry.specs.declared.entry.Entry.{Entry}
use Rattle.lynx_entry.specs.declared.entry.Entry.TheVariants.{Begun, Refused, Hop}
use Rattle.lynx_entry.specs.declared.message.Message.{Message}
use Rattle.lynx_entry.specs.declared.request.Request.{Request}
use Rattle.lynx_entry.specs.Entry.{History, stamp_of}
use Rattle.lynx_turn.specs.Held.{same_chain}
use Rattle.lynx_rules.specs.Checks.{fits, fits_hop, fits_program, has_begun, request_fault_in}
use Rattle.lynx_rules.specs.Lawful.{IsLawful, message_of}
use Rattle.lynx_rules.specs.Messages.{next_message}
use Rattle.lynx_rules.specs.Visits.{is_origin, starts_at}
use Rattle.lynx_server.specs.Acts.{act_of, is_act}
use Rattle.lynx_server.specs.History.{IsLawfulHistory}
use Rattle.lynx_world.specs.Order.{hop_in}
use Rattle.lynx_world.proofs.Once.{both, chosen_hop, program_of, sends_after}
use Rattle.lynx_weave.specs.Lists.{entry_in}
use Rattle.lynx_weave.specs.Senders.{AreAllSent, AreSent, IsSentBefore, IsUnsent, sent_before}
use Rattle.lynx_weave.specs.Weaving.{IsUnsentAt}
use Rattle.lynx_weave.proofs.Gets.{found_at, found_none, found_passes}
use Rattle.lynx_weave.proofs.Lawfuls.{sole_act}
use Rattle.lynx_server.proofs.InHistory.{lawful_in}

-- each server's history is lawful
abbrev pub AreLawful : Set → List History → Type 0
AreLawful set histories =
    (server : ℕ) (history : History) → slice_get histories server ≡ Some history → IsLawfulHistory set server history

-- ---- entries by server and place

pub then_some : {X Y : Type 0} (f : X → Option Y) (o : Option X) (y : Y) → option_and_then f o ≡ Some y → (x : X) × (o ≡ Some x) × (f x ≡ Some y)
then_some f None y is = cc
then_some f (Some x) y is = (x, refl, is)

pub entry_there : (histories : List History) (server place : ℕ) (entry : Entry) → entry_in histories server place ≡ Some entry →
    (history : History) × (slice_get histories server ≡ Some history) × (slice_get history place ≡ Some entry)
entry_there histories server place entry is = then_some (λ (h : History). slice_get h place) (slice_get histories server) entry is

pub entry_here : (histories : List History) (server place : ℕ) (history : History) → slice_get histories server ≡ Some history →
    entry_in histories server place ≡ slice_get history place
entry_here histories server place history there = ap (option_and_then (λ (h : History). slice_get h place)) there

-- ---- the server of a hop

passed : (b : Bool) (fault : Answer) (rest : Option Answer) → IsNone (cond (not b) (Some fault) rest) → b ≡ true
passed true fault rest none = refl
passed false fault rest none = cc

origin_by : (set : Set) (server : ℕ) (request : Request) (o : Option Program) → IsNone (request_fault_in set server request o) →
    is_origin set request.program server ≡ true
origin_by set server request None none = cc
origin_by set server request (Some program) none = passed (is_origin set request.program server) WrongOrigin _ none

first_by : (server : ℕ) (o : Option Program) → starts_at (unwrap_or (option_map (λ (p : Program). p.hops) o) []) server ≡ true →
    option_map (λ (h : SetHop). h.server) (option_and_then (λ (p : Program). slice_get p.hops 0) o) ≡ Some server
first_by server None is = cc
first_by server (Some program) is = by program.hops is
  where
    by : (hops : List SetHop) → starts_at hops server ≡ true → option_map (λ (h : SetHop). h.server) (slice_get hops 0) ≡ Some server
    by [] at = cc
    by (hop ∷ hops) at = ap Some (eqb-true hop.server server at)

home_of : (set : Set) (server : ℕ) (message : Message) (program : Program) (hop : SetHop) (servers : List ℕ) →
    fits set server message program hop servers ≡ true → hop.server ≡ server
home_of set server message program hop servers e =
    let p6 = both _ _ e in let p5 = both _ _ p6.0 in let p4 = both _ _ p5.0 in let p3 = both _ _ p4.0 in
    let p2 = both _ _ p3.0 in let p1 = both (nat_lt 0 message.hop) (nat_eq hop.server server) p2.0 in
    eqb-true _ _ p1.1

home_in : (set : Set) (server : ℕ) (message : Message) (program : Program) (hop : Option SetHop) →
    fits_hop set server message program hop ≡ true → option_map (λ (h : SetHop). h.server) hop ≡ Some server
home_in set server message program None e = cc
home_in set server message program (Some hop) e = ap Some (home_of set server message program hop _ e)

home_at : (set : Set) (server : ℕ) (message : Message) (program : Option Program) → fits_program set server message program ≡ true →
    option_map (λ (h : SetHop). h.server) (option_and_then (λ (p : Program). slice_get p.hops message.hop) program) ≡ Some server
home_at set server message None e = cc
home_at set server message (Some program) e = home_in set server message program _ e

-- a lawful entry that is of a hop of its program stands at the server of that hop
at_home : (set : Set) (server : ℕ) (before : History) (entry : Entry) (chain : ChainId) (k : ℕ) → IsLawful set server before entry →
    hop_in chain entry ≡ Some k → server_at set (program_of entry) k ≡ Some server
at_home set server before (Begun begun) chain k lawful is =
    let hop = (chosen_hop (same_chain begun.chain chain) 0 k is).1 in
    ap (server_at set begun.request.program) (sym hop)
    ∙ first_by server (program_at set begun.request.program)
    (origin_by set server begun.request (program_at set begun.request.program) lawful.may_begin.in_order)
at_home set server before (Refused refused) chain k lawful is = cc
at_home set server before (Hop ran) chain k lawful is =
    let hop = (chosen_hop (same_chain ran.message.chain chain) ran.message.hop k is).1 in
    let formed = both (fits_program set server ran.message (program_at set ran.message.program)) (has_begun server before ran.message) lawful.well_formed in
    ap (server_at set ran.message.program) (sym hop)
    ∙ home_at set server ran.message (program_at set ran.message.program) formed.0

-- ---- the entry of a hop

act_by : (chain : ChainId) (hop : ℕ) (entry : Entry) → hop_in chain entry ≡ Some hop → is_act chain hop entry ≡ true
act_by chain hop (Begun begun) is =
    let parts = chosen_hop (same_chain begun.chain chain) 0 hop is in
    ap (λ b. b && nat_eq hop 0) parts.0 ∙ eq-eqb hop 0 (sym parts.1)
act_by chain hop (Refused refused) is = cc
act_by chain hop (Hop ran) is =
    let parts = chosen_hop (same_chain ran.message.chain chain) ran.message.hop hop is in
    ap (λ b. b && nat_eq ran.message.hop hop) parts.0 ∙ eq-eqb ran.message.hop hop parts.1

act_is : (set : Set) (server place : ℕ) (history : History) (chain : ChainId) (hop : ℕ) (entry : Entry) → IsLawfulHistory set server history →
    slice_get history place ≡ Some entry → is_act chain hop entry ≡ true → act_of chain hop history ≡ Some entry
act_is set server place history chain hop entry lawful there passes = by (act_of chain hop history) refl
  where
    by : (o : Option Entry) → act_of chain hop history ≡ o → act_of chain hop history ≡ Some entry
    by None none = absurd (found_none (is_act chain hop) history place entry none there passes)
    by (Some other) found =
        let at = found_at (is_act chain hop) history other found in
        let same = sole_act set server history chain hop lawful at.0 place other entry at.1 there (found_passes (is_act chain hop) history other found) passes in
        found ∙ sym at.1 ∙ ap (slice_get history) same ∙ there

-- ---- what is sent

chosen_message : (b : Bool) (x y : Message) → cond b (Some x) None ≡ Some y → x ≡ y
chosen_message true x y is = cc
chosen_message false x y is = cc

-- a message has its sender's stamp
pub stamp_sent : (set : Set) (entry : Entry) (message : Message) → next_message set entry ≡ Some message → message.stamp ≡ stamp_of entry
stamp_sent set (Begun begun) message is =
    sym (ap (λ (m : Message). m.stamp) (chosen_message (nat_lt 1 (length (hops_of set begun.request.program))) _ message is))
stamp_sent set (Refused refused) message is = cc
stamp_sent set (Hop ran) message is =
    sym (ap (λ (m : Message). m.stamp) (chosen_message (nat_lt (ran.message.hop + 1) (length (hops_of set ran.message.program))) _ message is))

-- what an entry sends is found at the server of its hop
pub sent_is : (set : Set) (histories : List History) (server place : ℕ) (entry : Entry) (message : Message) → AreLawful set histories →
    entry_in histories server place ≡ Some entry → next_message set entry ≡ Some message → IsSentBefore set histories message
sent_is set histories server place entry message lawful there sends =
    let at = entry_there histories server place entry there in
    let after = sends_after set entry message sends in
    let k = after.0 in
    let hop_is : suc k ≡ message.hop = let next = after.1.next_hop in omega arith in
    let home : server_at set message.program k ≡ Some server =
    ap (λ p. server_at set p k) (sym after.1.of_program)
    ∙ at_home set server _ entry message.chain k (lawful_in set server at.0 place entry (lawful server at.0 at.1) at.2) after.1.in_chain in
    let act = act_is set server place at.0 message.chain k entry (lawful server at.0 at.1) at.2 (act_by message.chain k entry after.1.in_chain) in
    ap (sent_before set histories message) (sym hop_is)
    ∙ ap (λ s. option_and_then (next_message set) (option_and_then (act_of message.chain k) (option_and_then (slice_get histories) s))) home
    ∙ ap (λ h. option_and_then (next_message set) (option_and_then (act_of message.chain k) h)) at.1
    ∙ ap (option_and_then (next_message set)) act ∙ sends

-- the entry that sends a message
pub record IsSender (set : Set) (histories : List History) (message : Message) : Type 0 where
  pub server : ℕ
  pub place : ℕ
  pub entry : Entry
  pub there : entry_in histories server place ≡ Some entry
  pub sends : next_message set entry ≡ Some message

-- a message that is found was sent
pub sender_is : (set : Set) (histories : List History) (message : Message) → IsSentBefore set histories message → IsSender set histories message
sender_is set histories message sent = by message.hop sent
  where
    by : (hop : ℕ) → sent_before set histories message hop ≡ Some message → IsSender set histories message
    by zero is = cc
    by (suc before) is =
        let entry = then_some (next_message set) _ message is in
        let history = then_some (act_of message.chain before) _ entry.0 entry.1 in
        let server = then_some (slice_get histories) _ history.0 history.1 in
        let at = found_at (is_act message.chain before) history.0 entry.0 history.2 in
        record {
          server = server.0;
          place = at.0;
          entry = entry.0;
          there = entry_here histories server.0 at.0 history.0 server.2 ∙ at.1;
          sends = entry.2;
        }

-- ---- entry by entry

-- the messages of the first entries are sent
abbrev pub AreSentBelow : Set → List History → History → ℕ → Type 0
AreSentBelow set histories history below =
    (place : ℕ) (entry : Entry) (message : Message) → place < below → slice_get history place ≡ Some entry →
    message_of entry ≡ Some message → IsSentBefore set histories message

pub sent_more : (set : Set) (histories : List History) (history : History) (at : ℕ) (here : Entry) → slice_get history at ≡ Some here →
    ((message : Message) → message_of here ≡ Some message → IsSentBefore set histories message) →
    AreSentBelow set histories history at → AreSentBelow set histories history (at + 1)
sent_more set histories history at here there sent below place entry message within is of_message = elim (eqb_tells place at) [
  | inl same ↦
      let entries : Some here ≡ Some entry = sym there ∙ ap (slice_get history) (sym same.1) ∙ is in
      let alike : here ≡ entry = cc in
      sent message (ap message_of alike ∙ of_message)
  | inr differs ↦ let apart : place ≢ at = differs.1 in below place entry message (omega arith) is of_message
]

-- .. and history by history
abbrev pub AreAllSentBelow : Set → List History → ℕ → Type 0
AreAllSentBelow set histories below =
    (server : ℕ) (history : History) → server < below → slice_get histories server ≡ Some history → AreSent set histories history

pub all_sent_more : (set : Set) (histories : List History) (at : ℕ) (here : History) → slice_get histories at ≡ Some here → AreSent set histories here →
    AreAllSentBelow set histories at → AreAllSentBelow set histories (at + 1)
all_sent_more set histories at here there sent below server history within is = elim (eqb_tells server at) [
  | inl same ↦
      let lists : Some here ≡ Some history = sym there ∙ ap (slice_get histories) (sym same.1) ∙ is in
      let alike : here ≡ history = cc in subst (AreSent set histories) alike sent
  | inr differs ↦ let apart : server ≢ at = differs.1 in below server history (omega arith) is
]

pub all_sent : (set : Set) (histories : List History) (at : ℕ) → length histories ≤ at → AreAllSentBelow set histories at → AreAllSent set histories
all_sent set histories at all below server history there = below server history (let within = slice_get_within histories server history there in omega arith) there

-- an entry whose message isn't found is one that nobody sent
pub unsent_at : (set : Set) (histories : List History) (server place : ℕ) (history : History) → AreLawful set histories →
    slice_get histories server ≡ Some history → IsUnsent set histories history place → IsUnsentAt set histories server place
unsent_at set histories server place history lawful there unsent = record {
  entry = unsent.entry;
  there = entry_here histories server place history there ∙ unsent.there;
  message = unsent.message;
  message_is = unsent.message_is;
  unsent = λ other at sender stands sends. unsent.unsent (sent_is set histories other at sender unsent.message lawful stands sends);
}
