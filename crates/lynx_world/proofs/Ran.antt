-- A sent message whose number is below the turn is for a hop that ran: its chain has left the server.
use Rattle.std.proofs.Common.{◌≡◌, ℕ, ◌+◌, ◌<◌, ◌≤◌, Bool, true, false, cond, ◌&&◌, List, drop, length, Some, None, is_some, nat_eq, eq-eqb, option_map, refl, sym, ap, ◌∙◌, subst, arith}
use Rattle.lynx_names.specs.declared.chain.ChainId.{ChainId}
use Rattle.lynx_names.specs.declared.limits.TheConstants.{MAX_SERVERS}
use Rattle.lynx_set.specs.declared.program.Hop.{Hop}
use Rattle.lynx_set.specs.Set.{Set}
use Rattle.lynx_entry.specs.declared.entry.BegunEntry.{BegunEntry}
use Rattle.lynx_entry.specs.declared.entry.Entry.{Entry}
use Rattle.lynx_entry.specs.declared.entry.Entry.TheVariants.{Begun, Refused, Hop as HopRan}
use Rattle.lynx_entry.specs.declared.message.Message.{Message}
use Rattle.lynx_rules.specs.Visits.{visits}
use Rattle.lynx_rules.specs.Turns.{turn_of}
use Rattle.lynx_rules.specs.Lawful.{is_hop_of, hop_entry_of}
use Rattle.lynx_rules.specs.Deliveries.{same_chain}
use Rattle.lynx_world.specs.Placed.{Placed}
use Rattle.lynx_world.specs.Worlds.{history_of}
use Rattle.lynx_world.specs.Legal.{IsLegal}
use Rattle.lynx_world.specs.Order.{hop_in, done_hops}
use Rattle.lynx_world.proofs.HopsOf.{HasHop, hop_at-is, visits-hop, not_behind_last}
use Rattle.lynx_world.proofs.Members.{IsIn, in_range, below_range, entry_of_done, done_of_entry, none_of}
use Rattle.lynx_world.proofs.Once.{same_chain-self, chosen_hop, known, once_and_in_order, hop_server}
use Rattle.lynx_world.proofs.Chains.{Descends}
use Rattle.lynx_world.proofs.Numbers.{number_in, BeginsAt, IsVisiting}
use Rattle.lynx_world.proofs.Rises.{one_chain}
use Rattle.lynx_world.proofs.Acts.{acts}
use Rattle.lynx_world.proofs.Turns.{HasLeft, leaving, has_left}
use Rattle.lynx_set.specs.Lookups.{hops_of}

-- the hops before one that stands in the list stand there too
pub earlier_ran : (set : Set) (chain : ChainId) (hop last : ℕ) (list : List Placed) (placed : Placed) → IsLegal set list → IsIn placed list →
    hop_in chain placed.entry ≡ Some last → hop ≤ last → (q : Placed) × IsIn q list × (hop_in chain q.entry ≡ Some hop)
earlier_ran set chain hop last list placed legal there is before =
    let n = length (done_hops chain list) in
    let order = once_and_in_order set list legal chain in
    let below : last < 0 + n = below_range 0 n last (subst (IsIn last) order (done_of_entry chain last list placed there is)) in
    entry_of_done chain hop list (subst (IsIn hop) (sym order) (in_range 0 n hop (omega arith) (omega arith)))

-- the begin of a chain is its hop 0
begins_chain : (chain : ChainId) (begun : BegunEntry) → begun.chain ≡ chain → hop_in chain (Begun begun) ≡ Some 0
begins_chain chain begun same = ap (λ b. cond b (Some 0) None) (ap (λ c. same_chain c chain) same ∙ same_chain-self chain)

-- the entry of a message's hop stands at the server of that hop
found_there : (set : Set) (list : List Placed) (server : ℕ) (message : Message) (from : Descends set list message)
    (has : HasHop set message.program message.hop) → has.hop.server ≡ server → IsLegal set list →
    (at : ℕ) (entry : Entry) → IsIn (record { server = at; entry = entry }) list → hop_in message.chain entry ≡ Some message.hop →
    (at ≡ server) × (is_hop_of message.chain message.hop entry ≡ true)
found_there set list server message from has here legal at (Begun begun) there is =
    let test = chosen_hop (same_chain begun.chain message.chain) 0 message.hop is in
    let zero_is = test.1 in
    let later = from.for_hop.later in
    absurd (omega arith)
found_there set list server message from has here legal at (Refused refused) there is = cc
found_there set list server message from has here legal at (HopRan ran) there is =
    let test = chosen_hop (same_chain ran.message.chain message.chain) ran.message.hop message.hop is in
    let know = known set list legal in
    let begins = begins_chain message.chain from.of_chain.begun from.of_chain.chain in
    let program : ran.message.program ≡ message.program =
    know.one_program message.chain (record { server = at; entry = HopRan ran }) (record { server = message.chain.origin; entry = Begun from.of_chain.begun })
    message.hop 0 there from.of_chain.there is begins ∙ from.of_chain.program in
    let home = know.at_home (record { server = at; entry = HopRan ran }) ran.message there refl in
    let server_is : hop_server set message.program message.hop ≡ Some has.hop.server =
    ap (option_map (λ (h : Hop). h.server)) (hop_at-is set message.program message.hop has) in (
      same_server at (sym home ∙ ap (λ p. hop_server set p ran.message.hop) program ∙ ap (hop_server set message.program) test.1 ∙ server_is ∙ ap Some here),
      ap (λ b. b && nat_eq ran.message.hop message.hop) test.0 ∙ eq-eqb _ _ test.1,
    )
  where
    same_server : (a : ℕ) → Some a ≡ Some server → a ≡ server
    same_server a e = cc

-- what is told of a chain that left the server with the message's number: it is the message's own
record IsOwn (set : Set) (list : List Placed) (server : ℕ) (message : Message) (last : ℕ) : Type 0 where
  placed : Placed
  there : IsIn placed list
  hop_is : hop_in message.chain placed.entry ≡ Some last
  none_behind : visits (drop (last + 1) (hops_of set message.program)) server ≡ false

-- numbers for the server tell chains of one origin apart
left_own : (set : Set) (list : List Placed) (server : ℕ) (message : Message) (from : Descends set list message)
    (has : HasHop set message.program message.hop) → has.hop.server ≡ server → server < MAX_SERVERS → IsLegal set list →
    HasLeft set list server message.chain.origin (number_in message.numbers server) → (last : ℕ) × IsOwn set list server message last
left_own set list server message from has here below legal left =
    let gone = leaving set server message.chain.origin left.entry left.leaves_by in
    let act = acts set list server left.entry gone.chain gone.hop legal left.there gone.hop_is in
    let begun = from.of_chain.begun in
    let visiting : IsVisiting set server begun =
    ap (λ p. visits (hops_of set p) server) from.of_chain.program ∙ visits-hop set message.program message.hop server has here in
    let other = subst (λ o. BeginsAt o act.begun list) gone.of_origin act.there in
    let chain : gone.chain ≡ message.chain =
    sym act.chain_is
    ∙ one_chain set message.chain.origin server list act.begun begun below legal other from.of_chain.there act.visiting visiting
    (act.number ∙ left.number ∙ sym (ap (λ numbers. number_in numbers server) from.of_chain.numbers))
    ∙ from.of_chain.chain in
    let hop_is : hop_in message.chain left.entry ≡ Some gone.hop = ap (λ c. hop_in c left.entry) (sym chain) ∙ gone.hop_is in
    let program = (known set list legal).one_program message.chain (record { server = server; entry = left.entry })
    (record { server = message.chain.origin; entry = Begun begun }) gone.hop 0 left.there from.of_chain.there hop_is (begins_chain message.chain begun from.of_chain.chain)
    ∙ from.of_chain.program in (
      gone.hop,
      record {
        placed = record { server = server; entry = left.entry };
        there = left.there;
        hop_is = hop_is;
        none_behind = ap (λ p. visits (drop (gone.hop + 1) (hops_of set p)) server) (sym program) ∙ gone.last;
      },
    )

-- a message that comes past its turn is for a hop that has its entry
pub ran_before : (set : Set) (list : List Placed) (server : ℕ) (message : Message) (from : Descends set list message)
    (has : HasHop set message.program message.hop) → has.hop.server ≡ server → server < MAX_SERVERS → IsLegal set list →
    number_in message.numbers server < turn_of set server (history_of server list) message.chain.origin →
    is_some (hop_entry_of message.chain message.hop (history_of server list)) ≡ true
ran_before set list server message from has here below legal past =
    let left = has_left set server message.chain.origin list (number_in message.numbers server) below legal past in
    let own = left_own set list server message from has here below legal left in
    let low = not_behind_last set message.program message.hop server own.0 has here own.1.none_behind in
    let found = earlier_ran set message.chain message.hop own.0 list own.1.placed legal own.1.there own.1.hop_is low in
    let there = found_there set list server message from has here legal found.0.server found.0.entry found.1 found.2 in
    some_entry (is_some (hop_entry_of message.chain message.hop (history_of server list))) refl found.0 found.1 there.0 there.1
  where
    some_entry : (b : Bool) → is_some (hop_entry_of message.chain message.hop (history_of server list)) ≡ b → (q : Placed) → IsIn q list →
        q.server ≡ server → is_hop_of message.chain message.hop q.entry ≡ true → is_some (hop_entry_of message.chain message.hop (history_of server list)) ≡ true
    some_entry true is q there at passes = is
    some_entry false is q there at passes =
        let none = none_of (is_hop_of message.chain message.hop) server list q is there at in cc
