-- A message that was sent passes every test of its form at the server of its hop.
use Rattle.std.proofs.Common.{◌≡◌, ℕ, Bool, true, false, cond, not, ◌||◌, List, [], ◌∷◌, map, take, length, Option, Some, IsNone, nat_eq, eq-eqb, refl, sym, ap, ◌∙◌, subst}
use Rattle.std.specs.Cmp.Lexicographic.{pointwise}
use Rattle.std.specs.List.{list_any}
use Rattle.std.proofs.lemmas.Bool.{eqb-true, lt-ltb}
use Rattle.lynx_set.specs.declared.program.Program.{Program}
use Rattle.lynx_set.specs.Set.{Set}
use Rattle.lynx_entry.specs.declared.answer.Answer.{Answer}
use Rattle.lynx_entry.specs.declared.answer.Answer.TheVariants.{WrongOrigin, ArgCount, OutsideRange, WrongShard}
use Rattle.lynx_entry.specs.declared.entry.Entry.TheVariants.{Begun}
use Rattle.lynx_entry.specs.declared.message.Message.{Message}
use Rattle.lynx_names.specs.declared.numbers.NumberAt.{NumberAt}
use Rattle.lynx_entry.specs.declared.request.Request.{Request}
use Rattle.lynx_entry.specs.Entry.{History}
use Rattle.lynx_rules.specs.Visits.{is_origin, visited}
use Rattle.lynx_rules.specs.Turns.{numbered}
use Rattle.lynx_rules.specs.Checks.{are_keys_placed, request_fault_in, result_count, same_numbers, begins, fits, fits_hop, fits_program, has_begun, is_well_formed}
use Rattle.lynx_world.specs.Placed.{Placed}
use Rattle.lynx_world.specs.Worlds.{history_of}
use Rattle.lynx_world.specs.Legal.{IsLegal}
use Rattle.lynx_world.proofs.HopsOf.{HasHop, hops_are}
use Rattle.lynx_world.proofs.Members.{any_of, in_history}
use Rattle.lynx_world.proofs.Standing.{stands}
use Rattle.lynx_world.proofs.Tests.{and-true}
use Rattle.lynx_world.proofs.Alike.{pointwise-self, nat-self, numbers-self}
use Rattle.lynx_world.proofs.Chains.{Descends, HasChain}
use Rattle.lynx_set.specs.Intervals.{are_in_range}
use Rattle.lynx_set.specs.Lookups.{program_at}

-- what a request that is in order has
record IsInOrder (set : Set) (server : ℕ) (request : Request) (program : Program) : Type 0 where
  origin : is_origin set request.program server ≡ true
  args : length request.args ≡ program.parameters
  in_range : are_in_range program.ranges request.args ≡ true
  keys : are_keys_placed set request.args program.hops ≡ true

-- a test of a request that found no fault
passed : (b : Bool) (fault : Answer) (rest : Option Answer) → IsNone (cond (not b) (Some fault) rest) → (b ≡ true) × IsNone rest
passed true fault rest none = (refl, none)
passed false fault rest none = cc

-- a request without fault is in order
in_order : (set : Set) (server : ℕ) (request : Request) (program : Program) → IsNone (request_fault_in set server request (Some program)) →
    IsInOrder set server request program
in_order set server request program none =
    let origin = passed (is_origin set request.program server) WrongOrigin _ none in
    let args = passed (nat_eq (length request.args) program.parameters) ArgCount _ origin.1 in
    let ranges = passed (are_in_range program.ranges request.args) OutsideRange _ args.1 in
    let keys = passed (are_keys_placed set request.args program.hops) WrongShard _ ranges.1 in
    record { origin = origin.0; args = eqb-true _ _ args.0; in_range = ranges.0; keys = keys.0 }

-- what the begin of the message's chain tells of it
record IsAsBegun (set : Set) (message : Message) (program : Program) : Type 0 where
  order : IsInOrder set message.chain.origin (record { client = 0; number = 0; program = message.program; args = message.args }) program
  servers : map (λ (n : NumberAt). n.server) message.numbers ≡ visited set message.program

-- the numbers of a begin are for the servers that its program visits
servers_of_numbers : (set : Set) (history : History) (servers : List ℕ) → map (λ (n : NumberAt). n.server) (map (numbered set history) servers) ≡ servers
servers_of_numbers set history [] = refl
servers_of_numbers set history (server ∷ servers) = ap (λ rest. server ∷ rest) (servers_of_numbers set history servers)

-- the begin was lawful, so its request was in order
as_begun : (set : Set) (list : List Placed) (message : Message) (from : HasChain list message) (program : Program) → IsLegal set list →
    program_at set message.program ≡ Some program → IsAsBegun set message program
as_begun set list message from program legal is =
    let begun = from.begun in
    let stood = stands set list (record { server = message.chain.origin; entry = Begun begun }) legal from.there in
    let lawful = stood.may_follow.lawful in
    let found : program_at set begun.request.program ≡ Some program = ap (program_at set) from.program ∙ is in
    let order = in_order set message.chain.origin begun.request program
    (subst (λ o. IsNone (request_fault_in set message.chain.origin begun.request o)) found lawful.may_begin.in_order) in
    record {
      order = record {
        origin = ap (λ p. is_origin set p message.chain.origin) (sym from.program) ∙ order.origin;
        args = ap length (sym from.args) ∙ order.args;
        in_range = ap (are_in_range program.ranges) (sym from.args) ∙ order.in_range;
        keys = ap (λ args. are_keys_placed set args program.hops) (sym from.args) ∙ order.keys;
      };
      servers = ap (map (λ (n : NumberAt). n.server)) (sym from.numbers ∙ lawful.numbers)
          ∙ servers_of_numbers set (history_of message.chain.origin stood.before) (visited set begun.request.program)
          ∙ ap (visited set) from.program;
    }

-- each test of the message's program and hop
sent_fits : (set : Set) (list : List Placed) (server : ℕ) (message : Message) (from : Descends set list message)
    (has : HasHop set message.program message.hop) → has.hop.server ≡ server → IsLegal set list →
    fits set server message has.found has.hop (visited set message.program) ≡ true
sent_fits set list server message from has here legal =
    let begins_so = as_begun set list message from.of_chain has.found legal has.program_is in
    let counted = from.for_hop.counted ∙ ap (λ hops. map result_count (take message.hop hops)) (hops_are set message.program has.found has.program_is) in
    let hop = and-true _ _ (lt-ltb 0 message.hop from.for_hop.later) (eq-eqb has.hop.server server here) in
    let origin = and-true _ _ hop begins_so.order.origin in
    let args = and-true _ _ origin (eq-eqb has.found.parameters (length message.args) (sym begins_so.order.args)) in
    let keys = and-true _ _ args (and-true _ _ begins_so.order.in_range begins_so.order.keys) in
    let numbers = and-true _ _ keys
    (ap (λ servers. pointwise nat_eq servers (visited set message.program)) begins_so.servers ∙ pointwise-self nat_eq nat-self (visited set message.program)) in
    and-true _ _ numbers
    (ap (λ counts. pointwise nat_eq counts (map result_count (take message.hop has.found.hops))) counted
    ∙ pointwise-self nat_eq nat-self (map result_count (take message.hop has.found.hops)))

-- the message's chain began at this server, if it is the chain's origin
sent_has_begun : (list : List Placed) (server : ℕ) (message : Message) (from : HasChain list message) →
    has_begun server (history_of server list) message ≡ true
sent_has_begun list server message from = by (nat_eq message.chain.origin server) refl
  where
    begins_it : begins message (Begun from.begun) ≡ true
    begins_it =
        let chain = and-true _ _ (eq-eqb from.begun.chain.origin message.chain.origin (ap (λ c. c.origin) from.chain))
        (eq-eqb from.begun.chain.index message.chain.index (ap (λ c. c.index) from.chain)) in
        let program = and-true _ _ chain (eq-eqb from.begun.request.program message.program from.program) in
        let args = and-true _ _ program
        (ap (λ args. pointwise nat_eq args message.args) from.args ∙ pointwise-self nat_eq nat-self message.args) in
        and-true _ _ args
        (ap (λ numbers. same_numbers numbers message.numbers) from.numbers ∙ numbers-self message.numbers)

    by : (b : Bool) → nat_eq message.chain.origin server ≡ b → (not b || list_any (begins message) (history_of server list)) ≡ true
    by false is = refl
    by true is =
        any_of (begins message) (history_of server list) (Begun from.begun)
        (in_history server list (record { server = message.chain.origin; entry = Begun from.begun }) from.there (eqb-true _ _ is)) begins_it

-- a sent message is well formed at the server of its hop
pub sent_is_well_formed : (set : Set) (list : List Placed) (server : ℕ) (message : Message) (from : Descends set list message)
    (has : HasHop set message.program message.hop) → has.hop.server ≡ server → IsLegal set list →
    is_well_formed set server (history_of server list) message ≡ true
sent_is_well_formed set list server message from has here legal =
    and-true _ _
    (ap (fits_program set server message) has.program_is ∙ ap (fits_hop set server message has.found) has.hop_is
    ∙ sent_fits set list server message from has here legal)
    (sent_has_begun list server message from.of_chain)
