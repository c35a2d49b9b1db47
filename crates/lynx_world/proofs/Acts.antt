-- What an entry at a server tells of its chain: where it began, that it visits the server, and its number for it.
use Rattle.std.proofs.Common.{◌≡◌, ℕ, List, Some, option_map, refl, sym, ap, ◌∙◌, subst}
use Rattle.lynx_names.specs.declared.chain.ChainId.{ChainId}
use Rattle.lynx_set.specs.declared.program.Hop.{Hop}
use Rattle.lynx_set.specs.Set.{Set}
use Rattle.lynx_entry.specs.declared.entry.BegunEntry.{BegunEntry}
use Rattle.lynx_entry.specs.declared.entry.HopEntry.{HopEntry}
use Rattle.lynx_entry.specs.declared.entry.Entry.{Entry}
use Rattle.lynx_entry.specs.declared.entry.Entry.TheVariants.{Begun, Refused, Hop as HopRan}
use Rattle.lynx_rules.specs.Visits.{visits}
use Rattle.lynx_rules.specs.Deliveries.{same_chain}
use Rattle.lynx_rules.proofs.Steps.{begins_visiting-lawful}
use Rattle.lynx_world.specs.Placed.{Placed}
use Rattle.lynx_world.specs.Worlds.{history_of}
use Rattle.lynx_world.specs.Legal.{IsLegal}
use Rattle.lynx_world.specs.Order.{hop_in}
use Rattle.lynx_world.proofs.HopsOf.{HasHop, has_hop, hop_at-is, visits-hop}
use Rattle.lynx_world.proofs.Members.{IsIn}
use Rattle.lynx_world.proofs.Once.{same_name, chosen_hop, program_of, known}
use Rattle.lynx_world.proofs.Standing.{stands}
use Rattle.lynx_world.proofs.Sent.{message-sent}
use Rattle.lynx_world.proofs.Chains.{descends}
use Rattle.lynx_world.proofs.Numbers.{number_in, BeginsAt, IsVisiting}
use Rattle.lynx_set.specs.Lookups.{hops_of}

-- the number for a server of the chain of an entry
abbrev pub number_of : Entry → ℕ → ℕ
number_of (Begun begun) server = number_in begun.numbers server
number_of (Refused refused) server = 0
number_of (HopRan ran) server = number_in ran.message.numbers server

-- the chain of an entry at the server began at its origin, with the entry's program and number, and visits the server
pub record Acts (set : Set) (list : List Placed) (server : ℕ) (chain : ChainId) (entry : Entry) : Type 0 where
  pub begun : BegunEntry
  pub there : BeginsAt chain.origin begun list
  pub chain_is : begun.chain ≡ chain
  pub program : begun.request.program ≡ program_of entry
  pub visiting : IsVisiting set server begun
  pub number : number_in begun.numbers server ≡ number_of entry server

-- the first entry of a chain
begun_acts : (set : Set) (list : List Placed) (server : ℕ) (begun : BegunEntry) → IsLegal set list →
    IsIn (record { server = server; entry = Begun begun }) list → Acts set list server begun.chain (Begun begun)
begun_acts set list server begun legal there =
    let stood = stands set list (record { server = server; entry = Begun begun }) legal there in
    record {
      begun = begun;
      there = subst (λ s. BeginsAt s begun list) (sym stood.may_follow.lawful.origin) there;
      chain_is = refl;
      program = refl;
      visiting = begins_visiting-lawful set server (history_of server stood.before) (Begun begun) stood.may_follow.lawful;
      number = refl;
    }

-- a later hop that ran at a server is one of the program's there
hop_is_there : (set : Set) (list : List Placed) (server : ℕ) (ran : HopEntry) (has : HasHop set ran.message.program ran.message.hop) →
    IsLegal set list → IsIn (record { server = server; entry = HopRan ran }) list → has.hop.server ≡ server
hop_is_there set list server ran has legal there =
    same_server has.hop.server
    (sym (ap (option_map (λ (h : Hop). h.server)) (hop_at-is set ran.message.program ran.message.hop has))
    ∙ (known set list legal).at_home (record { server = server; entry = HopRan ran }) ran.message there refl)
  where
    same_server : (at : ℕ) → Some at ≡ Some server → at ≡ server
    same_server at e = cc

-- the entry of a later hop
hop_acts : (set : Set) (list : List Placed) (server : ℕ) (ran : HopEntry) → IsLegal set list →
    IsIn (record { server = server; entry = HopRan ran }) list → Acts set list server ran.message.chain (HopRan ran)
hop_acts set list server ran legal there =
    let sent = message-sent set list (record { server = server; entry = HopRan ran }) ran.message legal there refl in
    let from = descends set list ran.message legal sent in
    let has = has_hop set ran.message.program ran.message.hop from.for_hop.within in
    record {
      begun = from.of_chain.begun;
      there = from.of_chain.there;
      chain_is = from.of_chain.chain;
      program = from.of_chain.program;
      visiting = ap (λ p. visits (hops_of set p) server) from.of_chain.program
          ∙ visits-hop set ran.message.program ran.message.hop server has (hop_is_there set list server ran has legal there);
      number = ap (λ numbers. number_in numbers server) from.of_chain.numbers;
    }

-- each entry of a chain tells of it
pub acts : (set : Set) (list : List Placed) (server : ℕ) (entry : Entry) (chain : ChainId) (hop : ℕ) → IsLegal set list →
    IsIn (record { server = server; entry = entry }) list → hop_in chain entry ≡ Some hop → Acts set list server chain entry
acts set list server (Begun begun) chain hop legal there is =
    let test = chosen_hop (same_chain begun.chain chain) 0 hop is in
    subst (λ c. Acts set list server c (Begun begun)) (same_name _ _ test.0) (begun_acts set list server begun legal there)
acts set list server (Refused refused) chain hop legal there is = cc
acts set list server (HopRan ran) chain hop legal there is =
    let test = chosen_hop (same_chain ran.message.chain chain) ran.message.hop hop is in
    subst (λ c. Acts set list server c (HopRan ran)) (same_name _ _ test.0) (hop_acts set list server ran legal there)
