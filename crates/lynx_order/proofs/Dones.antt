-- The hops that a list has done, each with its chain, and what is known of them.
use Rattle.std.proofs.Common.{◌≡◌, ℕ, Bool, true, false, cond, not, List, [], ◌∷◌, length, Option, Some, None, IsNone, Ok, nat_eq, nat_lt, option_map, slice_get, refl, sym, ap, ◌∙◌, subst}
use Rattle.std.specs.Prelude.{All, unwrap_or}
use Rattle.std.specs.List.{filter_map}
use Rattle.std.proofs.lemmas.Bool.{eqb-true}
use Rattle.lynx_names.specs.declared.chain.ChainId.{ChainId}
use Rattle.lynx_set.specs.declared.program.Hop.{Hop}
use Rattle.lynx_set.specs.declared.program.Program.{Program}
use Rattle.lynx_set.specs.Home.{AreLiteralsHome}
use Rattle.lynx_set.specs.Set.{Set}
use Rattle.lynx_commute.specs.Acts.{Act, answer, answer_in, touched}
use Rattle.lynx_entry.specs.declared.answer.Answer.{Answer}
use Rattle.lynx_entry.specs.declared.answer.Answer.TheVariants.{WrongOrigin, ArgCount, OutsideRange, WrongShard}
use Rattle.lynx_entry.specs.declared.entry.BegunEntry.{BegunEntry}
use Rattle.lynx_entry.specs.declared.entry.HopEntry.{HopEntry}
use Rattle.lynx_entry.specs.declared.entry.Entry.{Entry}
use Rattle.lynx_entry.specs.declared.entry.Entry.TheVariants.{Begun, Refused, Hop as HopRan}
use Rattle.lynx_entry.specs.declared.message.Message.{Message}
use Rattle.lynx_entry.specs.declared.request.Request.{Request}
use Rattle.lynx_entry.specs.Entry.{History}
use Rattle.lynx_rules.specs.Visits.{is_origin, starts_at}
use Rattle.lynx_rules.specs.Tables.{tables_of}
use Rattle.lynx_rules.specs.Checks.{are_keys_placed, request_fault_in, fits_hop, fits_program, has_begun}
use Rattle.lynx_rules.specs.Lawful.{IsLawfulBegun, IsLawfulHop}
use Rattle.lynx_world.specs.Placed.{Placed}
use Rattle.lynx_world.specs.Worlds.{history_of}
use Rattle.lynx_world.specs.Legal.{MayFollow}
use Rattle.lynx_world.specs.Order.{hop_in}
use Rattle.lynx_world.proofs.HopsOf.{HasHop, hop_at-is, hops_are}
use Rattle.lynx_world.proofs.Once.{both, program_of, same_chain-self}
use Rattle.lynx_order.proofs.Keys.{LiesAt, touches_lie}
use Rattle.lynx_set.specs.Intervals.{are_in_range}
use Rattle.lynx_set.specs.Lookups.{origin_of, program_at, ranges_of, server_at}

-- a hop that a chain has done, and the results that are kept of it
pub record Done : Type 0 where
  pub chain : ChainId
  pub act : Act
  pub results : List ℕ

-- the first hop of a chain
abbrev pub begun_as : BegunEntry → Done
begun_as begun = record {
  chain = begun.chain;
  act = record { program = begun.request.program; hop = 0; args = begun.request.args; earlier = [] };
  results = begun.results;
}

-- a later hop
abbrev pub ran_as : HopEntry → Done
ran_as ran = record {
  chain = ran.message.chain;
  act = record { program = ran.message.program; hop = ran.message.hop; args = ran.message.args; earlier = ran.message.results };
  results = ran.results;
}

-- the hop that an entry is, if it is one
abbrev pub done_in : Entry → Option Done
done_in (Begun begun) = Some (begun_as begun)
done_in (Refused refused) = None
done_in (HopRan ran) = Some (ran_as ran)

-- all hops that were done, in order
abbrev pub dones : List Placed → List Done
dones list = filter_map (λ placed. done_in placed.entry) list

-- what is known of a hop that was done, where its entry may follow
pub record IsDone (set : Set) (history : History) (server : ℕ) (entry : Entry) (done : Done) : Type 0 where
  pub in_range : are_in_range (ranges_of set done.act.program) done.act.args ≡ true
  pub lies : All (LiesAt set server) (touched set done.act)
  pub at : server_at set done.act.program done.act.hop ≡ Some server
  pub origin : origin_of set done.act.program ≡ Some done.chain.origin
  pub hop_is : hop_in done.chain entry ≡ Some done.act.hop
  pub program_is : program_of entry ≡ done.act.program
  pub answers : answer set done.act (tables_of set history) ≡ Ok done.results

-- ---- the origin of a program

starts_with : (hops : List Hop) (server : ℕ) → starts_at hops server ≡ true → (hop : Hop) × (slice_get hops 0 ≡ Some hop) × (hop.server ≡ server)
starts_with [] server starts = cc
starts_with (hop ∷ hops) server starts = (hop, refl, eqb-true _ _ starts)

-- a program that the set has, which starts at a server
first_hop : (set : Set) (program server : ℕ) (found : Program) → program_at set program ≡ Some found → is_origin set program server ≡ true →
    (has : HasHop set program 0) × (has.hop.server ≡ server) × (has.found ≡ found)
first_hop set program server found is starts =
    let first = starts_with found.hops server (ap (λ hops. starts_at hops server) (sym (hops_are set program found is)) ∙ starts) in
    (record { found = found; hop = first.0; program_is = is; hop_is = first.1 }, first.2, refl)

-- the server of a hop that the set has
pub server_at-is : (set : Set) (program number : ℕ) (has : HasHop set program number) → server_at set program number ≡ Some has.hop.server
server_at-is set program number has = ap (option_map (λ (h : Hop). h.server)) (hop_at-is set program number has)

-- the ranges of a program that the set has
ranges_are : (set : Set) (program : ℕ) (found : Program) → program_at set program ≡ Some found → ranges_of set program ≡ found.ranges
ranges_are set program found is = ap (λ (o : Option Program). unwrap_or (option_map (λ (p : Program). p.ranges) o) []) is

-- ---- a chain that begins

-- what a request that is in order has
record Begins (set : Set) (server : ℕ) (request : Request) : Type 0 where
  has : HasHop set request.program 0
  here : has.hop.server ≡ server
  in_range : are_in_range (ranges_of set request.program) request.args ≡ true
  keys : are_keys_placed set request.args has.found.hops ≡ true

passed : (b : Bool) (fault : Answer) (rest : Option Answer) → IsNone (cond (not b) (Some fault) rest) → (b ≡ true) × IsNone rest
passed true fault rest none = (refl, none)
passed false fault rest none = cc

begins_so : (set : Set) (server : ℕ) (request : Request) (o : Option Program) → program_at set request.program ≡ o → IsNone (request_fault_in set server request o) → Begins set server request
begins_so set server request None is none = cc
begins_so set server request (Some program) is none =
    let origin = passed (is_origin set request.program server) WrongOrigin _ none in
    let args = passed (nat_eq (length request.args) program.parameters) ArgCount _ origin.1 in
    let ranges = passed (are_in_range program.ranges request.args) OutsideRange _ args.1 in
    let keys = passed (are_keys_placed set request.args program.hops) WrongShard _ ranges.1 in
    let first = first_hop set request.program server program is origin.0 in
    record { has = first.0; here = first.1; in_range = ap (λ rows. are_in_range rows request.args) (ranges_are set request.program program is) ∙ ranges.0; keys = ap (λ (p : Program). are_keys_placed set request.args p.hops) first.2 ∙ keys.0 }

-- the origin of a program that starts at a server
origin-is : (set : Set) (program server : ℕ) (found : Program) → program_at set program ≡ Some found → is_origin set program server ≡ true →
    origin_of set program ≡ Some server
origin-is set program server found is starts =
    let first = first_hop set program server found is starts in
    server_at-is set program 0 first.0 ∙ ap Some first.1

-- a chain that began
begun_done : (set : Set) (history : History) (server : ℕ) (begun : BegunEntry) (done : Done) → AreLiteralsHome set → IsLawfulBegun set server history begun →
    done_in (Begun begun) ≡ Some done → IsDone set history server (Begun begun) done
begun_done set history server begun done is lawful same =
    let begins = begins_so set server begun.request (program_at set begun.request.program) refl lawful.may_begin.in_order in
    let made = begun_as begun in
    let here : made ≡ done = cc in
    subst (IsDone set history server (Begun begun)) here (record {
      in_range = begins.in_range;
      lies = subst (λ s. All (LiesAt set s) (touched set made.act)) begins.here
          (touches_lie set begun.request.program 0 begun.request.args begins.has is begins.keys);
      at = server_at-is set begun.request.program 0 begins.has ∙ ap Some begins.here;
      origin = server_at-is set begun.request.program 0 begins.has ∙ ap Some (begins.here ∙ sym lawful.origin);
      hop_is = ap (λ b. cond b (Some 0) None) (same_chain-self begun.chain);
      program_is = refl;
      answers = ap answer_in lawful.results.1;
    })

-- ---- a later hop

-- what a well formed message has
record Fits (set : Set) (server : ℕ) (message : Message) : Type 0 where
  has : HasHop set message.program message.hop
  here : has.hop.server ≡ server
  in_range : are_in_range (ranges_of set message.program) message.args ≡ true
  keys : are_keys_placed set message.args has.found.hops ≡ true
  origin : origin_of set message.program ≡ Some message.chain.origin

fits_so : (set : Set) (server : ℕ) (message : Message) (program : Program) (o : Option Hop) → program_at set message.program ≡ Some program →
    slice_get program.hops message.hop ≡ o → fits_hop set server message program o ≡ true → Fits set server message
fits_so set server message program None found is e = cc
fits_so set server message program (Some hop) found is e =
    let p6 = both _ _ e in let p5 = both _ _ p6.0 in let p4 = both _ _ p5.0 in let p3 = both _ _ p4.0 in
    let p2 = both _ _ p3.0 in let p1 = both (nat_lt 0 message.hop) (nat_eq hop.server server) p2.0 in
    let args = both (are_in_range program.ranges message.args) (are_keys_placed set message.args program.hops) p4.1 in
    record {
      has = record { found = program; hop = hop; program_is = found; hop_is = is };
      here = eqb-true _ _ p1.1;
      in_range = ap (λ rows. are_in_range rows message.args) (ranges_are set message.program program found) ∙ args.0;
      keys = args.1;
      origin = origin-is set message.program message.chain.origin program found p2.1;
    }

program_so : (set : Set) (server : ℕ) (message : Message) (o : Option Program) → program_at set message.program ≡ o →
    fits_program set server message o ≡ true → Fits set server message
program_so set server message None found e = cc
program_so set server message (Some program) found e = fits_so set server message program (slice_get program.hops message.hop) found refl e

-- a later hop that ran
hop_done : (set : Set) (history : History) (server : ℕ) (ran : HopEntry) (done : Done) → AreLiteralsHome set → IsLawfulHop set server history ran →
    done_in (HopRan ran) ≡ Some done → IsDone set history server (HopRan ran) done
hop_done set history server ran done is lawful same =
    let formed = both (fits_program set server ran.message (program_at set ran.message.program)) (has_begun server history ran.message) lawful.well_formed in
    let fit = program_so set server ran.message (program_at set ran.message.program) refl formed.0 in
    let made = ran_as ran in
    let here : made ≡ done = cc in
    subst (IsDone set history server (HopRan ran)) here (record {
      in_range = fit.in_range;
      lies = subst (λ s. All (LiesAt set s) (touched set made.act)) fit.here
          (touches_lie set ran.message.program ran.message.hop ran.message.args fit.has is fit.keys);
      at = server_at-is set ran.message.program ran.message.hop fit.has ∙ ap Some fit.here;
      origin = fit.origin;
      hop_is = ap (λ b. cond b (Some ran.message.hop) None) (same_chain-self ran.message.chain);
      program_is = refl;
      answers = ap answer_in lawful.results.1;
    })

-- what is known of each hop whose entry may follow
pub is_done : (set : Set) (before : List Placed) (server : ℕ) (entry : Entry) (done : Done) → AreLiteralsHome set →
    MayFollow set before (record { server = server; entry = entry }) → done_in entry ≡ Some done →
    IsDone set (history_of server before) server entry done
is_done set before server (Begun begun) done is may same = begun_done set (history_of server before) server begun done is may.lawful same
is_done set before server (Refused refused) done is may same = cc
is_done set before server (HopRan ran) done is may same = hop_done set (history_of server before) server ran done is may.lawful same
