-- Each message that was sent is of a chain that began in the list, and has its program, arguments and numbers.
use Rattle.std.proofs.Common.{◌≡◌, ℕ, ◌+◌, ◌<◌, Bool, true, false, cond, List, [], ◌∷◌, ◌++◌, map, take, length, Some, None, Ok, inl, inr, nat_lt, refl, sym, ap, ◌∙◌, subst, arith}
use Rattle.std.proofs.lemmas.Bool.{ltb-true}
use Rattle.std.proofs.lemmas.List.{map_push}
use Rattle.lynx_cells.specs.Database.{Database}
use Rattle.lynx_set.specs.Set.{Set}
use Rattle.lynx_hops.specs.Meaning.{meaning}
use Rattle.lynx_entry.specs.declared.entry.BegunEntry.{BegunEntry}
use Rattle.lynx_entry.specs.declared.entry.HopEntry.{HopEntry}
use Rattle.lynx_entry.specs.declared.entry.Entry.{Entry}
use Rattle.lynx_entry.specs.declared.entry.Entry.TheVariants.{Begun, Refused, Hop as HopRan}
use Rattle.lynx_entry.specs.declared.message.Message.{Message}
use Rattle.lynx_rules.specs.Messages.{next_message}
use Rattle.lynx_rules.specs.Tables.{tables_of}
use Rattle.lynx_rules.specs.Checks.{result_count}
use Rattle.lynx_world.specs.Placed.{Placed}
use Rattle.lynx_world.specs.Worlds.{history_of}
use Rattle.lynx_world.specs.Legal.{IsSent, MayFollow, IsLegal}
use Rattle.lynx_world.proofs.HopsOf.{has_hop, hops_are, map_take_more}
use Rattle.lynx_world.proofs.ResultCounts.{meaning-counted}
use Rattle.lynx_world.proofs.Members.{IsIn, in-append, in-last}
use Rattle.lynx_world.proofs.Standing.{legal_induction}
use Rattle.lynx_world.proofs.Sent.{sent-push}
use Rattle.lynx_set.specs.Lookups.{hops_of}

-- the chain of the message began at its origin, with the message's program, arguments and numbers
pub record HasChain (list : List Placed) (message : Message) : Type 0 where
  pub begun : BegunEntry
  pub there : IsIn (record { server = message.chain.origin; entry = Begun begun }) list
  pub chain : begun.chain ≡ message.chain
  pub program : begun.request.program ≡ message.program
  pub args : begun.request.args ≡ message.args
  pub numbers : begun.numbers ≡ message.numbers

-- the message is for a later hop of its program, and has the results of all hops before it
pub record IsForHop (set : Set) (message : Message) : Type 0 where
  pub later : 0 < message.hop
  pub within : message.hop < length (hops_of set message.program)
  pub counted : map length message.results ≡ map result_count (take message.hop (hops_of set message.program))

-- what is told of a message that was sent
pub record Descends (set : Set) (list : List Placed) (message : Message) : Type 0 where
  pub of_chain : HasChain list message
  pub for_hop : IsForHop set message

-- the message of an entry that sends one
sends_this : (b : Bool) (made message : Message) → cond b (Some made) None ≡ Some message → (b ≡ true) × (made ≡ message)
sends_this true made message e = (refl, cc)
sends_this false made message e = cc

-- the results of one more hop
counted_more : (set : Set) (program hop : ℕ) (args : List ℕ) (earlier results : List (List ℕ)) (new : List ℕ) (before after : Database) →
    hop + 1 < length (hops_of set program) → map length results ≡ map result_count (take hop (hops_of set program)) →
    meaning set program hop args earlier before ≡ Ok (new, after) →
    map length (results ++ new ∷ []) ≡ map result_count (take (hop + 1) (hops_of set program))
counted_more set program hop args earlier results new before after within counted ran =
    let has = has_hop set program hop (omega arith) in
    let same = hops_are set program has.found has.program_is in
    map_push length results new
    ∙ ap (λ n. map length results ++ n ∷ []) (meaning-counted set program hop has args earlier before after new ran)
    ∙ ap (λ counts. counts ++ result_count has.hop ∷ []) (counted ∙ ap (λ hops. map result_count (take hop hops)) same)
    ∙ sym (map_take_more result_count has.found.hops hop has.hop has.hop_is)
    ∙ ap (λ hops. map result_count (take (hop + 1) hops)) (sym same)

-- the message of a chain that begins
begun_sends : (set : Set) (list : List Placed) (server : ℕ) (begun : BegunEntry) (message : Message) →
    MayFollow set list (record { server = server; entry = Begun begun }) → next_message set (Begun begun) ≡ Some message →
    Descends set (list ++ record { server = server; entry = Begun begun } ∷ []) message
begun_sends set list server begun message may sends =
    let made : Message = record {
      chain = begun.chain;
      program = begun.request.program;
      hop = 0 + 1;
      stamp = begun.stamp;
      args = begun.request.args;
      numbers = begun.numbers;
      results = begun.results ∷ [];
    } in
    let test = sends_this (nat_lt (0 + 1) (length (hops_of set begun.request.program))) made message sends in
    let within : 0 + 1 < length (hops_of set begun.request.program) = ltb-true _ _ test.0 in
    let origin = may.lawful.origin in
    subst (Descends set (list ++ record { server = server; entry = Begun begun } ∷ [])) test.1 (record {
      of_chain = record {
        begun = begun;
        there = in-last (record { server = begun.chain.origin; entry = Begun begun }) (record { server = server; entry = Begun begun }) list
            (ap (λ s. let p : Placed = record { server = s; entry = Begun begun } in p) (sym origin));
        chain = refl;
        program = refl;
        args = refl;
        numbers = refl;
      };
      for_hop = record {
        later = omega arith;
        within = within;
        counted = counted_more set begun.request.program 0 begun.request.args [] [] begun.results (tables_of set (history_of server list))
            may.lawful.results.0 within refl may.lawful.results.1;
      };
    })

-- the message of a later hop that runs
hop_sends : (set : Set) (list : List Placed) (server : ℕ) (ran : HopEntry) (message : Message) →
    MayFollow set list (record { server = server; entry = HopRan ran }) → Descends set list ran.message →
    next_message set (HopRan ran) ≡ Some message → Descends set (list ++ record { server = server; entry = HopRan ran } ∷ []) message
hop_sends set list server ran message may old sends =
    let made : Message = record {
      chain = ran.message.chain;
      program = ran.message.program;
      hop = ran.message.hop + 1;
      stamp = ran.stamp;
      args = ran.message.args;
      numbers = ran.message.numbers;
      results = ran.message.results ++ ran.results ∷ [];
    } in
    let test = sends_this (nat_lt (ran.message.hop + 1) (length (hops_of set ran.message.program))) made message sends in
    let within : ran.message.hop + 1 < length (hops_of set ran.message.program) = ltb-true _ _ test.0 in
    subst (Descends set (list ++ record { server = server; entry = HopRan ran } ∷ [])) test.1 (record {
      of_chain = record {
        begun = old.of_chain.begun;
        there = in-append _ list _ old.of_chain.there;
        chain = old.of_chain.chain;
        program = old.of_chain.program;
        args = old.of_chain.args;
        numbers = old.of_chain.numbers;
      };
      for_hop = record {
        later = omega arith;
        within = within;
        counted = counted_more set ran.message.program ran.message.hop ran.message.args ran.message.results ran.message.results ran.results
            (tables_of set (history_of server list)) may.lawful.results.0 within old.for_hop.counted may.lawful.results.1;
      };
    })

-- the message of the last entry
descends-push : (set : Set) (list : List Placed) (server : ℕ) (entry : Entry) (message : Message) →
    ((other : Message) → IsSent set list other → Descends set list other) →
    MayFollow set list (record { server = server; entry = entry }) → next_message set entry ≡ Some message →
    Descends set (list ++ record { server = server; entry = entry } ∷ []) message
descends-push set list server (Begun begun) message each may sends = begun_sends set list server begun message may sends
descends-push set list server (Refused refused) message each may sends = cc
descends-push set list server (HopRan ran) message each may sends =
    hop_sends set list server ran message may (each ran.message (may.sent ran.message refl)) sends

-- what is told of a message stays true as the list grows
descends-append : (set : Set) (list more : List Placed) (message : Message) → Descends set list message → Descends set (list ++ more) message
descends-append set list more message old = record {
  of_chain = record {
    begun = old.of_chain.begun;
    there = in-append _ list more old.of_chain.there;
    chain = old.of_chain.chain;
    program = old.of_chain.program;
    args = old.of_chain.args;
    numbers = old.of_chain.numbers;
  };
  for_hop = old.for_hop;
}

-- each message that was sent is of a chain that began, for one of its later hops
pub descends : (set : Set) (list : List Placed) (message : Message) → IsLegal set list → IsSent set list message → Descends set list message
descends set list message legal =
    legal_induction set (λ l. (m : Message) → IsSent set l m → Descends set l m) (λ m never. absurd never)
    (λ before last was each may m sent. elim (sent-push set before last m sent) [
      | inl old ↦ descends-append set before (last ∷ []) m (each m old)
      | inr sends ↦ descends-push set before last.server last.entry m each may sends
    ])
    list legal message
