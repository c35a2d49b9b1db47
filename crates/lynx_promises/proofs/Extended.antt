-- What is lawful and legal for a set is so for each set that extends it.
use Rattle.std.proofs.Common.{◌≡◌, ◌∙◌, ℕ, ◌+◌, Bool, true, false, cond, List, [], ◌∷◌, ◌++◌, map, fold, count_by, Some, None, inl, inr, refl, ap, sym, subst, arith}
use Rattle.std.specs.Prelude.{◌==◌, ◌&&◌, nat_lt, length, IsNone}
use Rattle.std.specs.List.{cons_option}
use Rattle.std.proofs.lemmas.List.Sums.{sum_by-cons}
use Rattle.lynx_cells.specs.Database.{Database, empty_database}
use Rattle.lynx_set.specs.Rules.{IsSet}
use Rattle.lynx_set.specs.Set.{Set}
use Rattle.lynx_extend.specs.Extends.{Extends}
use Rattle.lynx_hops.specs.Meaning.{meaning}
use Rattle.lynx_entry.specs.declared.entry.Entry.{Entry}
use Rattle.lynx_entry.specs.declared.entry.Entry.TheVariants.{Begun, Refused, Hop}
use Rattle.lynx_entry.specs.declared.message.Message.{Message}
use Rattle.lynx_entry.specs.declared.request.Request.{Request}
use Rattle.lynx_entry.specs.Entry.{History}
use Rattle.lynx_rules.specs.Lawful.{IsLawful, MayBegin}
use Rattle.lynx_rules.specs.Messages.{next_message}
use Rattle.lynx_rules.specs.Tables.{after_entry, database_after, tables_of}
use Rattle.lynx_rules.specs.Turns.{begins_visiting, ends_visit, number_for, numbered, numbers_of, turn_of}
use Rattle.lynx_rules.specs.Visits.{visited}
use Rattle.lynx_server.specs.History.{IsLawfulAfter, IsLawfulHistory}
use Rattle.lynx_server.specs.Keeping.{kept_of}
use Rattle.lynx_world.specs.Legal.{IsLegal, IsLegalAfter, IsSent, MayFollow}
use Rattle.lynx_world.specs.Placed.{Placed}
use Rattle.lynx_world.specs.Worlds.{history_of}
use Rattle.lynx_promises.proofs.Extending.{Has, IsSameAt, fault_same, formed_has, formed_same, hops_same, last_same, meaning_same, request_has, same_at, visited_same, visits_same}

-- ---- entries of programs that the set has

abbrev HasOf : Set → Entry → Type 0
HasOf set (Begun begun) = Has set begun.request.program
HasOf set (Refused refused) = Unit {0}
HasOf set (Hop ran) = Has set ran.message.program

abbrev HasAll : Set → History → Type 0
HasAll set [] = Unit {0}
HasAll set (entry ∷ history) = HasOf set entry × HasAll set history

has_push : (set : Set) (history : History) (entry : Entry) → HasAll set history → HasOf set entry → HasAll set (history ++ entry ∷ [])
has_push set [] entry all has = (has, tt)
has_push set (first ∷ history) entry all has = (all.0, has_push set history entry all.1 has)

lawful_has : (set : Set) (server : ℕ) (history : History) (entry : Entry) → IsLawful set server history entry → HasOf set entry
lawful_has set server history (Begun begun) is = request_has set server begun.request is.may_begin.in_order
lawful_has set server history (Refused refused) is = tt
lawful_has set server history (Hop ran) is = formed_has set server history ran.message is.well_formed

-- ---- what is counted, and the tables

count_same : (set : Set) (test other : Entry → Bool) (history : History) → HasAll set history → ((entry : Entry) → HasOf set entry → test entry ≡ other entry) →
    count_by test history ≡ count_by other history
count_same set test other [] all same = refl
count_same set test other (entry ∷ history) all same =
    sum_by-cons (λ (e : Entry). cond (test e) 1 0) entry history
    ∙ (λ i. cond (same entry all.0 i) 1 0 + count_same set test other history all.1 same i)
    ∙ sym (sum_by-cons (λ (e : Entry). cond (other e) 1 0) entry history)

visiting_same : (old new : Set) (server : ℕ) → Extends old new → (entry : Entry) → HasOf old entry → begins_visiting new server entry ≡ begins_visiting old server entry
visiting_same old new server extends (Begun begun) has = visits_same old new begun.request.program server (same_at old new begun.request.program extends has)
visiting_same old new server extends (Refused refused) has = refl
visiting_same old new server extends (Hop ran) has = refl

number_same : (old new : Set) (history : History) (server : ℕ) → Extends old new → HasAll old history → number_for new history server ≡ number_for old history server
number_same old new history server extends all =
    count_same old (begins_visiting new server) (begins_visiting old server) history all (visiting_same old new server extends)

ends_same : (old new : Set) (server origin : ℕ) → Extends old new → (entry : Entry) → HasOf old entry → ends_visit new server origin entry ≡ ends_visit old server origin entry
ends_same old new server origin extends (Begun begun) has =
    ap (λ b. (begun.chain.origin == origin) && b) (last_same old new server begun.request.program 0 (same_at old new begun.request.program extends has))
ends_same old new server origin extends (Refused refused) has = refl
ends_same old new server origin extends (Hop ran) has =
    ap (λ b. (ran.message.chain.origin == origin) && b) (last_same old new server ran.message.program ran.message.hop (same_at old new ran.message.program extends has))

pub turn_same : (old new : Set) (server : ℕ) (history : History) (origin : ℕ) → Extends old new → HasAll old history →
    turn_of new server history origin ≡ turn_of old server history origin
turn_same old new server history origin extends all =
    count_same old (ends_visit new server origin) (ends_visit old server origin) history all (ends_same old new server origin extends)

-- numbers for the same servers
numbered_same : (old new : Set) (history : History) (servers : List ℕ) → Extends old new → HasAll old history →
    map (numbered new history) servers ≡ map (numbered old history) servers
numbered_same old new history [] extends all = refl
numbered_same old new history (server ∷ servers) extends all =
    λ i. record { server = server; number = number_same old new history server extends all i } ∷ numbered_same old new history servers extends all i

numbers_same : (old new : Set) (history : History) (program : ℕ) → Extends old new → HasAll old history → IsSameAt old new program →
    numbers_of new history program ≡ numbers_of old history program
numbers_same old new history program extends all same =
    ap (λ (servers : List ℕ). map (numbered new history) servers) (visited_same old new program same) ∙ numbered_same old new history (visited old program) extends all

after_same : (old new : Set) (db : Database) (entry : Entry) → Extends old new → HasOf old entry → after_entry new db entry ≡ after_entry old db entry
after_same old new db (Begun begun) extends has =
    ap (λ o. database_after o db) (meaning_same old new begun.request.program 0 begun.request.args [] db (same_at old new begun.request.program extends has))
after_same old new db (Refused refused) extends has = refl
after_same old new db (Hop ran) extends has =
    ap (λ o. database_after o db)
    (meaning_same old new ran.message.program ran.message.hop ran.message.args ran.message.results db (same_at old new ran.message.program extends has))

fold_same : (old new : Set) (db : Database) (history : History) → Extends old new → HasAll old history → fold (after_entry new) db history ≡ fold (after_entry old) db history
fold_same old new db [] extends all = refl
fold_same old new db (entry ∷ history) extends all =
    ap (λ d. fold (after_entry new) d history) (after_same old new db entry extends all.0) ∙ fold_same old new (after_entry old db entry) history extends all.1

pub tables_same : (old new : Set) (history : History) → Extends old new → HasAll old history → tables_of new history ≡ tables_of old history
tables_same old new history extends all = fold_same old new empty_database history extends all

-- what a hop gives behind a history
outcome_same : (old new : Set) (history : History) (program hop : ℕ) (args : List ℕ) (earlier : List (List ℕ)) → Extends old new → HasAll old history → IsSameAt old new program →
    meaning new program hop args earlier (tables_of new history) ≡ meaning old program hop args earlier (tables_of old history)
outcome_same old new history program hop args earlier extends all same =
    ap (λ db. meaning new program hop args earlier db) (tables_same old new history extends all) ∙ meaning_same old new program hop args earlier (tables_of old history) same

-- ---- what is lawful

may_begin : (old new : Set) (server : ℕ) (history : History) (request : Request) → IsSet old → Extends old new → HasAll old history → MayBegin old server history request →
    MayBegin new server history request
may_begin old new server history request is extends all may = record {
  new = may.new;
  in_order = subst IsNone (sym (fault_same old new server request is extends (request_has old server request may.in_order))) may.in_order;
  in_turn = number_same old new history server extends all ∙ may.in_turn ∙ sym (turn_same old new server history server extends all);
}

lawful : (old new : Set) (server : ℕ) (history : History) (entry : Entry) → IsSet old → Extends old new → HasAll old history → IsLawful old server history entry →
    IsLawful new server history entry
lawful old new server history (Begun begun) is extends all it =
    let same = same_at old new begun.request.program extends (request_has old server begun.request it.may_begin.in_order) in record {
      room = it.room;
      stamp = it.stamp;
      may_begin = may_begin old new server history begun.request is extends all it.may_begin;
      origin = it.origin;
      index = it.index;
      numbers = it.numbers ∙ sym (numbers_same old new history begun.request.program extends all same);
      results = (it.results.0, outcome_same old new history begun.request.program 0 begun.request.args [] extends all same ∙ it.results.1);
    }
lawful old new server history (Refused refused) is extends all it =
    let same = same_at old new refused.request.program extends (request_has old server refused.request it.may_begin.in_order) in record {
      room = it.room;
      stamp = it.stamp;
      may_begin = may_begin old new server history refused.request is extends all it.may_begin;
      need = outcome_same old new history refused.request.program 0 refused.request.args [] extends all same ∙ it.need;
    }
lawful old new server history (Hop ran) is extends all it =
    let has = formed_has old server history ran.message it.well_formed in
    let same = same_at old new ran.message.program extends has in record {
      room = it.room;
      stamp = it.stamp;
      well_formed = formed_same old new server history ran.message is extends has ∙ it.well_formed;
      new = it.new;
      in_turn = it.in_turn ∙ sym (turn_same old new server history ran.message.chain.origin extends all);
      results = (it.results.0, outcome_same old new history ran.message.program ran.message.hop ran.message.args ran.message.results extends all same ∙ it.results.1);
    }

lawful_after : (old new : Set) (server : ℕ) (before history : History) → IsSet old → Extends old new → HasAll old before → IsLawfulAfter old server before history →
    IsLawfulAfter new server before history
lawful_after old new server before [] is extends all lawfuls = tt
lawful_after old new server before (entry ∷ history) is extends all lawfuls = (
  lawful old new server before entry is extends all lawfuls.0,
  lawful_after old new server (before ++ entry ∷ []) history is extends (has_push old before entry all (lawful_has old server before entry lawfuls.0)) lawfuls.1,
)

has_after : (set : Set) (server : ℕ) (before history : History) → IsLawfulAfter set server before history → HasAll set history
has_after set server before [] lawfuls = tt
has_after set server before (entry ∷ history) lawfuls = (lawful_has set server before entry lawfuls.0, has_after set server (before ++ entry ∷ []) history lawfuls.1)

pub extended_lawful : (old new : Set) (server : ℕ) (history : History) → IsSet old → Extends old new → IsLawfulHistory old server history →
    IsLawfulHistory new server history × (kept_of new history ≡ kept_of old history)
extended_lawful old new server history is extends lawfuls = (
  lawful_after old new server [] history is extends tt lawfuls,
  λ i. record { entries = history; cells = tables_same old new history extends (has_after old server [] history lawfuls) i },
)

pub extended_turns : (old new : Set) (server : ℕ) (history : History) (origin : ℕ) → Extends old new → IsLawfulHistory old server history →
    turn_of new server history origin ≡ turn_of old server history origin
extended_turns old new server history origin extends lawfuls = turn_same old new server history origin extends (has_after old server [] history lawfuls)

-- ---- what is legal

message_same : (old new : Set) (entry : Entry) → Extends old new → HasOf old entry → next_message new entry ≡ next_message old entry
message_same old new (Begun begun) extends has =
    ap (λ hops. cond (nat_lt 1 (length hops)) (Some (record { chain = begun.chain; program = begun.request.program; hop = 1; stamp = begun.stamp; args = begun.request.args; numbers = begun.numbers; results = begun.results ∷ [] })) None)
    (hops_same old new begun.request.program (same_at old new begun.request.program extends has))
message_same old new (Refused refused) extends has = refl
message_same old new (Hop ran) extends has =
    ap (λ hops. cond (nat_lt (ran.message.hop + 1) (length hops)) (Some (record { chain = ran.message.chain; program = ran.message.program; hop = ran.message.hop + 1; stamp = ran.stamp; args = ran.message.args; numbers = ran.message.numbers; results = ran.message.results ++ ran.results ∷ [] })) None)
    (hops_same old new ran.message.program (same_at old new ran.message.program extends has))

pub extended_message : (old new : Set) (server : ℕ) (history : History) (entry : Entry) → Extends old new → IsLawful old server history entry →
    next_message new entry ≡ next_message old entry
extended_message old new server history entry extends is = message_same old new entry extends (lawful_has old server history entry is)

-- entries of a list
abbrev HasPlaced : Set → List Placed → Type 0
HasPlaced set [] = Unit {0}
HasPlaced set (placed ∷ list) = HasOf set placed.entry × HasPlaced set list

placed_push : (set : Set) (list : List Placed) (last : Placed) → HasPlaced set list → HasOf set last.entry → HasPlaced set (list ++ last ∷ [])
placed_push set [] last all has = (has, tt)
placed_push set (first ∷ list) last all has = (all.0, placed_push set list last all.1 has)

history_has : (set : Set) (server : ℕ) (list : List Placed) → HasPlaced set list → HasAll set (history_of server list)
history_has set server [] all = tt
history_has set server (placed ∷ list) all = by (placed.server == server) (history_has set server list all.1)
  where
    by : (b : Bool) → HasAll set (history_of server list) → HasAll set (cons_option (cond b (Some placed.entry) None) (history_of server list))
    by true rest = (all.0, rest)
    by false rest = rest

sent : (old new : Set) (list : List Placed) (message : Message) → Extends old new → HasPlaced old list → IsSent old list message → IsSent new list message
sent old new [] message extends all never = never
sent old new (placed ∷ list) message extends all (inl sends) = inl (message_same old new placed.entry extends all.0 ∙ sends)
sent old new (placed ∷ list) message extends all (inr later) = inr (sent old new list message extends all.1 later)

may_follow : (old new : Set) (before : List Placed) (placed : Placed) → IsSet old → Extends old new → HasPlaced old before → MayFollow old before placed → MayFollow new before placed
may_follow old new before placed is extends all may = record {
  at_server = let within = may.at_server in let more = extends.head.servers in omega arith;
  lawful = lawful old new placed.server (history_of placed.server before) placed.entry is extends (history_has old placed.server before all) may.lawful;
  sent = λ message it. sent old new before message extends all (may.sent message it);
}

legal_after : (old new : Set) (before list : List Placed) → IsSet old → Extends old new → HasPlaced old before → IsLegalAfter old before list → IsLegalAfter new before list
legal_after old new before [] is extends all legal = tt
legal_after old new before (placed ∷ list) is extends all legal = (
  may_follow old new before placed is extends all legal.0,
  legal_after old new (before ++ placed ∷ []) list is extends
      (placed_push old before placed all (lawful_has old placed.server (history_of placed.server before) placed.entry legal.0.lawful)) legal.1,
)

pub extended_legal : (old new : Set) (list : List Placed) → IsSet old → Extends old new → IsLegal old list → IsLegal new list
extended_legal old new list is extends legal = legal_after old new [] list is extends tt legal
