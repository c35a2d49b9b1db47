-- A lawful entry, and the message that it sends, are in the range of their encodings.
use Rattle.std.proofs.Common.{All, ◌≡◌, ℕ, zero, suc, ◌+◌, ◌<◌, ◌≤◌, ◌==◌, ◌||◌, ◌&&◌, not, Bool, true, false, cond, List, [], ◌∷◌, ◌++◌, map, take, length, Option, Some, None, IsTrue, IsNone, slice_get, nat_eq, nat_lt, refl, sym, ap, ◌∙◌, subst, arith}
use Rattle.std.proofs.lemmas.List.Elements.{All-cons, All-nil}
use Rattle.lynx_server.specs.History.{IsLawfulAfter}
use Rattle.std.specs.Cmp.Lexicographic.{pointwise, same_text}
use Rattle.std.specs.List.{AllByRecursion}
use Rattle.std.proofs.lemmas.Bool.{eqb-true, ltb-true}
use Rattle.std.proofs.lemmas.List.Sums.{count_by-le-length}
use Rattle.lynx_names.specs.declared.limits.TheConstants.{MAX_SERVERS, MAX_ACTIONS, MAX_PARAMETERS}
use Rattle.lynx_set.specs.declared.program.Hop.{Hop}
use Rattle.lynx_set.specs.declared.program.Program.{Program}
use Rattle.lynx_set.specs.Set.{Set}
use Rattle.lynx_set.specs.Lookups.{binds, hops_of, program_at}
use Rattle.lynx_entry.specs.declared.answer.Answer.{Answer}
use Rattle.lynx_entry.specs.declared.answer.Answer.TheVariants.{WrongOrigin, ArgCount}
use Rattle.lynx_entry.specs.declared.entry.Entry.{Entry}
use Rattle.lynx_entry.specs.declared.entry.Entry.TheVariants.{Begun, Refused, Hop as HopRan}
use Rattle.lynx_entry.specs.declared.message.Message.{Message}
use Rattle.lynx_entry.specs.declared.request.Request.{Request}
use Rattle.lynx_entry.specs.Entry.{History}
use Rattle.lynx_rules.specs.Visits.{is_origin, starts_at, visits, visited}
use Rattle.lynx_rules.specs.Turns.{numbered}
use Rattle.lynx_rules.specs.Tables.{tables_of}
use Rattle.lynx_rules.specs.Checks.{do_args_fit, fits_hop, fits_program, request_fault_in, result_count, is_well_formed}
use Rattle.lynx_rules.specs.Lawful.{IsLawful}
use Rattle.lynx_rules.specs.Messages.{next_message}
use Rattle.lynx_codec.specs.Ranges.{IsMessageInRange}
use Rattle.lynx_codec.specs.Entries.{IsEntryInRange}
use Rattle.lynx_server.proofs.FewVisits.{few_hops, have_order, servers}
use Rattle.lynx_server.proofs.ResultCounts.{meaning-few, meaning-need}

-- ---- what a request that is in order has

record IsInOrder (set : Set) (server : ℕ) (request : Request) : Type 0 where
  few : length request.args ≤ MAX_PARAMETERS
  here : visits (hops_of set request.program) server ≡ true

passed : (b : Bool) (fault : Answer) (rest : Option Answer) → IsNone (cond (not b) (Some fault) rest) → (b ≡ true) × IsNone rest
passed true fault rest none = (refl, none)
passed false fault rest none = cc

-- a program visits its origin
origin_is_visited : (hops : List Hop) (server : ℕ) → starts_at hops server ≡ true → visits hops server ≡ true
origin_is_visited [] server starts = cc
origin_is_visited (hop ∷ hops) server starts = rw starts refl

in_order : (set : Set) (server : ℕ) (request : Request) (program : Option Program) →
    IsNone (request_fault_in set server request program) → IsInOrder set server request
in_order set server request None none = cc
in_order set server request (Some program) none =
    let origin = passed (is_origin set request.program server) WrongOrigin _ none in
    let args = passed (nat_eq (length request.args) program.parameters) ArgCount _ origin.1 in
    record {
      few = omega (arith, eqb-true _ _ args.0, program.few_parameters);
      here = origin_is_visited (hops_of set request.program) server origin.0;
    }

servers-numbered : (set : Set) (history : History) (visited : List ℕ) → servers (map (numbered set history) visited) ≡ visited
servers-numbered set history [] = refl
servers-numbered set history (server ∷ others) = ap (λ rest. server ∷ rest) (servers-numbered set history others)

-- ---- what a message that is well formed has

record IsFormed (set : Set) (server : ℕ) (message : Message) : Type 0 where
  few : length message.args ≤ MAX_PARAMETERS
  here : visits (hops_of set message.program) server ≡ true
  servers_are : servers message.numbers ≡ visited set message.program
  counts_are : map length message.results ≡ map result_count (take message.hop (hops_of set message.program))

both : (a b : Bool) → (a && b) ≡ true → (a ≡ true) × (b ≡ true)
both true true e = (refl, refl)
both true false e = cc
both false b e = cc

visits_at : (hops : List Hop) (number server : ℕ) (hop : Hop) → slice_get hops number ≡ Some hop → (hop.server == server) ≡ true →
    visits hops server ≡ true
visits_at [] number server hop is here = cc
visits_at (first ∷ hops) zero server hop is here =
    let same : first ≡ hop = cc in
    ap (λ (h : Hop). (h.server == server) || visits hops server) same ∙ ap (λ b. b || visits hops server) here
visits_at (first ∷ hops) (suc number) server hop is here =
    either (first.server == server) (visits_at hops number server hop is here)
  where
    either : (b : Bool) → visits hops server ≡ true → (b || visits hops server) ≡ true
    either true there = refl
    either false there = there

formed_by_hop : (set : Set) (server : ℕ) (message : Message) (program : Program) (hop : Option Hop) →
    program_at set message.program ≡ Some program → slice_get program.hops message.hop ≡ hop →
    fits_hop set server message program hop ≡ true → IsFormed set server message
formed_by_hop set server message program None found at fit = cc
formed_by_hop set server message program (Some hop) found at fit =
    let later = nat_lt 0 message.hop in
    let at_home = hop.server == server in
    let from_origin = is_origin set message.program message.chain.origin in
    let counted = program.parameters == length message.args in
    let placed = do_args_fit set message.args program in
    let numbered_so = pointwise nat_eq (servers message.numbers) (visited set message.program) in
    let given_so = pointwise nat_eq (map length message.results) (map result_count (take message.hop program.hops)) in
    let results = both (later && at_home && from_origin && counted && placed && numbered_so) given_so fit in
    let numbers = both (later && at_home && from_origin && counted && placed) numbered_so results.0 in
    let keys = both (later && at_home && from_origin && counted) placed numbers.0 in
    let args = both (later && at_home && from_origin) counted keys.0 in
    let origin = both (later && at_home) from_origin args.0 in
    let here = both later at_home origin.0 in
    let hops : hops_of set message.program ≡ program.hops = rw found refl in
    record {
      few = omega (arith, eqb-true program.parameters (length message.args) args.1, program.few_parameters);
      here = ap (λ hs. visits hs server) hops ∙ visits_at program.hops message.hop server hop at here.1;
      servers_are = same_text _ _ (sym numbers.1);
      counts_are = same_text _ _ (sym results.1) ∙ ap (λ hs. map result_count (take message.hop hs)) (sym hops);
    }

formed : (set : Set) (server : ℕ) (message : Message) (program : Option Program) → program_at set message.program ≡ program →
    fits_program set server message program ≡ true → IsFormed set server message
formed set server message None found fit = cc
formed set server message (Some program) found fit = formed_by_hop set server message program _ found refl fit

-- ---- lists of results

each_is_few : (results : List (List ℕ)) (hops : List Hop) → map length results ≡ map result_count hops →
    AllByRecursion (λ vs. length vs ≤ MAX_ACTIONS) results
each_is_few [] hops are = tt
each_is_few (first ∷ results) [] are = cc
each_is_few (first ∷ results) (hop ∷ hops) are =
    let here : length first ≡ result_count hop = cc in
    let behind : map length results ≡ map result_count hops = cc in
    (omega (arith, here, count_by-le-length binds hop.actions, hop.few_actions), each_is_few results hops behind)

as_many : (results : List (List ℕ)) (hops : List Hop) → map length results ≡ map result_count hops → length results ≡ length hops
as_many [] [] are = refl
as_many [] (hop ∷ hops) are = cc
as_many (first ∷ results) [] are = cc
as_many (first ∷ results) (hop ∷ hops) are = ap suc (as_many results hops cc)

take_few : (n : ℕ) (hops : List Hop) → (length (take n hops) ≤ n) × (length (take n hops) ≤ length hops)
take_few zero hops = (omega arith, omega arith)
take_few (suc n) [] = (omega arith, omega arith)
take_few (suc n) (hop ∷ hops) =
    let few = take_few n hops in
    (omega (arith, few.0), omega (arith, few.1))

one_more_few : (results : List (List ℕ)) (last : List ℕ) → AllByRecursion (λ vs. length vs ≤ MAX_ACTIONS) results →
    length last ≤ MAX_ACTIONS → AllByRecursion (λ vs. length vs ≤ MAX_ACTIONS) (results ++ last ∷ [])
one_more_few [] last few more = (more, tt)
one_more_few (first ∷ results) last few more = (few.0, one_more_few results last few.1 more)

length_more : (results : List (List ℕ)) (last : List ℕ) → length (results ++ last ∷ []) ≡ suc (length results)
length_more [] last = refl
length_more (first ∷ results) last = ap suc (length_more results last)

-- ---- entries and messages

formed_in_range : (set : Set) (server : ℕ) (message : Message) → server < MAX_SERVERS → IsFormed set server message → IsMessageInRange message
formed_in_range set server message within is =
    let few = take_few message.hop (hops_of set message.program) in
    let many = as_many message.results (take message.hop (hops_of set message.program)) is.counts_are in (
      is.few,
      have_order set message.program server message.numbers within is.here is.servers_are,
      (omega (arith, few.1, many, few_hops set message.program), each_is_few message.results _ is.counts_are),
    )

well_formed : (set : Set) (server : ℕ) (history : History) (message : Message) → IsTrue (is_well_formed set server history message) →
    IsFormed set server message
well_formed set server history message is =
    formed set server message (program_at set message.program) refl
    (both (fits_program set server message (program_at set message.program)) _ (is_true _ is)).0
  where
    is_true : (b : Bool) → IsTrue b → b ≡ true
    is_true true e = refl
    is_true false e = cc

-- An entry that is lawful at a server is in the range of its encoding.
pub lawful-in_range : (set : Set) (server : ℕ) (history : History) (entry : Entry) → server < MAX_SERVERS →
    IsLawful set server history entry → IsEntryInRange entry
lawful-in_range set server history (Begun begun) within lawful =
    let order = in_order set server begun.request (program_at set begun.request.program) lawful.may_begin.in_order in
    let are = ap servers lawful.numbers ∙ servers-numbered set history (visited set begun.request.program) in (
      order.few,
      have_order set begun.request.program server begun.numbers within order.here are,
      meaning-few set begun.request.program 0 begun.request.args [] (tables_of set history) lawful.results.0 begun.results lawful.results.1,
    )
lawful-in_range set server history (Refused refused) within lawful =
    let order = in_order set server refused.request (program_at set refused.request.program) lawful.may_begin.in_order in
    (order.few, meaning-need set refused.request.program 0 refused.request.args [] (tables_of set history) refused.need lawful.need)
lawful-in_range set server history (HopRan ran) within lawful = (
  formed_in_range set server ran.message within (well_formed set server history ran.message lawful.well_formed),
  meaning-few set ran.message.program ran.message.hop ran.message.args ran.message.results (tables_of set history)
      lawful.results.0 ran.results lawful.results.1,
)

-- a message with few results, whatever stands in its other fields
next_in_range : (b : Bool) (made message : Message) → (b ≡ true → IsMessageInRange made) →
    cond b (Some made) None ≡ Some message → IsMessageInRange message
next_in_range true made message range is = let same : made ≡ message = cc in subst IsMessageInRange same (range refl)
next_in_range false made message range is = cc

-- And so is the message that it sends.
pub next-in_range : (set : Set) (server : ℕ) (history : History) (entry : Entry) (message : Message) → server < MAX_SERVERS →
    IsLawful set server history entry → next_message set entry ≡ Some message → IsMessageInRange message
next-in_range set server history (Begun begun) message within lawful is =
    let entry = lawful-in_range set server history (Begun begun) within lawful in
    next_in_range _ _ message (λ later. (entry.0, entry.1, (omega arith, (entry.2, tt)))) is
next-in_range set server history (Refused refused) message within lawful is = cc
next-in_range set server history (HopRan ran) message within lawful is =
    let entry = lawful-in_range set server history (HopRan ran) within lawful in
    let has = well_formed set server history ran.message lawful.well_formed in
    let few = take_few ran.message.hop (hops_of set ran.message.program) in
    let many = as_many ran.message.results (take ran.message.hop (hops_of set ran.message.program)) has.counts_are in
    next_in_range (nat_lt (ran.message.hop + 1) (length (hops_of set ran.message.program))) _ message
    (λ later.
    let below = ltb-true (ran.message.hop + 1) (length (hops_of set ran.message.program)) later in (
      entry.0.0,
      entry.0.1,
      (
        omega (arith, below, few.0, many, few_hops set ran.message.program, length_more ran.message.results ran.results),
        one_more_few ran.message.results ran.results entry.0.2.1 entry.1,
      ),
    ))
    is

-- So are all entries of a lawful history.
pub all-in_range : (set : Set) (server : ℕ) (before history : History) → server < MAX_SERVERS → IsLawfulAfter set server before history →
    All IsEntryInRange history
all-in_range set server before [] within lawful = All-nil IsEntryInRange
all-in_range set server before (entry ∷ history) within lawful =
    All-cons IsEntryInRange entry history (lawful-in_range set server before entry within lawful.0)
    (all-in_range set server (before ++ entry ∷ []) history within lawful.1)
