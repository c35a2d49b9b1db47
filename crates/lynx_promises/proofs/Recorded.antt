-- In a legal list each request is recorded once, and at one server.
use Rattle.std.proofs.Common.{◌≡◌, ◌∙◌, ℕ, Bool, true, false, not, cond, nat_eq, eq-eqb, List, [], ◌∷◌, ◌++◌, Option, Some, None, option_map, inl, inr, refl, sym, ap, subst}
use Rattle.std.specs.List.{cons_option, filter_map}
use Rattle.std.specs.Prelude.{IsNone}
use Rattle.std.proofs.lemmas.Bool.{eqb-true}
use Rattle.std.proofs.lemmas.List.{append-nil}
use Rattle.std.proofs.lemmas.List.Elements.{filter_map-append}
use Rattle.lynx_set.specs.declared.program.Hop.{Hop as ProgramHop}
use Rattle.lynx_set.specs.declared.program.Program.{Program}
use Rattle.lynx_set.specs.Lookups.{hops_of, program_at}
use Rattle.lynx_set.specs.Set.{Set}
use Rattle.lynx_entry.specs.declared.answer.Answer.{Answer}
use Rattle.lynx_entry.specs.declared.entry.Entry.{Entry}
use Rattle.lynx_entry.specs.declared.entry.Entry.TheVariants.{Begun, Refused, Hop}
use Rattle.lynx_entry.specs.declared.request.Request.{Request}
use Rattle.lynx_entry.specs.Entry.{History}
use Rattle.lynx_rules.specs.Checks.{request_fault_in}
use Rattle.lynx_rules.specs.Lawful.{IsLawful, MayBegin, is_record_of}
use Rattle.lynx_rules.specs.Visits.{is_origin, starts_at}
use Rattle.lynx_world.specs.Legal.{IsLegal, MayFollow}
use Rattle.lynx_world.specs.Placed.{Placed}
use Rattle.lynx_world.specs.Worlds.{history_of}
use Rattle.lynx_world.proofs.Histories.{history_of-push}
use Rattle.lynx_world.proofs.Members.{IsIn, in_history}
use Rattle.lynx_world.proofs.Standing.{legal_induction, stands}
use Rattle.lynx_world.proofs.Tests.{and-true}
use Rattle.lynx_weave.proofs.Gets.{found_none, in_place, none_is, place_in}
use Rattle.lynx_order.specs.Lists.{AreDifferent}
use Rattle.lynx_order.proofs.Lists.{different-append}
use Rattle.lynx_order.proofs.Places.{place_of_in}
use Rattle.lynx_promises.specs.Requests.{OneEntryEach, OneHomeEach, call_kept, number_kept}

-- ---- lists in which each value stands once

-- one more, where what it gives isn't given yet
pub different_more : {X Y : Type 0} (f : X → Option Y) (xs : List X) (x : X) → AreDifferent (filter_map f xs) →
    ((y : Y) → f x ≡ Some y → IsIn y (filter_map f xs) → ⊥) → AreDifferent (filter_map f (xs ++ x ∷ []))
different_more {X} {Y} f xs x once new = subst AreDifferent (sym (filter_map-append f xs (x ∷ []))) (by (f x) refl)
  where
    by : (o : Option Y) → f x ≡ o → AreDifferent (filter_map f xs ++ cons_option o [])
    by None is = subst AreDifferent (sym (append-nil (filter_map f xs))) once
    by (Some y) is =
        different-append (filter_map f xs) (y ∷ []) once (λ never. absurd never, tt)
        (λ z there here. elim here [ inl same ↦ new z (is ∙ ap Some same) there | inr never ↦ absurd never ])

-- ---- what an entry records

-- the request that a lawful entry records, which might begin there
record MightBegin (set : Set) (server : ℕ) (history : History) (entry : Entry) : Type 0 where
  request : Request
  may_begin : MayBegin set server history request
  number_is : number_kept entry ≡ Some (request.client, request.number)
  call_is : call_kept entry ≡ Some (request.client, request.number, request.program)

might_begin : (set : Set) (server : ℕ) (history : History) (entry : Entry) (number : ℕ × ℕ) → IsLawful set server history entry → number_kept entry ≡ Some number →
    MightBegin set server history entry
might_begin set server history (Begun begun) number lawful is = record { request = begun.request; may_begin = lawful.may_begin; number_is = refl; call_is = refl }
might_begin set server history (Refused refused) number lawful is = record { request = refused.request; may_begin = lawful.may_begin; number_is = refl; call_is = refl }
might_begin set server history (Hop ran) number lawful is = cc

-- what records a call records its number
number_of_call : (entry : Entry) (call : ℕ × ℕ × ℕ) → call_kept entry ≡ Some call → number_kept entry ≡ Some (call.0, call.1)
number_of_call (Begun begun) call is = ap (option_map (λ (c : ℕ × ℕ × ℕ). (c.0, c.1))) is
number_of_call (Refused refused) call is = ap (option_map (λ (c : ℕ × ℕ × ℕ). (c.0, c.1))) is
number_of_call (Hop ran) call is = cc

same_number : (one other : ℕ × ℕ) → Some one ≡ Some other → (one.0 ≡ other.0) × (one.1 ≡ other.1)
same_number one other is =
    let same : one ≡ other = cc in
    (ap (λ (n : ℕ × ℕ). n.0) same, ap (λ (n : ℕ × ℕ). n.1) same)

same_program : (one other : ℕ × ℕ × ℕ) → Some one ≡ Some other → one.2 ≡ other.2
same_program one other is = let same : one ≡ other = cc in ap (λ (c : ℕ × ℕ × ℕ). c.2) same

-- an entry that records a request's number is a record of it
pub records_it : (request : Request) (entry : Entry) → number_kept entry ≡ Some (request.client, request.number) → is_record_of request entry ≡ true
records_it request (Begun begun) is =
    let same = same_number (begun.request.client, begun.request.number) (request.client, request.number) is in
    and-true _ _ (eq-eqb begun.request.client request.client same.0) (eq-eqb begun.request.number request.number same.1)
records_it request (Refused refused) is =
    let same = same_number (refused.request.client, refused.request.number) (request.client, request.number) is in
    and-true _ _ (eq-eqb refused.request.client request.client same.0) (eq-eqb refused.request.number request.number same.1)
records_it request (Hop ran) is = cc

-- where a request may begin, no entry records its number
not_recorded : (set : Set) (server : ℕ) (history : History) (request : Request) (entry : Entry) → MayBegin set server history request → IsIn entry history →
    number_kept entry ≡ Some (request.client, request.number) → ⊥
not_recorded set server history request entry may there is =
    let place = place_in entry history there in
    found_none (is_record_of request) history place.0 entry (none_is _ may.new) place.1 (records_it request entry is)

-- ---- at one server

one_more : (set : Set) (server : ℕ) (history : History) (entry : Entry) → IsLawful set server history entry → OneEntryEach history → OneEntryEach (history ++ entry ∷ [])
one_more set server history entry lawful once = different_more number_kept history entry once (λ number is there.
    let might = might_begin set server history entry number lawful is in
    let old = place_of_in number_kept number history there in
    not_recorded set server history might.request old.1 might.may_begin (in_place old.1 history old.0 old.2) (old.3 ∙ sym is ∙ might.number_is))

one_entry_push : (set : Set) (server : ℕ) (list : List Placed) (last : Placed) → MayFollow set list last → OneEntryEach (history_of server list) →
    OneEntryEach (history_of server (list ++ last ∷ []))
one_entry_push set server list last may once = by (nat_eq last.server server) refl
  where
    by : (b : Bool) → nat_eq last.server server ≡ b → OneEntryEach (history_of server (list ++ last ∷ []))
    by true is =
        subst OneEntryEach (sym (history_of-push server list last ∙ ap (λ b. history_of server list ++ cond b (last.entry ∷ []) []) is))
        (one_more set server (history_of server list) last.entry (subst (λ n. IsLawful set n (history_of n list) last.entry) (eqb-true last.server server is) may.lawful) once)
    by false is =
        subst OneEntryEach
        (sym (history_of-push server list last ∙ ap (λ b. history_of server list ++ cond b (last.entry ∷ []) []) is ∙ append-nil (history_of server list))) once

pub one_entry_each : (set : Set) (server : ℕ) (list : List Placed) → IsLegal set list → OneEntryEach (history_of server list)
one_entry_each set server list legal =
    legal_induction set (λ l. OneEntryEach (history_of server l)) tt
    (λ before last was once may. one_entry_push set server before last may once) list legal

-- ---- at all servers

-- a program begins at one server
one_origin : (hops : List ProgramHop) (one other : ℕ) → starts_at hops one ≡ true → starts_at hops other ≡ true → one ≡ other
one_origin [] one other first second = cc
one_origin (hop ∷ hops) one other first second = sym (eqb-true hop.server one first) ∙ eqb-true hop.server other second

passes : (b : Bool) (fault : Answer) (rest : Option Answer) → IsNone (cond (not b) (Some fault) rest) → b ≡ true
passes true fault rest none = refl
passes false fault rest none = cc

begins_here : (set : Set) (server : ℕ) (request : Request) (program : Option Program) → IsNone (request_fault_in set server request program) →
    is_origin set request.program server ≡ true
begins_here set server request None none = cc
begins_here set server request (Some program) none = passes (is_origin set request.program server) _ _ none

-- requests of one program that may begin do so at one server
same_home : (set : Set) (one other : ℕ) (history before : History) (first second : Request) → MayBegin set one history first → MayBegin set other before second →
    first.program ≡ second.program → one ≡ other
same_home set one other history before first second may too same =
    one_origin (hops_of set second.program) one other
    (subst (λ program. is_origin set program one ≡ true) same (begins_here set one first (program_at set first.program) may.in_order))
    (begins_here set other second (program_at set second.program) too.in_order)

-- an entry may not follow one that records the same call
not_twice : (set : Set) (list : List Placed) (old last : Placed) (before : History) (call : ℕ × ℕ × ℕ) → IsIn old list → call_kept old.entry ≡ Some call →
    call_kept last.entry ≡ Some call → MightBegin set old.server before old.entry → MightBegin set last.server (history_of last.server list) last.entry → ⊥
not_twice set list old last before call there was_it is_it was new =
    let program = same_program (was.request.client, was.request.number, was.request.program) (new.request.client, new.request.number, new.request.program)
    (sym was.call_is ∙ was_it ∙ sym is_it ∙ new.call_is) in
    let home = same_home set old.server last.server before (history_of last.server list) was.request new.request was.may_begin new.may_begin program in
    not_recorded set last.server (history_of last.server list) new.request old.entry new.may_begin (in_history last.server list old there home)
    (number_of_call old.entry call was_it ∙ sym (number_of_call last.entry call is_it) ∙ new.number_is)

one_home_push : (set : Set) (list : List Placed) (last : Placed) → IsLegal set list → MayFollow set list last → OneHomeEach list → OneHomeEach (list ++ last ∷ [])
one_home_push set list last legal may once = different_more (λ (placed : Placed). call_kept placed.entry) list last once (λ call is there.
    let found = place_of_in (λ (placed : Placed). call_kept placed.entry) call list there in
    let in_it = in_place found.1 list found.0 found.2 in
    let stood = stands set list found.1 legal in_it in
    not_twice set list found.1 last (history_of found.1.server stood.before) call in_it found.3 is
    (might_begin set found.1.server (history_of found.1.server stood.before) found.1.entry (call.0, call.1) stood.may_follow.lawful (number_of_call found.1.entry call found.3))
    (might_begin set last.server (history_of last.server list) last.entry (call.0, call.1) may.lawful (number_of_call last.entry call is)))

pub one_home_each : (set : Set) (list : List Placed) → IsLegal set list → OneHomeEach list
one_home_each set list legal =
    legal_induction set OneHomeEach tt (λ before last was once may. one_home_push set before last was may once) list legal
