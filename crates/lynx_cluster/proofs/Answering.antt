-- What a server's answer says of its request.
use Rattle.std.proofs.Common.{◌≡◌, ◌&&◌, ℕ, Bool, true, false, not, nat_eq, length, List, [], ◌∷◌, ◌++◌, Option, Some, None, IsNone, Ok, Err, inl, inr, refl, sym, subst, arith}
use Rattle.std.proofs.lemmas.Bool.{eqb-true}
use Rattle.std.proofs.lemmas.Slice.Eq.{bytes_eq-Decides}
use Rattle.std.specs.Cmp.Lexicographic.{pointwise}
use Rattle.std.specs.Prelude.{if◌then◌else◌}
use Rattle.lynx_entry.specs.declared.answer.Answer.{Answer}
use Rattle.lynx_entry.specs.declared.answer.Answer.TheVariants as answers
use Rattle.lynx_entry.specs.declared.entry.BegunEntry.{BegunEntry}
use Rattle.lynx_entry.specs.declared.entry.RefusedEntry.{RefusedEntry}
use Rattle.lynx_entry.specs.declared.entry.Entry.{Entry}
use Rattle.lynx_entry.specs.declared.entry.Entry.TheVariants.{Begun, Refused, Hop}
use Rattle.lynx_entry.specs.declared.request.Request.{Request}
use Rattle.lynx_entry.specs.Entry.{History}
use Rattle.lynx_hops.specs.Meaning.{HopOutcome, meaning}
use Rattle.lynx_keep.specs.Kept.{Terms}
use Rattle.lynx_rules.specs.Answers.{answer, answer_new, answer_recorded, begun_by, is_busy, is_full, only, recorded_answer, same_call}
use Rattle.lynx_rules.specs.Checks.{are_keys_placed, request_fault, request_fault_in}
use Rattle.lynx_rules.specs.Lawful.{IsLawfulBegun, IsLawfulRefused, is_record_of, record_of}
use Rattle.lynx_rules.specs.Tables.{tables_of}
use Rattle.lynx_rules.specs.Visits.{is_origin}
use Rattle.lynx_server.specs.History.{IsLawfulAfter, IsLawfulHistory}
use Rattle.lynx_server.specs.Serving.{Begins, Serving}
use Rattle.lynx_server.proofs.Members.{IsIn, found_in}
use Rattle.lynx_server.proofs.Returning.{busy_returns}
use Rattle.lynx_set.specs.declared.program.Program.{Program}
use Rattle.lynx_set.specs.Intervals.{are_in_range}
use Rattle.lynx_set.specs.Set.{Set}
use Rattle.lynx_cluster.specs.Answers.{FitsBegun, FitsRefused, FitsRequest, IsAbove}

-- one of the faults of requests
abbrev IsFault : Answer → Type 0
IsFault answers.UnknownProgram = Unit {0}
IsFault answers.WrongOrigin = Unit {0}
IsFault answers.ArgCount = Unit {0}
IsFault answers.OutsideRange = Unit {0}
IsFault answers.WrongShard = Unit {0}
IsFault given = ⊥

-- a request is at fault by one of them
fault_is : (set : Set) (server : ℕ) (request : Request) (program : Option Program) (fault : Answer) →
    request_fault_in set server request program ≡ Some fault → IsFault fault
fault_is set server request None fault found =
    let same : answers.UnknownProgram ≡ fault = cc in subst IsFault same tt
fault_is set server request (Some program) fault found =
    by (is_origin set request.program server) (nat_eq (length request.args) program.parameters) (are_in_range program.ranges request.args) (are_keys_placed set request.args program.hops) found
  where
    by : (a b c d : Bool) →
        (if not a then Some answers.WrongOrigin else (if not b then Some answers.ArgCount else (if not c then Some answers.OutsideRange else (if not d then Some answers.WrongShard else None)))) ≡ Some fault → IsFault fault
    by false b c d told = let same : answers.WrongOrigin ≡ fault = cc in subst IsFault same tt
    by true false c d told = let same : answers.ArgCount ≡ fault = cc in subst IsFault same tt
    by true true false d told = let same : answers.OutsideRange ≡ fault = cc in subst IsFault same tt
    by true true true false told = let same : answers.WrongShard ≡ fault = cc in subst IsFault same tt
    by true true true true told = cc

-- a fault is answered where the request has it
fault_fits : (set : Set) (server : ℕ) (request : Request) (fault : Answer) → IsFault fault → request_fault set server request ≡ Some fault → FitsRequest set server request fault
fault_fits set server request answers.UnknownProgram is found = found
fault_fits set server request answers.WrongOrigin is found = found
fault_fits set server request answers.ArgCount is found = found
fault_fits set server request answers.OutsideRange is found = found
fault_fits set server request answers.WrongShard is found = found
fault_fits set server request (answers.Begun chain stamp results again) is found = absurd is
fault_fits set server request (answers.Refused need stamp again) is found = absurd is
fault_fits set server request answers.Clash is found = absurd is
fault_fits set server request answers.Full is found = absurd is
fault_fits set server request answers.Busy is found = absurd is
fault_fits set server request answers.Stopped is found = absurd is
fault_fits set server request answers.Memory is found = absurd is

fault_above : (seen : ℕ) (fault : Answer) → IsFault fault → IsAbove seen fault
fault_above seen answers.UnknownProgram is = tt
fault_above seen answers.WrongOrigin is = tt
fault_above seen answers.ArgCount is = tt
fault_above seen answers.OutsideRange is = tt
fault_above seen answers.WrongShard is = tt
fault_above seen (answers.Begun chain stamp results again) is = absurd is
fault_above seen (answers.Refused need stamp again) is = absurd is
fault_above seen answers.Clash is = absurd is
fault_above seen answers.Full is = absurd is
fault_above seen answers.Busy is = absurd is
fault_above seen answers.Stopped is = absurd is
fault_above seen answers.Memory is = absurd is

-- an answer is above what was seen, and fits its request
record IsFair (set : Set) (server : ℕ) (request : Request) (seen : ℕ) (given : Answer) : Type 0 where
  above : IsAbove seen given
  fits : FitsRequest set server request given

-- ---- what is answered from the record

none_is : {X : Type 0} (o : Option X) → IsNone o → o ≡ None
none_is None is = refl
none_is (Some x) is = cc

-- equal calls have the same faults, and come to the same
record IsSameCall (left right : Request) : Type 0 where
  programs : left.program ≡ right.program
  arguments : left.args ≡ right.args

same_call_is : (left right : Request) → same_call left right ≡ true → IsSameCall left right
same_call_is left right is = by (nat_eq left.program right.program) refl is
  where
    by : (b : Bool) → nat_eq left.program right.program ≡ b → (b && pointwise nat_eq left.args right.args) ≡ true → IsSameCall left right
    by true same rest = record { programs = eqb-true _ _ same; arguments = (bytes_eq-Decides left.args right.args).0 rest }
    by false apart rest = cc

-- what holds of one call holds of the other
carried : (P : ℕ → List ℕ → Type 0) (left right : Request) → IsSameCall left right → P left.program left.args → P right.program right.args
carried P left right same holds =
    subst (λ (args : List ℕ). P right.program args) same.arguments (subst (λ (program : ℕ). P program left.args) same.programs holds)

-- nothing is wrong with a call of that program and these arguments
abbrev IsInOrder : Set → ℕ → Request → ℕ → List ℕ → Type 0
IsInOrder set server request program args = request_fault set server (record request { program = program; args = args }) ≡ None

begun_again_fits : (set : Set) (server : ℕ) (before : History) (begun : BegunEntry) (request : Request) → IsLawfulBegun set server before begun → IsSameCall begun.request request →
    FitsBegun set server request begun.chain begun.results
begun_again_fits set server before begun request lawful same = record {
  in_order = carried (IsInOrder set server request) begun.request request same (none_is _ lawful.may_begin.in_order);
  of_server = lawful.origin;
  before = tables_of set before;
  after = lawful.results.0;
  gives = carried (λ program args. meaning set program 0 args [] (tables_of set before) ≡ Ok (begun.results, lawful.results.0)) begun.request request same lawful.results.1;
}

refused_again_fits : (set : Set) (server : ℕ) (before : History) (refused : RefusedEntry) (request : Request) → IsLawfulRefused set server before refused →
    IsSameCall refused.request request → FitsRefused set server request refused.need
refused_again_fits set server before refused request lawful same = record {
  in_order = carried (IsInOrder set server request) refused.request request same (none_is _ lawful.may_begin.in_order);
  before = tables_of set before;
  refuses = carried (λ program args. meaning set program 0 args [] (tables_of set before) ≡ Err refused.need) refused.request request same lawful.need;
}

-- what a lawful history records isn't fresh, and fits the request
recorded_fair : (set : Set) (server : ℕ) (before history : History) (entry : Entry) (request : Request) (seen : ℕ) → IsLawfulAfter set server before history →
    IsIn entry history → IsFair set server request seen (recorded_answer entry request)
recorded_fair set server before [] entry request seen lawful never = absurd never
recorded_fair set server before (first ∷ history) entry request seen lawful (inr there) =
    recorded_fair set server (before ++ first ∷ []) history entry request seen lawful.1 there
recorded_fair set server before (Begun begun ∷ history) entry request seen lawful (inl same) =
    subst (λ e. IsFair set server request seen (recorded_answer e request)) same (by (same_call begun.request request) refl)
  where
    by : (b : Bool) → same_call begun.request request ≡ b →
        IsFair set server request seen (if b then answers.Begun begun.chain begun.stamp begun.results true else answers.Clash)
    by true is = record { above = λ never. cc; fits = begun_again_fits set server before begun request lawful.0 (same_call_is begun.request request is) }
    by false is = record { above = tt; fits = tt }
recorded_fair set server before (Refused refused ∷ history) entry request seen lawful (inl same) =
    subst (λ e. IsFair set server request seen (recorded_answer e request)) same (by (same_call refused.request request) refl)
  where
    by : (b : Bool) → same_call refused.request request ≡ b →
        IsFair set server request seen (if b then answers.Refused refused.need refused.stamp true else answers.Clash)
    by true is = record { above = λ never. cc; fits = refused_again_fits set server before refused request lawful.0 (same_call_is refused.request request is) }
    by false is = record { above = tt; fits = tt }
recorded_fair set server before (Hop ran ∷ history) entry request seen lawful (inl same) =
    subst (λ e. IsFair set server request seen (recorded_answer e request)) same (record { above = tt; fits = tt })

-- ---- what is answered anew

new_fair : (set : Set) (server : ℕ) (history : History) (request : Request) (seen : ℕ) (fault : Option Answer) → IsLawfulHistory set server history →
    request_fault set server request ≡ fault → IsFair set server request seen (answer_new set server history request seen fault).answer
new_fair set server history request seen (Some fault) lawful found =
    let is = fault_is set server request _ fault found in
    record { above = fault_above seen fault is; fits = fault_fits set server request fault is found }
new_fair set server history request seen None lawful found =
    by (is_full history seen) (is_busy set server history) (meaning set request.program 0 request.args [] (tables_of set history)) refl refl
  where
    by : (full busy : Bool) (outcome : HopOutcome) → is_busy set server history ≡ busy →
        meaning set request.program 0 request.args [] (tables_of set history) ≡ outcome →
        IsFair set server request seen (if full then only answers.Full else (if busy then only answers.Busy else begun_by set server history request seen outcome)).answer
    by true busy outcome is means = record { above = tt; fits = found }
    by false true outcome is means = record { above = tt; fits = (found, busy_returns set server history lawful is) }
    by false false (Ok outcome) is means = record {
      above = λ fresh. omega arith;
      fits = record { in_order = found; of_server = refl; before = tables_of set history; after = outcome.1; gives = means };
    }
    by false false (Err need) is means = record {
      above = λ fresh. omega arith;
      fits = record { in_order = found; before = tables_of set history; refuses = means };
    }

answer_fair : (set : Set) (server : ℕ) (history : History) (request : Request) (seen : ℕ) (entry : Option Entry) → IsLawfulHistory set server history →
    record_of request history ≡ entry → IsFair set server request seen (answer_recorded set server history request seen entry).answer
answer_fair set server history request seen (Some entry) lawful recorded =
    recorded_fair set server [] history entry request seen lawful (found_in (is_record_of request) history entry recorded).0
answer_fair set server history request seen None lawful recorded = new_fair set server history request seen (request_fault set server request) lawful refl

given_fair : (set : Set) (server : ℕ) (history : History) (request : Request) (seen : ℕ) (given : Answer) → IsLawfulHistory set server history →
    given ≡ (answer set server history request seen).answer → IsFair set server request seen given
given_fair set server history request seen given lawful is =
    subst (IsFair set server request seen) (sym is) (answer_fair set server history request seen (record_of request history) lawful refl)

-- so is whatever a server answers that runs
begins_fair : {K : Type 0} (terms : Terms K) (old : Serving K) (request : Request) (seen : ℕ) (given : Answer) (new : Serving K) →
    IsLawfulHistory old.set old.server old.history → Begins terms old request seen given new → IsFair old.set old.server request seen given
begins_fair terms old request seen answers.Memory new lawful is = record { above = tt; fits = tt }
begins_fair terms old request seen answers.Stopped new lawful is = record { above = tt; fits = tt }
begins_fair terms old request seen (answers.Begun chain stamp results again) new lawful is = given_fair old.set old.server old.history request seen _ lawful is.answer_is
begins_fair terms old request seen (answers.Refused need stamp again) new lawful is = given_fair old.set old.server old.history request seen _ lawful is.answer_is
begins_fair terms old request seen answers.Clash new lawful is = given_fair old.set old.server old.history request seen _ lawful is.answer_is
begins_fair terms old request seen answers.UnknownProgram new lawful is = given_fair old.set old.server old.history request seen _ lawful is.answer_is
begins_fair terms old request seen answers.WrongOrigin new lawful is = given_fair old.set old.server old.history request seen _ lawful is.answer_is
begins_fair terms old request seen answers.ArgCount new lawful is = given_fair old.set old.server old.history request seen _ lawful is.answer_is
begins_fair terms old request seen answers.OutsideRange new lawful is = given_fair old.set old.server old.history request seen _ lawful is.answer_is
begins_fair terms old request seen answers.WrongShard new lawful is = given_fair old.set old.server old.history request seen _ lawful is.answer_is
begins_fair terms old request seen answers.Full new lawful is = given_fair old.set old.server old.history request seen _ lawful is.answer_is
begins_fair terms old request seen answers.Busy new lawful is = given_fair old.set old.server old.history request seen _ lawful is.answer_is

-- .. and whatever one answers that was asked
asked_fair : {K : Type 0} (terms : Terms K) (old : Serving K) (request : Request) (seen : ℕ) (given : Answer) (new : Serving K) →
    IsLawfulHistory old.set old.server old.history → (old.is_stopped ≡ true → (given ≡ answers.Stopped) × (new ≡ old)) →
    (old.is_stopped ≡ false → Begins terms old request seen given new) → IsFair old.set old.server request seen given
asked_fair terms old request seen given new lawful stopped begins = by old.is_stopped refl
  where
    by : (b : Bool) → old.is_stopped ≡ b → IsFair old.set old.server request seen given
    by true is = subst (IsFair old.set old.server request seen) (sym (stopped is).0) (record { above = tt; fits = tt })
    by false is = begins_fair terms old request seen given new lawful (begins is)

pub asked_above : {K : Type 0} (terms : Terms K) (old : Serving K) (request : Request) (seen : ℕ) (given : Answer) (new : Serving K) →
    IsLawfulHistory old.set old.server old.history → (old.is_stopped ≡ true → (given ≡ answers.Stopped) × (new ≡ old)) →
    (old.is_stopped ≡ false → Begins terms old request seen given new) → IsAbove seen given
asked_above terms old request seen given new lawful stopped begins = (asked_fair terms old request seen given new lawful stopped begins).above

pub asked_fits : {K : Type 0} (terms : Terms K) (old : Serving K) (request : Request) (seen : ℕ) (given : Answer) (new : Serving K) →
    IsLawfulHistory old.set old.server old.history → (old.is_stopped ≡ true → (given ≡ answers.Stopped) × (new ≡ old)) →
    (old.is_stopped ≡ false → Begins terms old request seen given new) → FitsRequest old.set old.server request given
asked_fits terms old request seen given new lawful stopped begins = (asked_fair terms old request seen given new lawful stopped begins).fits
