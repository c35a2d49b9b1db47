-- What a server answers, and what a look finds at it, has an encoding.
use Rattle.std.proofs.Common.{◌≡◌, ℕ, nat_eq, Bool, true, false, not, if◌then◌else◌, length, [], ◌∷◌, ◌++◌, Option, Some, None, Result, Ok, Err, IfOk, refl, subst, sym, inl, inr}
use Rattle.lynx_names.specs.declared.chain.ChainId.{ChainId}
use Rattle.lynx_set.specs.Set.{Set}
use Rattle.lynx_set.specs.Lookups.{program_at}
use Rattle.lynx_set.specs.Intervals.{are_in_range}
use Rattle.lynx_set.specs.declared.program.Program.{Program}
use Rattle.lynx_hops.specs.Meaning.{HopOutcome, meaning}
use Rattle.lynx_entry.specs.declared.answer.Answer.{Answer}
use Rattle.lynx_entry.specs.declared.answer.Answer.TheVariants as answers
use Rattle.lynx_entry.specs.declared.entry.Entry.{Entry}
use Rattle.lynx_entry.specs.declared.entry.Entry.TheVariants.{Begun, Refused, Hop as HopRan}
use Rattle.lynx_entry.specs.declared.request.Request.{Request}
use Rattle.lynx_entry.specs.Entry.{History}
use Rattle.lynx_codec.specs.declared.item.Looked.{Looked}
use Rattle.lynx_names.specs.declared.memory.Memory.{Memory}
use Rattle.lynx_codec.specs.Ranges.{IsAnswerInRange, IsLookedInRange}
use Rattle.lynx_rules.specs.Answers.{answer, answer_new, answer_recorded, begun_by, is_busy, is_full, only, recorded_answer, same_call}
use Rattle.lynx_rules.specs.Checks.{are_keys_placed, request_fault, request_fault_in}
use Rattle.lynx_rules.specs.Lawful.{is_record_of, record_of}
use Rattle.lynx_rules.specs.Tables.{tables_of}
use Rattle.lynx_rules.specs.Visits.{is_origin}
use Rattle.lynx_server.specs.Acts.{act_of, is_act}
use Rattle.lynx_keep.specs.Kept.{Terms}
use Rattle.lynx_server.specs.History.{IsLawfulAfter, IsLawfulHistory}
use Rattle.lynx_server.specs.Serving.{Begins, Serving}
use Rattle.lynx_server.proofs.ResultCounts.{meaning-few, meaning-need}
use Rattle.lynx_server.proofs.Members.{IsIn, found_in}
use Rattle.lynx_cluster.specs.Looks.{looked_at}

-- ---- answers

-- what a lawful history records is answered in range
recorded-in_range : (set : Set) (server : ℕ) (before history : History) (entry : Entry) (request : Request) →
    IsLawfulAfter set server before history → IsIn entry history → IsAnswerInRange (recorded_answer entry request)
recorded-in_range set server before [] entry request lawful never = absurd never
recorded-in_range set server before (first ∷ history) entry request lawful (inr there) =
    recorded-in_range set server (before ++ first ∷ []) history entry request lawful.1 there
recorded-in_range set server before (Begun begun ∷ history) entry request lawful (inl same) =
    subst (λ e. IsAnswerInRange (recorded_answer e request)) same (by (same_call begun.request request))
  where
    by : (b : Bool) → IsAnswerInRange (if b then answers.Begun begun.chain begun.stamp begun.results true else answers.Clash)
    by true = meaning-few set begun.request.program 0 begun.request.args [] (tables_of set before) lawful.0.results.0 begun.results lawful.0.results.1
    by false = tt
recorded-in_range set server before (Refused refused ∷ history) entry request lawful (inl same) =
    subst (λ e. IsAnswerInRange (recorded_answer e request)) same (by (same_call refused.request request))
  where
    by : (b : Bool) → IsAnswerInRange (if b then answers.Refused refused.need refused.stamp true else answers.Clash)
    by true = meaning-need set refused.request.program 0 refused.request.args [] (tables_of set before) refused.need lawful.0.need
    by false = tt
recorded-in_range set server before (HopRan ran ∷ history) entry request lawful (inl same) =
    subst (λ e. IsAnswerInRange (recorded_answer e request)) same tt

-- so is what is wrong with a request
fault-in_range : (set : Set) (server : ℕ) (request : Request) (program : Option Program) (fault : Answer) →
    request_fault_in set server request program ≡ Some fault → IsAnswerInRange fault
fault-in_range set server request None fault found =
    let unknown : answers.UnknownProgram ≡ fault = cc in
    subst IsAnswerInRange unknown tt
fault-in_range set server request (Some program) fault found =
    by (is_origin set request.program server) (nat_eq (length request.args) program.parameters) (are_in_range program.ranges request.args) (are_keys_placed set request.args program.hops) found
  where
    by : (a b c d : Bool) →
        (if not a then Some answers.WrongOrigin else (if not b then Some answers.ArgCount else (if not c then Some answers.OutsideRange else (if not d then Some answers.WrongShard else None)))) ≡ Some fault → IsAnswerInRange fault
    by false b c d told = let same : answers.WrongOrigin ≡ fault = cc in subst IsAnswerInRange same tt
    by true false c d told = let same : answers.ArgCount ≡ fault = cc in subst IsAnswerInRange same tt
    by true true false d told = let same : answers.OutsideRange ≡ fault = cc in subst IsAnswerInRange same tt
    by true true true false told = let same : answers.WrongShard ≡ fault = cc in subst IsAnswerInRange same tt
    by true true true true told = absurd cc

-- and so is a new request
new-in_range : (set : Set) (server : ℕ) (history : History) (request : Request) (seen : ℕ) (fault : Option Answer) →
    request_fault set server request ≡ fault → IsAnswerInRange (answer_new set server history request seen fault).answer
new-in_range set server history request seen (Some fault) found =
    fault-in_range set server request (program_at set request.program) fault found
new-in_range set server history request seen None found =
    by (is_full history seen) (is_busy set server history) (meaning set request.program 0 request.args [] (tables_of set history)) refl
  where
    by : (full busy : Bool) (outcome : HopOutcome) → meaning set request.program 0 request.args [] (tables_of set history) ≡ outcome →
        IsAnswerInRange (if full then only answers.Full else (if busy then only answers.Busy else begun_by set server history request seen outcome)).answer
    by true busy outcome means = tt
    by false true outcome means = tt
    by false false (Ok outcome) means =
        meaning-few set request.program 0 request.args [] (tables_of set history) outcome.1 outcome.0 means
    by false false (Err need) means =
        meaning-need set request.program 0 request.args [] (tables_of set history) need means

of_record-in_range : (set : Set) (server : ℕ) (history : History) (request : Request) (seen : ℕ) (entry : Option Entry) →
    IsLawfulHistory set server history → record_of request history ≡ entry →
    IsAnswerInRange (answer_recorded set server history request seen entry).answer
of_record-in_range set server history request seen (Some entry) lawful found =
    recorded-in_range set server [] history entry request lawful (found_in (is_record_of request) history entry found).0
of_record-in_range set server history request seen None lawful found =
    new-in_range set server history request seen (request_fault set server request) refl

-- a begin of a lawful history is answered in range
answer-in_range : (set : Set) (server : ℕ) (history : History) (request : Request) (seen : ℕ) →
    IsLawfulHistory set server history → IsAnswerInRange (answer set server history request seen).answer
answer-in_range set server history request seen lawful =
    of_record-in_range set server history request seen (record_of request history) lawful refl

given-in_range : (set : Set) (server : ℕ) (history : History) (request : Request) (seen : ℕ) (given : Answer) →
    IsLawfulHistory set server history → given ≡ (answer set server history request seen).answer → IsAnswerInRange given
given-in_range set server history request seen given lawful is =
    subst IsAnswerInRange (sym is) (answer-in_range set server history request seen lawful)

-- ---- looks

act-in_range : (set : Set) (server : ℕ) (before history : History) (entry : Entry) →
    IsLawfulAfter set server before history → IsIn entry history → IsLookedInRange (looked_at (Some entry))
act-in_range set server before [] entry lawful never = absurd never
act-in_range set server before (first ∷ history) entry lawful (inr there) =
    act-in_range set server (before ++ first ∷ []) history entry lawful.1 there
act-in_range set server before (Begun begun ∷ history) entry lawful (inl same) =
    subst (λ e. IsLookedInRange (looked_at (Some e))) same
    (meaning-few set begun.request.program 0 begun.request.args [] (tables_of set before) lawful.0.results.0 begun.results lawful.0.results.1)
act-in_range set server before (Refused refused ∷ history) entry lawful (inl same) =
    subst (λ e. IsLookedInRange (looked_at (Some e))) same tt
act-in_range set server before (HopRan ran ∷ history) entry lawful (inl same) =
    subst (λ e. IsLookedInRange (looked_at (Some e))) same
    (meaning-few set ran.message.program ran.message.hop ran.message.args ran.message.results (tables_of set before) lawful.0.results.0 ran.results lawful.0.results.1)

-- a look at a lawful history finds what is in range
pub looked-in_range : (set : Set) (server : ℕ) (history : History) (chain : ChainId) (hop : ℕ) →
    IsLawfulHistory set server history → IsLookedInRange (looked_at (act_of chain hop history))
looked-in_range set server history chain hop lawful = by (act_of chain hop history) refl
  where
    by : (o : Option Entry) → act_of chain hop history ≡ o → IsLookedInRange (looked_at o)
    by None found = tt
    by (Some entry) found = act-in_range set server [] history entry lawful (found_in (is_act chain hop) history entry found).0

-- what is found so is in range
pub found-in_range : (looked : Result Looked Memory) (is : Looked) → IfOk looked (λ found. found ≡ is) → IsLookedInRange is → IfOk looked IsLookedInRange
found-in_range (Ok found) is same range = subst IsLookedInRange (sym same) range
found-in_range (Err wanting) is same range = tt

-- ---- servers that were asked

-- whatever a server that runs answers is in range
begins-in_range : {K : Type 0} (terms : Terms K) (old : Serving K) (request : Request) (seen : ℕ) (given : Answer) (new : Serving K) →
    IsLawfulHistory old.set old.server old.history → Begins terms old request seen given new → IsAnswerInRange given
begins-in_range terms old request seen answers.Memory new lawful is = tt
begins-in_range terms old request seen answers.Stopped new lawful is = tt
begins-in_range terms old request seen (answers.Begun chain stamp results again) new lawful is = given-in_range old.set old.server old.history request seen _ lawful is.answer_is
begins-in_range terms old request seen (answers.Refused need stamp again) new lawful is = given-in_range old.set old.server old.history request seen _ lawful is.answer_is
begins-in_range terms old request seen answers.Clash new lawful is = tt
begins-in_range terms old request seen answers.UnknownProgram new lawful is = tt
begins-in_range terms old request seen answers.WrongOrigin new lawful is = tt
begins-in_range terms old request seen answers.ArgCount new lawful is = tt
begins-in_range terms old request seen answers.OutsideRange new lawful is = tt
begins-in_range terms old request seen answers.WrongShard new lawful is = tt
begins-in_range terms old request seen answers.Full new lawful is = tt
begins-in_range terms old request seen answers.Busy new lawful is = tt

-- and so is what one answers that was asked
pub asked-in_range : {K : Type 0} (terms : Terms K) (old : Serving K) (request : Request) (seen : ℕ) (given : Answer) (new : Serving K) →
    IsLawfulHistory old.set old.server old.history → (old.is_stopped ≡ true → (given ≡ answers.Stopped) × (new ≡ old)) →
    (old.is_stopped ≡ false → Begins terms old request seen given new) → IsAnswerInRange given
asked-in_range terms old request seen given new lawful stopped begins = by old.is_stopped refl
  where
    by : (b : Bool) → old.is_stopped ≡ b → IsAnswerInRange given
    by true is = subst IsAnswerInRange (sym (stopped is).0) tt
    by false is = begins-in_range terms old request seen given new lawful (begins is)
