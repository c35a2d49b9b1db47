-- A begin is answered with few results.
use Rattle.std.proofs.Common.{◌≡◌, ◌≤◌, ℕ, nat_eq, Bool, true, false, not, if◌then◌else◌, length, List, [], ◌∷◌, ◌++◌, Option, Some, None, Ok, Err, refl, ap, ◌∙◌, subst, sym, inl, inr, arith}
use Rattle.lynx_names.specs.declared.limits.TheConstants.{MAX_ACTIONS}
use Rattle.lynx_names.specs.declared.chain.ChainId.{ChainId}
use Rattle.lynx_set.specs.Set.{Set}
use Rattle.lynx_set.specs.Lookups.{program_at}
use Rattle.lynx_set.specs.declared.program.Program.{Program}
use Rattle.lynx_hops.specs.Meaning.{HopOutcome, meaning}
use Rattle.lynx_entry.specs.declared.answer.Answer.{Answer}
use Rattle.lynx_entry.specs.declared.answer.Answer.TheVariants as answers
use Rattle.lynx_entry.specs.declared.entry.Entry.{Entry}
use Rattle.lynx_entry.specs.declared.entry.Entry.TheVariants.{Begun, Refused, Hop as HopRan}
use Rattle.lynx_entry.specs.declared.request.Request.{Request}
use Rattle.lynx_entry.specs.Answers.{HasFewResults}
use Rattle.lynx_entry.specs.Entry.{History}
use Rattle.lynx_rules.specs.Answers.{answer, answer_new, answer_recorded, begun_by, is_busy, is_full, only, recorded_answer, same_call}
use Rattle.lynx_set.specs.Intervals.{are_in_range}
use Rattle.lynx_rules.specs.Checks.{are_keys_placed, request_fault, request_fault_in}
use Rattle.lynx_rules.specs.Lawful.{is_record_of, record_of}
use Rattle.lynx_rules.specs.Tables.{tables_of}
use Rattle.lynx_rules.specs.Visits.{is_origin}
use Rattle.lynx_server.specs.History.{IsLawfulAfter, IsLawfulHistory}
use Rattle.lynx_server.proofs.ResultCounts.{meaning-few}
use Rattle.lynx_server.proofs.Members.{IsIn, found_in}

-- a chain that began in a lawful history has few results
few_recorded : (set : Set) (server : ℕ) (before history : History) (entry : Entry) (request : Request) (chain : ChainId) (stamp : ℕ) (results : List ℕ) (again : Bool) →
    IsLawfulAfter set server before history → IsIn entry history → recorded_answer entry request ≡ answers.Begun chain stamp results again → length results ≤ MAX_ACTIONS
few_recorded set server before [] entry request chain stamp results again lawful never is = absurd never
few_recorded set server before (first ∷ history) entry request chain stamp results again lawful (inr there) is =
    few_recorded set server (before ++ first ∷ []) history entry request chain stamp results again lawful.1 there is
few_recorded set server before (Begun begun ∷ history) entry request chain stamp results again lawful (inl same) is =
    by (same_call begun.request request) (ap (λ e. recorded_answer e request) same ∙ is)
  where
    by : (b : Bool) → (if b then answers.Begun begun.chain begun.stamp begun.results true else answers.Clash) ≡ answers.Begun chain stamp results again → length results ≤ MAX_ACTIONS
    by true told =
        let same_results : begun.results ≡ results = cc in
        subst (λ r. length r ≤ MAX_ACTIONS) same_results
        (meaning-few set begun.request.program 0 begun.request.args [] (tables_of set before) lawful.0.results.0 begun.results lawful.0.results.1)
    by false told = cc
few_recorded set server before (Refused refused ∷ history) entry request chain stamp results again lawful (inl same) is =
    by (same_call refused.request request) (ap (λ e. recorded_answer e request) same ∙ is)
  where
    by : (b : Bool) → (if b then answers.Refused refused.need refused.stamp true else answers.Clash) ≡ answers.Begun chain stamp results again → length results ≤ MAX_ACTIONS
    by true told = cc
    by false told = cc
few_recorded set server before (HopRan ran ∷ history) entry request chain stamp results again lawful (inl same) is =
    let told : answers.Clash ≡ answers.Begun chain stamp results again = ap (λ e. recorded_answer e request) same ∙ is in
    cc

-- a fault of a request begins nothing
no_fault_begins : (set : Set) (server : ℕ) (request : Request) (program : Option Program) (fault : Answer) (chain : ChainId) (stamp : ℕ) (results : List ℕ) (again : Bool) →
    request_fault_in set server request program ≡ Some fault → fault ≡ answers.Begun chain stamp results again → ⊥
no_fault_begins set server request None fault chain stamp results again found is =
    let unknown : answers.UnknownProgram ≡ fault = cc in
    let told = unknown ∙ is in cc
no_fault_begins set server request (Some program) fault chain stamp results again found is =
    by (is_origin set request.program server) (nat_eq (length request.args) program.parameters) (are_in_range program.ranges request.args) (are_keys_placed set request.args program.hops) found
  where
    by : (a b c d : Bool) →
        (if not a then Some answers.WrongOrigin else (if not b then Some answers.ArgCount else (if not c then Some answers.OutsideRange else (if not d then Some answers.WrongShard else None)))) ≡ Some fault → ⊥
    by false b c d told = let same : answers.WrongOrigin ≡ fault = cc in let both = same ∙ is in cc
    by true false c d told = let same : answers.ArgCount ≡ fault = cc in let both = same ∙ is in cc
    by true true false d told = let same : answers.OutsideRange ≡ fault = cc in let both = same ∙ is in cc
    by true true true false told = let same : answers.WrongShard ≡ fault = cc in let both = same ∙ is in cc
    by true true true true told = cc

few_new : (set : Set) (server : ℕ) (history : History) (request : Request) (seen : ℕ) (fault : Option Answer) (chain : ChainId) (stamp : ℕ) (results : List ℕ) (again : Bool) →
    request_fault set server request ≡ fault → (answer_new set server history request seen fault).answer ≡ answers.Begun chain stamp results again → length results ≤ MAX_ACTIONS
few_new set server history request seen (Some fault) chain stamp results again found is =
    absurd (no_fault_begins set server request (program_at set request.program) fault chain stamp results again found is)
few_new set server history request seen None chain stamp results again found is =
    by (is_full history seen) (is_busy set server history) (meaning set request.program 0 request.args [] (tables_of set history)) refl is
  where
    by : (full busy : Bool) (outcome : HopOutcome) → meaning set request.program 0 request.args [] (tables_of set history) ≡ outcome →
        (if full then only answers.Full else (if busy then only answers.Busy else begun_by set server history request seen outcome)).answer ≡ answers.Begun chain stamp results again →
        length results ≤ MAX_ACTIONS
    by true busy outcome means told = cc
    by false true outcome means told = cc
    by false false (Ok outcome) means told =
        let same : outcome.0 ≡ results = cc in
        subst (λ r. length r ≤ MAX_ACTIONS) same
        (meaning-few set request.program 0 request.args [] (tables_of set history) outcome.1 outcome.0 means)
    by false false (Err need) means told = cc

few_answer : (set : Set) (server : ℕ) (history : History) (request : Request) (seen : ℕ) (entry : Option Entry) (chain : ChainId) (stamp : ℕ) (results : List ℕ) (again : Bool) →
    IsLawfulHistory set server history → record_of request history ≡ entry →
    (answer_recorded set server history request seen entry).answer ≡ answers.Begun chain stamp results again → length results ≤ MAX_ACTIONS
few_answer set server history request seen (Some entry) chain stamp results again lawful found is =
    few_recorded set server [] history entry request chain stamp results again lawful (found_in (is_record_of request) history entry found).0 is
few_answer set server history request seen None chain stamp results again lawful found is =
    few_new set server history request seen (request_fault set server request) chain stamp results again refl is

-- a begin of a lawful history is answered with few results
pub few_results : (set : Set) (server : ℕ) (history : History) (request : Request) (seen : ℕ) (chain : ChainId) (stamp : ℕ) (results : List ℕ) (again : Bool) →
    IsLawfulHistory set server history → (answer set server history request seen).answer ≡ answers.Begun chain stamp results again → length results ≤ MAX_ACTIONS
few_results set server history request seen chain stamp results again lawful is =
    few_answer set server history request seen (record_of request history) chain stamp results again lawful refl is

-- .. whatever the answer is
pub few-given : (set : Set) (server : ℕ) (history : History) (request : Request) (seen : ℕ) (given : Answer) → IsLawfulHistory set server history →
    given ≡ (answer set server history request seen).answer → HasFewResults given
few-given set server history request seen (answers.Begun chain stamp results again) lawful is =
    few_results set server history request seen chain stamp results again lawful (sym is)
few-given set server history request seen answers.Clash lawful is = omega arith
few-given set server history request seen answers.UnknownProgram lawful is = omega arith
few-given set server history request seen answers.WrongOrigin lawful is = omega arith
few-given set server history request seen answers.ArgCount lawful is = omega arith
few-given set server history request seen answers.OutsideRange lawful is = omega arith
few-given set server history request seen answers.WrongShard lawful is = omega arith
few-given set server history request seen answers.Full lawful is = omega arith
few-given set server history request seen answers.Busy lawful is = omega arith
few-given set server history request seen (answers.Refused need stamp again) lawful is = omega arith
few-given set server history request seen answers.Stopped lawful is = omega arith
few-given set server history request seen answers.Memory lawful is = omega arith
