-- What a session is told of requests that it began at one server.
use Rattle.std.proofs.Common.{◌≡◌, ◌==◌, ◌&&◌, ◌+◌, ◌++◌, ◌∷◌, ◌<◌, ◌≤◌, [], ℕ, nat_eq, not, zero, suc, Bool, true, false, List, max, length, append_assoc, inl, inr, refl, sym, ap, subst, ◌∙◌, arith}
use Rattle.std.specs.Prelude.{if◌then◌else◌}
use Rattle.std.specs.Bool.{Decides}
use Rattle.std.specs.Cmp.Lexicographic.{pointwise, pointwise_decides}
use Rattle.std.proofs.lemmas.Bool.Decides.{Decides-and, Decides-eqb}
use Rattle.std.proofs.Math.Nat.{max-zero}
use Rattle.std.proofs.lemmas.List.{append-nil}
use Rattle.std.proofs.lemmas.List.Sums.{fold-append}
use Rattle.lynx_codec.specs.Ranges.{IsAnswerInRange}
use Rattle.lynx_entry.specs.Answers.{HasFewResults}
use Rattle.lynx_entry.specs.declared.answer.Answer.{Answer}
use Rattle.lynx_entry.specs.declared.answer.Answer.TheVariants as answers
use Rattle.lynx_entry.specs.declared.request.Request.{Request}
use Rattle.lynx_set.specs.Set.{Set}
use Rattle.lynx_weave.specs.declared.told.ToldItem.{ToldItem}
use Rattle.lynx_weave.specs.declared.told.ToldItem.TheVariants.{Answered}
use Rattle.lynx_weave.specs.Told.{greatest_told, is_noted, stamp_answered, stamp_told, told_by}
use Rattle.lynx_cluster.specs.Answers.{FitsRequest}
use Rattle.lynx_cluster.specs.Calls.{AnswersBegin, AnswersBeginAll}
use Rattle.lynx_cluster.specs.Clusters.{home_of}
use Rattle.lynx_cluster.specs.inner.Submitting.{AreFew, AreFit, BeginAt, IsFit, seen_after, told_by_all, unanswered}
use Rattle.lynx_cluster.specs.inner.Together.{BeginsLeading}
use Rattle.lynx_cluster.specs.Sessions.{SessionState}

pub same_session : (one other : SessionState) → one.number ≡ other.number → one.told ≡ other.told → one ≡ other
same_session one other number told = λ i. record { number = number i; told = told i }

-- ---- what an answer raises

greater_of : ℕ → ToldItem → ℕ
greater_of greatest item = max greatest (stamp_told item)

noted_seen : (told : List ToldItem) (server : ℕ) (request : Request) (answer : Answer) →
    greatest_told (told ++ Answered server request answer ∷ []) ≡ max (greatest_told told) (stamp_answered answer)
noted_seen told server request answer = fold-append (λ greatest item. max greatest (stamp_told item)) 0 told (Answered server request answer ∷ [])

unnoted_seen : (told : List ToldItem) → greatest_told (told ++ []) ≡ max (greatest_told told) 0
unnoted_seen told = ap greatest_told (append-nil told) ∙ sym (max-zero (greatest_told told))

pub told_seen : (told : List ToldItem) (server : ℕ) (request : Request) (answer : Answer) →
    greatest_told (told ++ told_by server request answer) ≡ max (greatest_told told) (stamp_answered answer)
told_seen told server request (answers.Begun chain stamp results again) = noted_seen told server request (answers.Begun chain stamp results again)
told_seen told server request (answers.Refused need stamp again) = noted_seen told server request (answers.Refused need stamp again)
told_seen told server request answers.Clash = noted_seen told server request answers.Clash
told_seen told server request answers.Full = noted_seen told server request answers.Full
told_seen told server request answers.UnknownProgram = unnoted_seen told
told_seen told server request answers.WrongOrigin = unnoted_seen told
told_seen told server request answers.ArgCount = unnoted_seen told
told_seen told server request answers.OutsideRange = unnoted_seen told
told_seen told server request answers.WrongShard = unnoted_seen told
told_seen told server request answers.Busy = unnoted_seen told
told_seen told server request answers.Stopped = unnoted_seen told
told_seen told server request answers.Memory = unnoted_seen told

pub all_seen : (server : ℕ) (requests : List Request) (given : List Answer) (told : List ToldItem) → length given ≡ length requests →
    seen_after (greatest_told told) given ≡ greatest_told (told ++ told_by_all server requests given)
all_seen server [] [] told same = ap greatest_told (sym (append-nil told))
all_seen server [] (answer ∷ given) told same = cc
all_seen server (request ∷ requests) [] told same = cc
all_seen server (request ∷ requests) (answer ∷ given) told same =
    let one = told_by server request answer in
    ap (λ (seen : ℕ). seen_after seen given) (sym (told_seen told server request answer)) ∙ all_seen server requests given (told ++ one) (omega (arith, same))
    ∙ ap greatest_told (append_assoc told one (told_by_all server requests given))

-- ---- answers that fit

range_few : (answer : Answer) → IsAnswerInRange answer → HasFewResults answer
range_few (answers.Begun chain stamp results again) range = range
range_few (answers.Refused need stamp again) range = omega arith
range_few answers.Clash range = omega arith
range_few answers.Full range = omega arith
range_few answers.UnknownProgram range = omega arith
range_few answers.WrongOrigin range = omega arith
range_few answers.ArgCount range = omega arith
range_few answers.OutsideRange range = omega arith
range_few answers.WrongShard range = omega arith
range_few answers.Busy range = omega arith
range_few answers.Stopped range = omega arith
range_few answers.Memory range = omega arith

pub fit_few : (set : Set) (server seen : ℕ) (requests : List Request) (given : List Answer) → AreFit set server seen requests given → AreFew given
fit_few set server seen requests [] fit = tt
fit_few set server seen [] (answer ∷ given) fit = absurd fit
fit_few set server seen (request ∷ requests) (answer ∷ given) fit =
    (range_few answer fit.0.range, fit_few set server (max seen (stamp_answered answer)) requests given fit.1)

-- one more answer
pub fit_next : (set : Set) (server seen : ℕ) (requests : List Request) (given : List Answer) (request : Request) (answer : Answer) → length given ≡ length requests →
    AreFit set server seen requests given → IsFit set server (seen_after seen given) request answer → AreFit set server seen (requests ++ request ∷ []) (given ++ answer ∷ [])
fit_next set server seen [] [] request answer same fit one = (one, tt)
fit_next set server seen [] (g ∷ given) request answer same fit one = absurd fit
fit_next set server seen (r ∷ requests) [] request answer same fit one = cc
fit_next set server seen (r ∷ requests) (g ∷ given) request answer same fit one =
    (fit.0, fit_next set server (max seen (stamp_answered g)) requests given request answer (omega (arith, same)) fit.1 one)

pub seen_next : (seen : ℕ) (given : List Answer) (answer : Answer) → seen_after seen (given ++ answer ∷ []) ≡ max (seen_after seen given) (stamp_answered answer)
seen_next seen [] answer = refl
seen_next seen (g ∷ given) answer = seen_next (max seen (stamp_answered g)) given answer

-- ---- what a session is told

fit_begins : (set : Set) (server : ℕ) (old new : SessionState) (request : Request) (answer : Answer) → home_of set request ≡ server →
    IsFit set server (greatest_told old.told) request answer → new ≡ record old { told = old.told ++ told_by server request answer } → AnswersBegin set old request answer new
fit_begins set server old new request answer home fit told = record {
  told = told ∙ ap (λ (s : ℕ). record old { told = old.told ++ told_by s request answer }) (sym home);
  above = fit.above;
  fits = subst (λ (s : ℕ). FitsRequest set s request answer) (sym home) fit.fits;
  range = fit.range;
}

pub fit_begin_all : (set : Set) (server : ℕ) (old new : SessionState) (requests : List Request) (given : List Answer) → BeginAt set server requests →
    length given ≡ length requests → AreFit set server (greatest_told old.told) requests given →
    new ≡ record old { told = old.told ++ told_by_all server requests given } → AnswersBeginAll set old requests given new
fit_begin_all set server old new [] [] home same fit told = told ∙ same_session (record old { told = old.told ++ [] }) old refl (append-nil old.told)
fit_begin_all set server old new [] (answer ∷ given) home same fit told = absurd fit
fit_begin_all set server old new (request ∷ requests) [] home same fit told = cc
fit_begin_all set server old new (request ∷ requests) (answer ∷ given) home same fit told =
    let one = told_by server request answer in
    let next : SessionState = record old { told = old.told ++ one } in (
      next,
      fit_begins set server old next request answer home.0 fit.0 refl,
      fit_begin_all set server next new requests given home.1 (omega (arith, same))
          (subst (λ (seen : ℕ). AreFit set server seen requests given) (sym (told_seen old.told server request answer)) fit.1)
          (told ∙ same_session (record old { told = old.told ++ told_by_all server (request ∷ requests) (answer ∷ given) })
          (record next { told = next.told ++ told_by_all server requests given }) refl (sym (append_assoc old.told one (told_by_all server requests given)))),
    )

-- a begin that nobody answers
pub unasked : (set : Set) (request : Request) (old : SessionState) (is_stopped : Bool) → AnswersBegin set old request (if is_stopped then answers.Stopped else answers.Memory) old
unasked set request old true = record { told = sym (same_session (record old { told = old.told ++ [] }) old refl (append-nil old.told)); above = tt; fits = tt; range = tt }
unasked set request old false = record { told = sym (same_session (record old { told = old.told ++ [] }) old refl (append-nil old.told)); above = tt; fits = tt; range = tt }

pub unasked_all : (set : Set) (requests : List Request) (old : SessionState) (is_stopped : Bool) →
    AnswersBeginAll set old requests (unanswered is_stopped (length requests)) old
unasked_all set [] old is_stopped = refl
unasked_all set (request ∷ requests) old is_stopped = (old, unasked set request old is_stopped, unasked_all set requests old is_stopped)

-- ---- all that was asked

pub run_answered : (set : Set) (server : ℕ) (old new : SessionState) (requests : List Request) (given before after : List Answer) → BeginAt set server requests →
    length given ≡ length requests → AreFit set server (greatest_told old.told) requests given →
    new ≡ record old { told = old.told ++ told_by_all server requests given } → after ≡ before ++ given → BeginsLeading set old requests [] before after new
run_answered set server old new requests given before after home same fit told pushed = record {
  leading = requests;
  answers = given;
  split = sym (append-nil requests);
  given_is = pushed;
  begins = fit_begin_all set server old new requests given home same fit told;
}

pub run_unanswered : (set : Set) (old new : SessionState) (requests : List Request) (is_stopped : Bool) (count : ℕ) (before after : List Answer) →
    new ≡ old → count ≡ length requests → after ≡ before ++ unanswered is_stopped count → BeginsLeading set old requests [] before after new
run_unanswered set old new requests is_stopped count before after same many pushed = record {
  leading = requests;
  answers = unanswered is_stopped (length requests);
  split = sym (append-nil requests);
  given_is = pushed ∙ ap (λ (n : ℕ). before ++ unanswered is_stopped n) many;
  begins = subst (λ (s : SessionState). AnswersBeginAll set old requests (unanswered is_stopped (length requests)) s) (sym same) (unasked_all set requests old is_stopped);
}

-- behind requests of one server lie others
pub leads_then : (set : Set) (old new : SessionState) (leading requests rest : List Request) (before after : List Answer) →
    requests ≡ leading ++ rest → BeginsLeading set old leading [] before after new → BeginsLeading set old requests rest before after new
leads_then set old new leading requests rest before after split begins = record {
  leading = leading;
  answers = begins.answers;
  split = split;
  given_is = begins.given_is;
  begins = subst (λ (rs : List Request). AnswersBeginAll set old rs begins.answers new) (sym (begins.split ∙ append-nil begins.leading)) begins.begins;
}

-- ---- a list of answers that is noted one by one

pub noted_next : (server : ℕ) (told more all : List ToldItem) (requests requests_left : List Request) (given given_left : List Answer) (request : Request) (answer : Answer) →
    told ++ told_by_all server requests given ≡ all → requests ≡ request ∷ requests_left → given ≡ answer ∷ given_left → more ≡ told ++ told_by server request answer →
    more ++ told_by_all server requests_left given_left ≡ all
noted_next server told more all requests requests_left given given_left request answer so_far request_is answer_is pushed =
    let one = told_by server request answer in
    let left = told_by_all server requests_left given_left in
    ap (λ (start : List ToldItem). start ++ left) pushed ∙ append_assoc told one left
    ∙ ap (λ (rs : List Request). told ++ told_by_all server rs (answer ∷ given_left)) (sym request_is)
    ∙ ap (λ (gs : List Answer). told ++ told_by_all server requests gs) (sym answer_is) ∙ so_far

pub noted_all : (server : ℕ) (told all : List ToldItem) (requests : List Request) (given : List Answer) →
    told ++ told_by_all server requests given ≡ all → requests ≡ [] → given ≡ [] → told ≡ all
noted_all server told all requests given so_far no_request no_answer =
    sym (append-nil told) ∙ ap (λ (rs : List Request). told ++ told_by_all server rs []) (sym no_request)
    ∙ ap (λ (gs : List Answer). told ++ told_by_all server requests gs) (sym no_answer) ∙ so_far

pub seen_one : (seen more all : ℕ) (given left : List Answer) (answer : Answer) →
    seen_after seen given ≡ all → given ≡ answer ∷ left → more ≡ max seen (stamp_answered answer) → seen_after more left ≡ all
seen_one seen more all given left answer so_far is raised =
    ap (λ (n : ℕ). seen_after n left) raised ∙ ap (seen_after seen) (sym is) ∙ so_far

pub given_one : (before more all given left : List Answer) (answer : Answer) →
    before ++ given ≡ all → given ≡ answer ∷ left → more ≡ before ++ answer ∷ [] → more ++ left ≡ all
given_one before more all given left answer so_far is pushed =
    ap (λ (start : List Answer). start ++ left) pushed ∙ append_assoc before (answer ∷ []) left ∙ ap (λ (gs : List Answer). before ++ gs) (sym is) ∙ so_far

pub given_all : (before all given : List Answer) → before ++ given ≡ all → given ≡ [] → before ≡ all
given_all before all given so_far none = sym (append-nil before) ∙ ap (λ (gs : List Answer). before ++ gs) (sym none) ∙ so_far

unanswered_suc : (is_stopped : Bool) (count : ℕ) →
    unanswered is_stopped count ++ (if is_stopped then answers.Stopped else answers.Memory) ∷ [] ≡ unanswered is_stopped (suc count)
unanswered_suc is_stopped zero = refl
unanswered_suc is_stopped (suc count) =
    ap (λ (gs : List Answer). (if is_stopped then answers.Stopped else answers.Memory) ∷ gs) (unanswered_suc is_stopped count)

pub unanswered_next : (is_stopped : Bool) (count : ℕ) (before given : List Answer) (answer : Answer) → answer ≡ (if is_stopped then answers.Stopped else answers.Memory) →
    given ≡ before ++ unanswered is_stopped count → given ++ answer ∷ [] ≡ before ++ unanswered is_stopped (count + 1)
unanswered_next is_stopped count before given answer is so_far =
    let more : suc count ≡ count + 1 = omega arith in
    ap (λ (gs : List Answer). gs ++ answer ∷ []) so_far ∙ append_assoc before (unanswered is_stopped count) (answer ∷ [])
    ∙ ap (λ (a : Answer). before ++ (unanswered is_stopped count ++ a ∷ [])) is
    ∙ ap (λ (gs : List Answer). before ++ gs) (unanswered_suc is_stopped count)
    ∙ ap (λ (n : ℕ). before ++ unanswered is_stopped n) more

-- ---- what `==` says of requests

requests_decide : (left right : Request) →
    Decides ((left.client == right.client) && ((left.number == right.number) && ((left.program == right.program) && pointwise nat_eq left.args right.args))) (left ≡ right)
requests_decide left right =
    let alike = Decides-and _ _ (Decides-eqb left.client right.client) (Decides-and _ _ (Decides-eqb left.number right.number)
    (Decides-and _ _ (Decides-eqb left.program right.program) (pointwise_decides Decides-eqb left.args right.args))) in (
      (λ yes. let is = alike.0 yes in λ i. record { client = is.0 i; number = is.1.0 i; program = is.1.1.0 i; args = is.1.1.1 i }),
      (λ same. alike.1 (ap (λ (r : Request). r.client) same, (ap (λ (r : Request). r.number) same, (ap (λ (r : Request). r.program) same, ap (λ (r : Request). r.args) same)))),
    )

pub same_requests : (left right : List Request) → pointwise (λ (a b : Request). (a.client == b.client) && ((a.number == b.number) && ((a.program == b.program) && pointwise nat_eq a.args b.args))) left right ≡ true →
    left ≡ right
same_requests left right alike = (pointwise_decides requests_decide left right).0 alike

pub not_false : (b : Bool) → false ≡ not b → b ≡ true
not_false true is = refl
not_false false is = cc

-- ---- requests of one server

pub begin_next : (set : Set) (server : ℕ) (requests : List Request) (request : Request) → BeginAt set server requests → home_of set request ≡ server →
    BeginAt set server (requests ++ request ∷ [])
begin_next set server [] request all home = (home, tt)
begin_next set server (r ∷ requests) request all home = (all.0, begin_next set server requests request all.1 home)
