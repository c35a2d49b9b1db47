-- Two answers to one request that one entry bears out tell the same.
use Rattle.std.proofs.Common.{◌≡◌, ◌∙◌, ℕ, ◌&&◌, Bool, true, false, not, nat_eq, if◌then◌else◌, List, Some, None, inl, inr, ◌⊎◌, refl, sym, ap}
use Rattle.std.specs.Cmp.Lexicographic.{pointwise, same_text}
use Rattle.std.proofs.lemmas.Bool.{eqb-true}
use Rattle.lynx_names.specs.declared.chain.ChainId.{ChainId}
use Rattle.lynx_entry.specs.declared.answer.Answer.{Answer}
use Rattle.lynx_entry.specs.declared.answer.Answer.TheVariants.{Begun as BegunAnswer, Refused as RefusedAnswer, Clash, UnknownProgram, WrongOrigin, ArgCount, OutsideRange, WrongShard, Full, Busy, Stopped, Memory}
use Rattle.lynx_entry.specs.declared.entry.Entry.{Entry}
use Rattle.lynx_entry.specs.declared.entry.Entry.TheVariants.{Begun, Refused, Hop}
use Rattle.lynx_entry.specs.declared.request.Request.{Request}
use Rattle.lynx_rules.specs.Answers.{recorded_answer, same_call}
use Rattle.lynx_turn.specs.Held.{same_chain}
use Rattle.lynx_world.proofs.Once.{both, same_name}
use Rattle.lynx_world.proofs.Tests.{and-true}
use Rattle.lynx_weave.specs.Told.{bears_answer, is_other_call, same_request}
use Rattle.lynx_promises.specs.Requests.{answer_again}

-- ---- what one entry bears out

-- the same request is the same call
same_called : (own request : Request) → same_request own request ≡ true → same_call own request ≡ true
same_called own request is =
    let args = both _ (pointwise nat_eq own.args request.args) is in
    let program = both (nat_eq own.client request.client && nat_eq own.number request.number) (nat_eq own.program request.program) args.0 in
    and-true _ _ program.1 args.1

other_called : (own request : Request) → is_other_call own request ≡ true → same_call own request ≡ false
other_called own request is = by (same_call own request) (both (nat_eq own.client request.client && nat_eq own.number request.number) _ is).1
  where
    by : (b : Bool) → not b ≡ true → b ≡ false
    by true never = cc
    by false is_not = refl

-- by an entry that bears an answer out the request is answered the same again, or the answer is a clash and stays one
abbrev Borne : Request → Answer → Entry → Type 0
Borne request given entry = (answer_again given ≡ Some (recorded_answer entry request)) ⊎ ((given ≡ Clash) × (recorded_answer entry request ≡ Clash))

begun_same : (own request : Request) (named chain : ChainId) (own_stamp stamp : ℕ) (own_results results : List ℕ) → same_request own request ≡ true → same_chain named chain ≡ true →
    nat_eq own_stamp stamp ≡ true → pointwise nat_eq own_results results ≡ true →
    Some (BegunAnswer chain stamp results true) ≡ Some (if same_call own request then BegunAnswer named own_stamp own_results true else Clash)
begun_same own request named chain own_stamp stamp own_results results called chains stamps values =
    let chain_is : named ≡ chain = same_name named chain chains in
    let stamp_is : own_stamp ≡ stamp = eqb-true _ _ stamps in
    let results_are : own_results ≡ results = same_text own_results results (sym values) in
    let same : Some (BegunAnswer named own_stamp own_results true) ≡ Some (BegunAnswer chain stamp results true) =
    λ i. Some (BegunAnswer (chain_is i) (stamp_is i) (results_are i) true) in
    sym (ap (λ b. Some (if b then BegunAnswer named own_stamp own_results true else Clash)) (same_called own request called) ∙ same)

refused_same : (own request : Request) (own_need need own_stamp stamp : ℕ) → same_request own request ≡ true → nat_eq own_need need ≡ true → nat_eq own_stamp stamp ≡ true →
    Some (RefusedAnswer need stamp true) ≡ Some (if same_call own request then RefusedAnswer own_need own_stamp true else Clash)
refused_same own request own_need need own_stamp stamp called needs stamps =
    let need_is : own_need ≡ need = eqb-true _ _ needs in
    let stamp_is : own_stamp ≡ stamp = eqb-true _ _ stamps in
    let same : Some (RefusedAnswer own_need own_stamp true) ≡ Some (RefusedAnswer need stamp true) = λ i. Some (RefusedAnswer (need_is i) (stamp_is i) true) in
    sym (ap (λ b. Some (if b then RefusedAnswer own_need own_stamp true else Clash)) (same_called own request called) ∙ same)

borne : (request : Request) (given : Answer) (entry : Entry) → bears_answer request given entry ≡ true → Borne request given entry
borne request (BegunAnswer chain stamp results again) (Begun begun) is =
    let third = both _ (pointwise nat_eq begun.results results) is in
    let second = both (same_request begun.request request && same_chain begun.chain chain) (nat_eq begun.stamp stamp) third.0 in
    let first = both (same_request begun.request request) (same_chain begun.chain chain) second.0 in
    inl (begun_same begun.request request begun.chain chain begun.stamp stamp begun.results results first.0 first.1 second.1 third.1)
borne request (BegunAnswer chain stamp results again) (Refused refused) is = cc
borne request (BegunAnswer chain stamp results again) (Hop ran) is = cc
borne request (RefusedAnswer need stamp again) (Begun begun) is = cc
borne request (RefusedAnswer need stamp again) (Refused refused) is =
    let second = both (same_request refused.request request && nat_eq refused.need need) (nat_eq refused.stamp stamp) is in
    let first = both (same_request refused.request request) (nat_eq refused.need need) second.0 in
    inl (refused_same refused.request request refused.need need refused.stamp stamp first.0 first.1 second.1)
borne request (RefusedAnswer need stamp again) (Hop ran) is = cc
borne request Clash (Begun begun) is =
    inr (refl, ap (λ b. if b then BegunAnswer begun.chain begun.stamp begun.results true else Clash) (other_called begun.request request is))
borne request Clash (Refused refused) is =
    inr (refl, ap (λ b. if b then RefusedAnswer refused.need refused.stamp true else Clash) (other_called refused.request request is))
borne request Clash (Hop ran) is = cc
borne request UnknownProgram entry is = cc
borne request WrongOrigin entry is = cc
borne request ArgCount entry is = cc
borne request OutsideRange entry is = cc
borne request WrongShard entry is = cc
borne request Full entry is = cc
borne request Busy entry is = cc
borne request Stopped entry is = cc
borne request Memory entry is = cc

never_clash : (given : Answer) → answer_again given ≡ Some Clash → ⊥
never_clash (BegunAnswer chain stamp results again) is = cc
never_clash (RefusedAnswer need stamp again) is = cc
never_clash Clash is = cc
never_clash UnknownProgram is = cc
never_clash WrongOrigin is = cc
never_clash ArgCount is = cc
never_clash OutsideRange is = cc
never_clash WrongShard is = cc
never_clash Full is = cc
never_clash Busy is = cc
never_clash Stopped is = cc
never_clash Memory is = cc

-- two answers that one entry bears out
pub same_borne : (request : Request) (one other again : Answer) (entry : Entry) → bears_answer request one entry ≡ true → bears_answer request other entry ≡ true →
    answer_again one ≡ Some again → answer_again other ≡ Some again
same_borne request one other again entry first second is = elim (borne request one entry first) [
  | inl told ↦ elim (borne request other entry second) [
    | inl too ↦ too ∙ sym told ∙ is
    | inr clash ↦ absurd (never_clash one (told ∙ ap Some clash.1))
  ]
  | inr clash ↦ let none : answer_again one ≡ None = ap answer_again clash.0 in absurd (apart none)
]
  where
    apart : answer_again one ≡ None → ⊥
    apart none = let never : None ≡ Some again = sym none ∙ is in cc
