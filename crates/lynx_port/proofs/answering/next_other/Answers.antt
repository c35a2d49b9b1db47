use Rattle.std.proofs.Common.{arith, sym, ◌∙◌}
use Rattle.std.proofs.lemmas.Result.{err_from_is_err_and}
use Rattle.lynx_port.proofs.TalkLemmas.{none_of, frame_left}
use Rattle.lynx_port.proofs.TogetherLemmas.{goes_on_join, goes_on_still, stopped_behind}
use Rattle.lynx_port.proofs.answering.next_other.Goals as goal

pub answer_leading-requires-clause-few : goal.answer_leading-requires-clause-few
answer_leading-requires-clause-few g c =
    let given = rw (c.in-Some.is, c.in-Request.is) at c.in_ok-frame.ensures.given in
    omega (arith, c.requires.few, c.loop-frame.invariant.goes_on.room, frame_left _ _ _ given.encoding_stood)

pub returns-in_err-other-clause-fault : goal.returns-in_err-other-clause-fault
returns-in_err-other-clause-fault g c =
    let p = err_from_is_err_and c.from_residual-in_err-other.result c.from_residual-in_err-other.ensures.1 in
    let given = rw (c.in-Some.is, c.in-Request.is) at c.in_ok-frame.ensures.given in
    rw (p.1, p.2) (stopped_behind g.D.Desk.begins g.D.Desk.looks _ _ _ _ _ _ _ _ _ _ _ _ c.loop-frame.invariant.goes_on given.encoding_stood c.in_err-other.ensures.fault)

pub returns-then-is_some-clause-answered : goal.returns-then-is_some-clause-answered
returns-then-is_some-clause-answered g c =
    let given = rw (c.in-Some.is, c.in-Request.is) at c.in_ok-frame.ensures.given in
    goes_on_join _ _ _ _ _ _ _ _ _ _ _ _ _ _ _ c.loop-frame.invariant.goes_on given.encoding_stood c.in_ok-other.ensures.answered

pub loop-frame-smaller : goal.loop-frame-smaller
loop-frame-smaller g c =
    let given = rw (c.in-Some.is, c.in-Request.is) at c.in_ok-frame.ensures.given in
    omega (arith, c.in_ok-other.ensures.taken, frame_left _ _ _ given.encoding_stood)

pub loop-frame-preserved : goal.loop-frame-preserved
loop-frame-preserved g c =
    let given = rw (c.in-Some.is, c.in-Request.is) at c.in_ok-frame.ensures.given in
    let none = none_of c.in_ok-other.other (sym c.is_some.ensures ∙ c.if-is_some.false) in
    record {
      goes_on = goes_on_still _ _ _ _ _ _ _ _ _ _ (goes_on_join _ _ _ _ _ _ _ _ _ _ _ _ _ _ _ c.loop-frame.invariant.goes_on given.encoding_stood c.in_ok-other.ensures.answered) none;
      turns = omega arith;
    }
