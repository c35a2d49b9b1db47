use Rattle.std.proofs.Common.{arith, sym, ◌∙◌, refl}
use Rattle.std.proofs.lemmas.Result.{err_from_is_err_and}
use Rattle.lynx_port.proofs.TalkLemmas.{answered_more, none_of}
use Rattle.lynx_port.proofs.StopLemmas.{stopped_join, stopped_next}
use Rattle.lynx_port.proofs.TogetherLemmas.{answered_on, goes_on_left}
use Rattle.lynx_port.proofs.answering.answer_all.Goals as goal

pub returns-in_err-frame-clause-fault : goal.returns-in_err-frame-clause-fault
returns-in_err-frame-clause-fault g c =
    let p = err_from_is_err_and c.from_residual.result c.from_residual.ensures.1 in
    rw (p.1, p.2) (stopped_join g.D.Desk.begins g.D.Desk.looks _ _ _ _ _ _ _ _ _ _ _ _ c.loop-frame.invariant.answered c.in_err-frame.ensures.fault)

pub returns-in_err-answer_frame-clause-fault : goal.returns-in_err-answer_frame-clause-fault
returns-in_err-answer_frame-clause-fault g c =
    let p = err_from_is_err_and c.from_residual-in_err-answer_frame.result c.from_residual-in_err-answer_frame.ensures.1 in
    let goes_on = rw c.in-Some.is at c.in_ok-frame.ensures.answered in
    rw (p.1, p.2) (stopped_next g.D.Desk.begins g.D.Desk.looks _ _ _ _ _ _ _ _ _ _ _ c.in-Some.frame _
    (answered_on _ _ _ _ _ _ _ _ _ _ _ _ _ _ c.loop-frame.invariant.answered goes_on) refl c.in_err-answer_frame.ensures.fault)

pub returns-then-is_some-clause-room : goal.returns-then-is_some-clause-room
returns-then-is_some-clause-room g c =
    let left = goes_on_left _ _ _ _ _ _ _ _ _ _ (rw c.in-Some.is at c.in_ok-frame.ensures.answered) in
    omega (arith, c.loop-frame.invariant.room, left.0)

pub returns-then-is_some-clause-answered : goal.returns-then-is_some-clause-answered
returns-then-is_some-clause-answered g c =
    let goes_on = rw c.in-Some.is at c.in_ok-frame.ensures.answered in
    rw c.ended_by-ended.ensures
    (answered_more _ _ _ _ _ _ _ _ _ _ _ _ c.in-Some.frame (answered_on _ _ _ _ _ _ _ _ _ _ _ _ _ _ c.loop-frame.invariant.answered goes_on) refl goes_on.is_item c.in_ok-answer_frame.ensures.answered)

pub loop-frame-smaller : goal.loop-frame-smaller
loop-frame-smaller g c =
    let left = goes_on_left _ _ _ _ _ _ _ _ _ _ (rw c.in-Some.is at c.in_ok-frame.ensures.answered) in
    omega (arith, left.1)

pub loop-frame-preserved : goal.loop-frame-preserved
loop-frame-preserved g c =
    let goes_on = rw c.in-Some.is at c.in_ok-frame.ensures.answered in
    let left = goes_on_left _ _ _ _ _ _ _ _ _ _ goes_on in
    let none = none_of c.ended_by-ended.result (sym c.is_some.ensures ∙ c.if-is_some.false) in
    record {
      answered = rw (← none, c.ended_by-ended.ensures)
          (answered_more _ _ _ _ _ _ _ _ _ _ _ _ c.in-Some.frame (answered_on _ _ _ _ _ _ _ _ _ _ _ _ _ _ c.loop-frame.invariant.answered goes_on) refl goes_on.is_item c.in_ok-answer_frame.ensures.answered);
      turns = omega arith;
      room = omega (arith, c.loop-frame.invariant.room, left.0);
    }

pub returns-clause-answered : goal.returns-clause-answered
returns-clause-answered g c =
    answered_on _ _ _ _ _ _ _ _ _ _ _ _ _ _ c.loop-frame.invariant.answered (rw c.in_default.is at c.in_ok-frame.ensures.answered)
