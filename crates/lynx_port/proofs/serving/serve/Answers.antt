use Rattle.std.proofs.Common.{arith, length, length-append, ap, refl, inl}
use Rattle.std.proofs.lemmas.Result.{err_from_is_err_and}
use Rattle.lynx_codec.specs.Front.{front}
use Rattle.lynx_port.specs.Desks.{Replies}
use Rattle.lynx_port.proofs.GoingLemmas.{going_none, going_more, going_read, going_on, fails_here, fails_there, served_to_the_end}
use Rattle.lynx_port.proofs.serving.serve.Goals as goal

pub loop-turns-init : goal.loop-turns-init
unfolding front
loop-turns-init g c = rw c.new-feed.ensures (record {
  going = going_none (Replies g.D.Desk.begins g.D.Desk.looks) _ _ _;
  is_open = refl;
  waiting = refl;
  room = omega arith;
})

pub returns-in_err-push-clause-failed : goal.returns-in_err-push-clause-failed
returns-in_err-push-clause-failed g c =
    let p = err_from_is_err_and c.from_residual.result c.from_residual.ensures.1 in
    rw (p.1, p.2) (fails_here g.D.Desk.begins g.D.Desk.looks _ _ _ _ _ _ _ _ _
    (going_more _ _ _ _ _ _ _ _ _ _ _ c.loop-turns.invariant.going c.in-Ok.ensures.bytes.0) (refl, inl refl))

pub returns-in_err-shut-clause-failed : goal.returns-in_err-shut-clause-failed
returns-in_err-shut-clause-failed g c =
    let p = err_from_is_err_and c.from_residual-in_err-shut.result c.from_residual-in_err-shut.ensures.1 in
    rw (p.1, p.2) (fails_there g.D.Desk.begins g.D.Desk.looks _ _ _ _ _ _ _ _ _ _ _
    (going_read _ _ _ _ _ _ _ _ _ _ _ _ _ c.loop-turns.invariant.going c.in-Ok.ensures.bytes.0 c.split_at.ensures.front (ap (λ stream. stream.rest) c.in_ok-push.ensures.ok)) c.in_err-shut.ensures.fault)

pub returns-in-Some-clause-served : goal.returns-in-Some-clause-served
returns-in-Some-clause-served g c =
    served_to_the_end g.D.Desk.begins g.D.Desk.looks _ _ _ _ _ _ _ _ _ _ _ _ _
    (going_read _ _ _ _ _ _ _ _ _ _ _ _ _ c.loop-turns.invariant.going c.in-Ok.ensures.bytes.0 c.split_at.ensures.front (ap (λ stream. stream.rest) c.in_ok-push.ensures.ok)) (rw c.in-Some.is at c.in_ok-shut.ensures.answered)

pub loop-turns-preserved : goal.loop-turns-preserved
loop-turns-preserved g c =
    let waits = rw c.in_default.is at c.in_ok-shut.ensures.waits in
    record {
      going =
          going_on _ _ _ _ _ _ _ _ _ _ _ _ _
          (going_read _ _ _ _ _ _ _ _ _ _ _ _ _ c.loop-turns.invariant.going c.in-Ok.ensures.bytes.0 c.split_at.ensures.front (ap (λ stream. stream.rest) c.in_ok-push.ensures.ok)) (rw c.in_default.is at c.in_ok-shut.ensures.answered);
      is_open = waits.0;
      waiting = waits.1;
      room = omega (arith, c.loop-turns.invariant.room, c.in_ok-shut.ensures.room, c.answer_all.ensures.turns, ap (λ stream. length stream.rest) c.in_ok-push.ensures.ok, length-append c.loop-turns.feed.rest c.split_at.result.0.now, c.split_at.ensures.front_len);
    }
