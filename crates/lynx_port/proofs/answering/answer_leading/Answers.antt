use Rattle.std.proofs.Common.{◌∷◌, refl, arith}
use Rattle.std.proofs.lemmas.Result.{err_from_is_err_and}
use Rattle.lynx_port.proofs.TogetherLemmas.{takes_first, takes_left, goes_on_all, stopped_lacking, stopped_taken}
use Rattle.lynx_port.proofs.answering.answer_leading.Goals as goal

pub returns-in_err-other-clause-fault : goal.returns-in_err-other-clause-fault
returns-in_err-other-clause-fault g c =
    let p = err_from_is_err_and c.from_residual.result c.from_residual.ensures.1 in
    rw (p.1, p.2) (stopped_lacking g.D.Desk.begins g.D.Desk.looks _ _ _ _ refl)

pub returns-in_err-answer_together-clause-fault : goal.returns-in_err-answer_together-clause-fault
returns-in_err-answer_together-clause-fault g c =
    let p = err_from_is_err_and c.from_residual-in_err-answer_together.result c.from_residual-in_err-answer_together.ensures.1 in
    rw (p.1, p.2) (stopped_taken g.D.Desk.begins g.D.Desk.looks _ _ _ _ _ _ _ _ _
    (takes_first _ _ c.args.first c.take_requests.new.requests.items _ c.requires.item c.in_ok-other.ensures.taken) c.in_err-answer_together.ensures.fault)

pub returns-clause-answered : goal.returns-clause-answered
returns-clause-answered g c =
    goes_on_all _ _ _ _ _ _ (c.args.first ∷ c.take_requests.new.requests.items) _ _ c.args.answers.now _
    (takes_first _ _ c.args.first c.take_requests.new.requests.items _ c.requires.item c.in_ok-other.ensures.taken) c.in_ok-answer_together.ensures.answered (omega (arith, c.len.ensures))

pub returns-clause-taken : goal.returns-clause-taken
returns-clause-taken g c = takes_left _ _ _ _ c.in_ok-other.ensures.taken
