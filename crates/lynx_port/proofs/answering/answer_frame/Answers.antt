use Rattle.std.proofs.lemmas.Result.{err_from_is_err_and}
use Rattle.lynx_port.proofs.StopLemmas.{stopped_refused, if_cut}
use Rattle.lynx_port.proofs.answering.answer_frame.Goals as goal

pub returns-in_err-encoding-clause-fault : goal.returns-in_err-encoding-clause-fault
returns-in_err-encoding-clause-fault g c =
    let p = err_from_is_err_and c.from_residual.result c.from_residual.ensures.1 in
    rw (p.1, p.2) (stopped_refused g.D.Desk.begins g.D.Desk.looks _ _ _ _ _ c.requires c.in_err-encoding.ensures.fault)

pub returns-clause-fault : goal.returns-clause-fault
returns-clause-fault g c =
    if_cut g.D.Desk.begins g.D.Desk.looks _ _ _ _ _ _ c.write_encoding.result c.requires (rw c.as_slice.ensures.value c.in_ok-encoding.ensures.encoding) c.write_encoding.ensures.part
