use Rattle.std.proofs.Common.{◌≡◌, [], ◌∷◌, sym, ◌∙◌, eqb-true, arith}
use Rattle.std.proofs.lemmas.List.{nil_from_length}
use Rattle.std.proofs.lemmas.Result.{err_from_is_err_and}
use Rattle.lynx_port.proofs.TogetherLemmas.{stopped_lacking, stops_alone, writes_alone}
use Rattle.lynx_port.proofs.CutLemmas.{if_cut_together}
use Rattle.lynx_port.proofs.together.answer_together.Goals as goal

pub returns-then-is_empty-clause-answered : goal.returns-then-is_empty-clause-answered
returns-then-is_empty-clause-answered g c =
    let none : c.args.others.items ≡ [] = nil_from_length c.args.others.items (omega (arith, eqb-true _ _ (sym c.is_empty.ensures ∙ c.if-is_empty.true))) in
    writes_alone _ c.args.desk.now c.answer_frame.new.desk _ _ c.args.first c.args.others.items c.answer_frame.result c.answer_frame.ensures.answered none

pub returns-then-is_empty-clause-fault : goal.returns-then-is_empty-clause-fault
returns-then-is_empty-clause-fault g c =
    let none : c.args.others.items ≡ [] = nil_from_length c.args.others.items (omega (arith, eqb-true _ _ (sym c.is_empty.ensures ∙ c.if-is_empty.true))) in
    stops_alone g.D.Desk.begins g.D.Desk.looks c.args.desk.now c.answer_frame.new.desk _ _ c.args.first c.args.others.items c.answer_frame.result c.answer_frame.ensures.fault none

pub returns-in_err-encodings-clause-fault : goal.returns-in_err-encodings-clause-fault
returns-in_err-encodings-clause-fault g c =
    let p = err_from_is_err_and c.from_residual.result c.from_residual.ensures.1 in
    rw (p.1, p.2) (λ more. stopped_lacking g.D.Desk.begins g.D.Desk.looks _ _ _ _ c.in_err-encodings.ensures.unasked)

pub returns-clause-fault : goal.returns-clause-fault
returns-clause-fault g c =
    if_cut_together g.D.Desk.begins g.D.Desk.looks _ _ _ _ (c.args.first ∷ c.args.others.items) _ c.write_encoding.result c.requires.are_items c.requires.few (rw c.as_slice.ensures.value c.in_ok-encodings.ensures.encodings) c.write_encoding.ensures.part
