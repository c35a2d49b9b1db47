use Rattle.std.proofs.Common.{◌+◌, ◌++◌, ◌∷◌, ◌∙◌, ap, append_assoc, drop, sym}
use Rattle.std.proofs.lemmas.List.{at_drop_more}
use Rattle.std.specs.List.{flat_map}
use Rattle.lynx_draw.specs.Marks.{drawn_marks}
use Rattle.lynx_draw.proofs.marks.put_marks.Goals as goal

pub loop-program-preserved : goal.loop-program-preserved
loop-program-preserved c =
    let text = drawn_marks c.args.before.now c.args.set.now c.args.boxes.now c.args.edges.now in
    let programs = c.args.programs.now in
    let place = c.loop-program.program-index in
    let program = c.program-item.result in
    let rest = drop (place + 1) programs in
    let before = c.loop-program.out.items in
    ap (λ written. written ++ flat_map text rest) c.in_ok-put_drawn_marks.ensures
    ∙ append_assoc before (text program) (flat_map text rest)
    ∙ ap (λ first. before ++ flat_map text (first ∷ rest)) c.program-item.is
    ∙ sym (at_drop_more (λ left. before ++ flat_map text left) programs place program c.loop-program-test.true)
    ∙ c.loop-program.invariant
