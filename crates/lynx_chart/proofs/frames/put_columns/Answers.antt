use Rattle.std.proofs.Common.{◌++◌, ap, ◌∙◌, [], ◌∷◌, ℕ, List}
use Rattle.lynx_chart.specs.Spots.{top_of}
use Rattle.lynx_chart.specs.Shapes.{Column, Shape, shape_text}
use Rattle.lynx_chart.proofs.Drawn.{number_drawn, one_drawn}
use Rattle.lynx_chart.proofs.frames.put_columns.Goals as goal

pub loop-number-preserved : goal.loop-number-preserved
loop-number-preserved c =
    let number = c.loop-number.number in
    let before = c.loop-number.out.items in
    let own : ℕ → List Shape = (λ server. Column server (top_of c.args.rows) ∷ []) in
    number_drawn own number c.args.out.now.items before c.put_column.new.out.items c.loop-number.invariant
    (one_drawn before c.put_column.new.out.items (Column number (top_of c.args.rows))
    (c.in_ok-put_column.ensures ∙ ap (λ server. before ++ shape_text (Column server c.top_of-bottom.result)) c.at.ensures ∙ ap (λ bottom. before ++ shape_text (Column number bottom)) c.top_of-bottom.ensures.value))
