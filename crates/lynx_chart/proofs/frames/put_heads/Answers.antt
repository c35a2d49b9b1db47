use Rattle.std.proofs.Common.{◌++◌, ap, ◌∙◌, [], ◌∷◌, ℕ, List}
use Rattle.lynx_chart.specs.Shapes.{Head, Shape, shape_text}
use Rattle.lynx_chart.proofs.Drawn.{number_drawn, one_drawn}
use Rattle.lynx_chart.proofs.frames.put_heads.Goals as goal

pub loop-number-preserved : goal.loop-number-preserved
loop-number-preserved c =
    let number = c.loop-number.number in
    let before = c.loop-number.out.items in
    let own : ℕ → List Shape = (λ server. Head server c.args.height ∷ []) in
    number_drawn own number c.args.out.now.items before c.put_head.new.out.items c.loop-number.invariant
    (one_drawn before c.put_head.new.out.items (Head number c.args.height)
    (c.in_ok-put_head.ensures ∙ ap (λ server. before ++ shape_text (Head server c.args.height)) c.at.ensures))
