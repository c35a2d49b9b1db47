use Rattle.std.proofs.Common.{[], ◌∷◌, ◌++◌, sym, ap, ◌∙◌, arith}
use Rattle.std.proofs.lemmas.List.FromFn.{map-range_with_len_more}
use Rattle.lynx_graph.specs.inner.Joining.{by_itself}
use Rattle.lynx_graph.proofs.members.alone.Goals as goal

pub loop-number-preserved : goal.loop-number-preserved
loop-number-preserved c =
    let number = c.loop-number.number in
    c.in_ok-push.ensures.items
    ∙ ap (λ p. c.loop-number.members.items ++ by_itself p ∷ []) c.program_of-program.ensures
    ∙ ap (λ members. members ++ by_itself number ∷ []) c.loop-number.invariant
    ∙ sym (map-range_with_len_more by_itself 0 number number (omega arith))
