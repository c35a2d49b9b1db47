use Rattle.std.proofs.Common.{◌++◌, sym, ap, ◌∙◌, append_assoc}
use Rattle.std.specs.List.{flat_map, range_with_len}
use Rattle.lynx_graph.proofs.Lists.{flat_map-range_more}
use Rattle.lynx_reasons.specs.Never.{never_text}
use Rattle.lynx_reasons.proofs.never.put_never_lines.Goals as goal

pub loop-number-preserved : goal.loop-number-preserved
loop-number-preserved c =
    let text = never_text c.args.set.now in
    let number = c.loop-number.number in
    let before = c.args.out.now.items in
    c.in_ok-put_never.ensures
    ∙ ap (λ p. c.loop-number.out.items ++ text p) c.program_of.ensures
    ∙ ap (λ written. written ++ text number) c.loop-number.invariant
    ∙ append_assoc before (flat_map text (range_with_len 0 number)) (text number)
    ∙ ap (λ later. before ++ later) (sym (flat_map-range_more text number))
