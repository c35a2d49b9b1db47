use Rattle.std.proofs.Common.{◌+◌, ◌-◌, length, ap, ◌∙◌, arith}
use Rattle.lynx_text.proofs.Ranges.{next_parameter-last}
use Rattle.lynx_text.proofs.range_line.next_parameter.Goals as goal

pub returns-in-len1-up : goal.returns-in-len1-up
returns-in-len1-up c =
    let ranges = c.args.ranges.now in
    ap (λ n. n + 1) c.from.ensures ∙ next_parameter-last ranges (length ranges - 1) _ (omega (arith, c.in-len1-up.len_at_least))
