use Rattle.std.proofs.Common.{◌≡◌, ◌+◌, ◌<◌, ◌≤◌, length, ap, sym, ◌∙◌, arith}
use Rattle.lynx_lex.specs.Lines.{texts}
use Rattle.lynx_text.specs.Ranges.{next_parameter, range_line}
use Rattle.lynx_text.proofs.Ranges.{IsRange, next_parameter-push, range_take}
use Rattle.lynx_text.proofs.reading.add_range.Goals as goal
use Rattle.lynx_text.proofs.reading.add_range.Goals.{After-drop-words-2}

read : (c : After-drop-words-2) → IsRange c.args.program.now.names (next_parameter c.args.program.now.ranges) c.in_ok-range.range (texts c.in_ok-words.words.items)
read c =
    let names = c.args.program.now.names in
    let ranges = c.args.program.now.ranges in
    range_take names (next_parameter ranges) (texts c.in_ok-words.words.items) c.in_ok-range.range
    (ap (λ words. range_line names (next_parameter ranges) (texts words)) (sym c.deref.ensures.value)
    ∙ ap (λ known. range_line names (next_parameter known) (texts c.deref.result.now)) (sym c.as_slice-2.ensures)
    ∙ ap (λ known. range_line known (next_parameter c.as_slice-2.result.now) (texts c.deref.result.now)) (sym c.as_slice.ensures)
    ∙ c.in_ok-range.ensures.value)

next : (c : After-drop-words-2) → next_parameter c.push.new.self ≡ c.in_ok-range.range.parameter + 1
next c = ap next_parameter c.in_ok-push.ensures.ok ∙ next_parameter-push c.args.program.now.ranges c.in_ok-range.range

pub returns-clause-behind : goal.returns-clause-behind
returns-clause-behind c = omega (arith, next c, (read c).behind)

pub returns-clause-within : goal.returns-clause-within
returns-clause-within c = omega (arith, next c, (read c).within)
