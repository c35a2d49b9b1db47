use Rattle.std.proofs.Common.{◌≡◌, ◌-◌, [], length, drop, ap, sym, ◌∙◌, arith}
use Rattle.std.proofs.lemmas.List.{drop-drop, get_or_past, length-drop}
use Rattle.std.specs.List.{slice_split}
use Rattle.lynx_lex.specs.Lines.{is_feed}
use Rattle.lynx_hints.proofs.line.line_at.Goals as goal

pub returns-in-None : goal.returns-in-None
returns-in-None c =
    let pieces = slice_split is_feed c.args.text.now in
    let one : length (drop c.loop-passed._passed pieces) ≡ 1 = ap length (c.loop-passed.invariant ∙ c.in-None.ensures.last) in
    sym (get_or_past pieces (c.args.number - 1) [] (omega (arith, one, length-drop c.loop-passed._passed pieces, c.loop-passed-test.true, c.saturating_sub-passed-end.ensures)))

pub loop-passed-preserved : goal.loop-passed-preserved
loop-passed-preserved c =
    let pieces = slice_split is_feed c.args.text.now in
    sym (drop-drop 1 c.loop-passed._passed pieces) ∙ ap (drop 1) (c.loop-passed.invariant ∙ c.in-Some.ensures.more)
