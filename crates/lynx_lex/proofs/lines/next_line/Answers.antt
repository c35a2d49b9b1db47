use Rattle.std.proofs.Common.{◌+◌, ◌∷◌, take, ap, sym, ◌∙◌}
use Rattle.std.specs.List.{slice_split}
use Rattle.lynx_lex.specs.Lines.{is_feed}
use Rattle.lynx_lex.proofs.WordLaws.{split_found, split_none}
use Rattle.lynx_lex.proofs.Pieces.{slice_to_end}
use Rattle.lynx_lex.proofs.lines.next_line.Goals as goal

pub returns-in_err-end-clause-last : goal.returns-in_err-end-clause-last
returns-in_err-end-clause-last c = rw c.from_residual.ensures (split_none is_feed c.args.text.now (sym c.in_err-end.ensures.place))

pub returns-clause-more : goal.returns-clause-more
returns-clause-more c =
    split_found is_feed c.args.text.now c.in_ok-end.end (sym c.in_ok-end.ensures.place)
    ∙ ap (λ rest. take c.in_ok-end.end c.args.text.now ∷ slice_split is_feed rest) (sym (slice_to_end (c.in_ok-end.end + 1) c.args.text.now))
