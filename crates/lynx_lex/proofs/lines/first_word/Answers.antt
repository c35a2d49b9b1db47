use Rattle.std.proofs.Common.{◌+◌, ◌∷◌, take, ap, sym, ◌∙◌}
use Rattle.std.specs.List.{slice_split}
use Rattle.lynx_lex.specs.Lines.{is_space}
use Rattle.lynx_lex.proofs.WordLaws.{split_found, split_none}
use Rattle.lynx_lex.proofs.Pieces.{slice_to_end}
use Rattle.lynx_lex.proofs.lines.first_word.Goals as goal

pub returns-in-Some-clause-more : goal.returns-in-Some-clause-more
returns-in-Some-clause-more c =
    split_found is_space c.args.line.now c.in-Some.end (sym c.in-Some.ensures.place)
    ∙ ap (λ rest. take c.in-Some.end c.args.line.now ∷ slice_split is_space rest) (sym (slice_to_end (c.in-Some.end + 1) c.args.line.now))

pub returns-in-None-clause-last : goal.returns-in-None-clause-last
returns-in-None-clause-last c = split_none is_space c.args.line.now (sym c.in-None.ensures.place)
