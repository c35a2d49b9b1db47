use Rattle.std.proofs.Common.{◌∙◌, sym, ap}
use Rattle.lynx_text.specs.Pieces.{next_piece}
use Rattle.lynx_text.proofs.PieceLaws.{next_piece-more}
use Rattle.lynx_text.proofs.lines.Lines.next.Goals as goal

pub returns-clause-value : goal.returns-clause-value
returns-clause-value c =
    sym (ap next_piece (sym c.self.view_is ∙ c.in_ok-line.ensures.more) ∙ next_piece-more c.in_ok-line.line.now c.in_ok-line.rest.now)
