use Rattle.std.proofs.Common.{◌∙◌, sym, ap}
use Rattle.lynx_text.specs.Pieces.{version_of, version_told}
use Rattle.lynx_text.proofs.PieceLaws.{first_piece}
use Rattle.lynx_text.proofs.lines.Lines.version_told.Goals as goal

pub returns : goal.returns
returns c =
    let first = first_piece 10 c.self.inside.rest.now in
    c.version_of.ensures ∙ ap version_of c.until.ensures ∙ sym (ap version_told (sym c.self.view_is ∙ first.1))
