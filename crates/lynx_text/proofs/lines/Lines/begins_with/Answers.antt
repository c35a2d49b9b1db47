use Rattle.std.proofs.Common.{◌∙◌, sym, ap}
use Rattle.std.specs.Str.{bytes_eq}
use Rattle.lynx_text.specs.Pieces.{begins, until}
use Rattle.lynx_text.proofs.PieceLaws.{first_piece}
use Rattle.lynx_text.proofs.lines.Lines.begins_with.Goals as goal

pub returns : goal.returns
returns c =
    let first = first_piece 10 c.self.inside.rest.now in
    c.eq.ensures ∙ ap (λ first. bytes_eq first c.args.word.now) (c.until-2.ensures ∙ ap (λ line. until line 32) c.until.ensures)
    ∙ sym (ap (λ pieces. begins pieces c.args.word.now) (sym c.self.view_is ∙ first.1))
