use Rattle.std.proofs.Common.{◌∙◌, sym, ap}
use Rattle.lynx_lex.specs.Lines.{only_if}
use Rattle.lynx_text.specs.Pieces.{ends}
use Rattle.lynx_text.proofs.PieceLaws.{ends_is}
use Rattle.lynx_text.proofs.lines.Lines.end.Goals as goal

pub returns : goal.returns
returns c =
    rw c.new.ensures (ap (λ b. only_if {X = Unit {0}} b tt) (ap ends (sym c.self.view_is) ∙ ends_is c.self.inside.rest.now ∙ sym c.is_empty.ensures ∙ c.if-is_empty.false))
