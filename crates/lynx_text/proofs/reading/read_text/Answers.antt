use Rattle.std.proofs.Common.{ap, sym, ◌∙◌, Err, arith}
use Rattle.lynx_text.specs.Pieces.{version_told}
use Rattle.lynx_text.proofs.PieceLaws.{version_told-text}
use Rattle.lynx_text.proofs.reading.read_text.Goals as goal

pub returns-in-Ok-clause-bad_version : goal.returns-in-Ok-clause-bad_version
returns-in-Ok-clause-bad_version c =
    (λ h. absurd h, λ none. let e = c.in-Ok.ensures.version.1 (ap version_told c.new-lines.ensures ∙ version_told-text c.args.text.now ∙ none.1) in absurd cc)

pub returns-in-Err-clause-bad_version : goal.returns-in-Err-clause-bad_version
returns-in-Err-clause-bad_version c = (
  λ is. (omega (arith, c.if-text-gt-MAX_TEXT_BYTES.false), sym (version_told-text c.args.text.now) ∙ sym (ap version_told c.new-lines.ensures) ∙ c.in-Err.ensures.version.0 (ap Err (sym c.on.ensures.kind ∙ is))),
  λ none. let e = c.in-Err.ensures.version.1 (ap version_told c.new-lines.ensures ∙ version_told-text c.args.text.now ∙ none.1) in let kind = c.on.ensures.kind in cc,
)
