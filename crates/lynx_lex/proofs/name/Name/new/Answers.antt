use Rattle.std.proofs.Common.{sym, ◌∙◌}
use Rattle.lynx_lex.proofs.Padding.{padded_word}
use Rattle.lynx_lex.proofs.name.Name.new.Goals as goal

pub invariant_of-result : goal.invariant_of-result
invariant_of-result c = padded_word c.copy_from_slice.new.self c.args.word.now c.copy_from_slice.ensures.after (sym c.is_name.ensures ∙ c.if-not-is_name.false)
