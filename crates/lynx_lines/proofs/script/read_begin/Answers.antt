use Rattle.std.proofs.lemmas.Result.{err_from_is_err_and}
use Rattle.lynx_lines.proofs.EventLemmas.{fourth}
use Rattle.lynx_lines.proofs.SpelledLemmas.{fails_so, read_err}
use Rattle.lynx_lines.proofs.script.read_begin.Goals as goal

pub returns-in_err-program : goal.returns-in_err-program
returns-in_err-program c =
    let p = err_from_is_err_and c.from_residual-in_err-program.result c.from_residual-in_err-program.ensures.1 in
    rw (p.1, p.2) (fails_so c.in_err-program.field-0.0 _ _ (λ none begin fits is. none begin.1.program fits.program (fourth c.args.words.now _ _ _ _ _ _ is)) (read_err _ _ _ _ _ c.in_err-program.ensures c.read_program.ensures))
