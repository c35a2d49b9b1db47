use Rattle.std.proofs.lemmas.Result.{err_from_is_err_and}
use Rattle.lynx_lines.proofs.SpelledLemmas.{fails_so, read_err, spelled_at}
use Rattle.lynx_lines.proofs.script.read_numbers.Goals as goal

pub returns-in_err-number : goal.returns-in_err-number
returns-in_err-number c =
    let p = err_from_is_err_and c.from_residual.result c.from_residual.ensures.1 in
    rw (p.1, p.2) (fails_so c.in_err-number.field-0.0 _ _ (λ none numbers fit are. let at = spelled_at c.args.words.now numbers c.loop-word.word-index _ are fit c.loop-word-test.true in none at.0 at.1 at.2) (read_err _ _ _ _ _ c.in_err-number.ensures c.read_number.ensures))
