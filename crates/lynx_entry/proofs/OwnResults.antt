-- An answer has its own results.
use Rattle.std.proofs.Common.{◌≡◌, refl}
use Rattle.lynx_entry.specs.declared.answer.Answer.{Answer}
use Rattle.lynx_entry.specs.declared.answer.Answer.TheVariants as answers
use Rattle.lynx_entry.specs.Answers.{results_of, with_results}

pub own_results : (given : Answer) → with_results given (results_of given) ≡ given
own_results (answers.Begun chain stamp results was_there) = refl
own_results given = refl
