use Rattle.std.proofs.Common.{◌≡◌, ◌∙◌, ℕ, List, Option, Some, None, ap, sym}
use Rattle.std.specs.Prelude.{IfSome, decimal}
use Rattle.lynx_lex.specs.Digits.{read_number}
use Rattle.lynx_lex.proofs.NumberLaws.{number_takes, number_again}
use Rattle.lynx_lex.proofs.number.number.Goals as goal

found : (word : List ℕ) (r : Option ℕ) → r ≡ read_number word → IfSome r (λ n. word ≡ decimal n)
found word None e = tt
found word (Some n) e = (number_takes word n (sym e)).0

pub returns-clause-found : goal.returns-clause-found
returns-clause-found c = found c.args.word.now c.read_number.result c.read_number.ensures

pub returns-clause-only : goal.returns-clause-only
returns-clause-only c = λ n fits e. c.read_number.ensures ∙ ap read_number e ∙ number_again n fits
