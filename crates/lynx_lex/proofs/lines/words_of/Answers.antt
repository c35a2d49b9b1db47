use Rattle.std.proofs.Common.{◌≡◌, ◌∙◌, ap, subst, List, ℕ, Option, Result, Ok, Err}
use Rattle.std.specs.Prelude.{IfOk}
use Rattle.std.specs.Borrow.{Bor}
use Rattle.std.specs.Global.{Vec}
use Rattle.lynx_lex.specs.declared.fault.FaultKind.{FaultKind}
use Rattle.lynx_lex.specs.Gives.{Gives}
use Rattle.lynx_lex.specs.Lines.{AreWords, texts, words_in, joined}
use Rattle.lynx_lex.proofs.LineLaws.{words_take, words_again}
use Rattle.lynx_lex.proofs.lines.words_of.Goals as goal

found : (line : List ℕ) (r : Result (Vec (Bor (List ℕ))) FaultKind) → Gives (λ words. texts words.items) r (words_in line) → IfOk r (λ words. AreWords (texts words.items) × (line ≡ joined (texts words.items)))
found line (Ok words) given = words_take line (texts words.items) given
found line (Err kind) given = tt

pub returns-clause-found : goal.returns-clause-found
returns-clause-found c = found c.args.line.now c.split_words.result c.split_words.ensures

pub returns-clause-only : goal.returns-clause-only
returns-clause-only c = λ words are spelled. subst (λ (read : Option (List (List ℕ))). Gives (λ w. texts w.items) c.split_words.result read) (ap words_in spelled ∙ words_again words are) c.split_words.ensures
