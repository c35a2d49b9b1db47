use Rattle.std.proofs.Common.{◌∙◌, ℕ, List, Bor, ap}
use Rattle.clap.specs.Words.{found_of}
use Rattle.clap.proofs.WalkLemmas.{first_value-rows}
use Rattle.lynx_args.proofs.Found.{text_or}
use Rattle.lynx_args.proofs.parser.text_at.Goals as goal

pub returns : goal.returns
returns c =
    ap (λ (own : Bor (List ℕ)). own.now) c.unwrap_or.ensures
    ∙ text_or c.get_str.result _ _ (c.get_str.ensures ∙ first_value-rows (found_of c.args.words.now) c.args.name.now)
