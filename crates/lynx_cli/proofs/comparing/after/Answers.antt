use Rattle.std.proofs.lemmas.Bool.Decides.{Decides-eqb}
use Rattle.std.proofs.lemmas.Slice.Eq.{strip_prefix_is}
use Rattle.lynx_notice.proofs.Cutting.{found_of}
use Rattle.lynx_cli.proofs.comparing.after.Goals as goal

pub returns : goal.returns
returns c =
    found_of c.args.text.now c.args.words.now c.strip_prefix.result
    (strip_prefix_is Decides-eqb c.args.text.now c.args.words.now c.strip_prefix.result c.strip_prefix.ensures.cases)
