use Rattle.std.proofs.lemmas.Bool.Decides.{Decides-eqb}
use Rattle.std.proofs.lemmas.Slice.Eq.{strip_prefix_is}
use Rattle.lynx_status.proofs.Cutting.{found_of, none_of}
use Rattle.lynx_status.proofs.paths.after.Goals as goal

pub returns-clause-found : goal.returns-clause-found
returns-clause-found c =
    found_of c.args.text.now c.args.words.now c.strip_prefix.result
    (strip_prefix_is Decides-eqb c.args.text.now c.args.words.now c.strip_prefix.result c.strip_prefix.ensures.cases)

pub returns-clause-none : goal.returns-clause-none
returns-clause-none c =
    none_of c.args.text.now c.args.words.now c.strip_prefix.result
    (strip_prefix_is Decides-eqb c.args.text.now c.args.words.now c.strip_prefix.result c.strip_prefix.ensures.cases)
