use Rattle.std.proofs.Common.{ap, ◌∙◌}
use Rattle.std.proofs.lemmas.Bool.Decides.{Decides-at}
use Rattle.lynx_graph.specs.inner.Tests.{offends}
use Rattle.lynx_graph.proofs.Decides.{Decides-offends}
use Rattle.lynx_graph.proofs.holds.walk_holds.Goals as goal

pub returns : goal.returns
returns c = Decides-at _ _ (c.offends.ensures ∙ ap (offends c.args.set.now) c.as_slice.ensures) (Decides-offends c.args.set.now c.args.walk.now)
