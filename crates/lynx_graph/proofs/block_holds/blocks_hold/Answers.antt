use Rattle.std.proofs.Common.{ap, ◌∙◌}
use Rattle.std.proofs.lemmas.Bool.Decides.{Decides-at}
use Rattle.lynx_graph.specs.inner.BlockTests.{block_offends}
use Rattle.lynx_graph.proofs.DecidesBlocks.{Decides-block_offends}
use Rattle.lynx_graph.proofs.block_holds.blocks_hold.Goals as goal

pub returns : goal.returns
returns c = Decides-at _ _ (c.block_offends.ensures ∙ ap (block_offends c.args.set.now) c.as_slice.ensures) (Decides-block_offends c.args.set.now c.args.walk.now)
