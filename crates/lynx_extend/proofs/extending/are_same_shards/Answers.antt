use Rattle.std.proofs.Common.{◌∙◌, sym}
use Rattle.lynx_set.proofs.Alike.{same_shard_lists}
use Rattle.lynx_extend.proofs.extending.are_same_shards.Goals as goal

pub returns : goal.returns
returns c =
    let decides = same_shard_lists c.args.left.now c.args.right.now in
    (λ same. decides.0 (sym c.eq.ensures ∙ same), λ is. c.eq.ensures ∙ decides.1 is)
