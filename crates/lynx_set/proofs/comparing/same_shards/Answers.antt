use Rattle.std.proofs.Common.{◌∙◌, sym}
use Rattle.std.specs.Cmp.Lexicographic.{pointwise_decides}
use Rattle.lynx_set.proofs.Alike.{same_shard_lists}
use Rattle.lynx_set.proofs.comparing.same_shards.Goals as goal

pub returns : goal.returns
returns c =
    let decides = pointwise_decides same_shard_lists c.tables.result.now c.tables-2.result.now in (
      λ same. sym c.tables.ensures.value ∙ decides.0 (sym c.eq.ensures ∙ same) ∙ c.tables-2.ensures.value,
      λ is. c.eq.ensures ∙ decides.1 (c.tables.ensures.value ∙ is ∙ sym c.tables-2.ensures.value),
    )
