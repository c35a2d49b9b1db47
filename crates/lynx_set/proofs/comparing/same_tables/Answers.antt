use Rattle.std.proofs.Common.{◌∙◌, sym}
use Rattle.std.specs.Cmp.Lexicographic.{pointwise_decides}
use Rattle.lynx_set.proofs.Alike.{same_names}
use Rattle.lynx_set.proofs.comparing.same_tables.Goals as goal

pub returns : goal.returns
returns c =
    let decides = pointwise_decides same_names c.as_slice.result.now c.as_slice-2.result.now in (
      λ same. sym c.as_slice.ensures.keys ∙ decides.0 (sym c.eq.ensures ∙ same) ∙ c.as_slice-2.ensures.keys,
      λ is. c.eq.ensures ∙ decides.1 (c.as_slice.ensures.keys ∙ is ∙ sym c.as_slice-2.ensures.keys),
    )
