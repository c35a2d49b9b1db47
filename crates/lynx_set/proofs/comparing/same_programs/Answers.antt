use Rattle.std.proofs.Common.{◌∙◌, sym}
use Rattle.std.specs.Cmp.Lexicographic.{pointwise_decides}
use Rattle.lynx_set.proofs.Alike.{same_entries}
use Rattle.lynx_set.proofs.comparing.same_programs.Goals as goal

pub returns : goal.returns
returns c =
    let decides = pointwise_decides same_entries c.as_slice.result c.as_slice-2.result in (
      λ same. sym c.as_slice.ensures.entries ∙ decides.0 (sym c.eq.ensures ∙ same) ∙ c.as_slice-2.ensures.entries,
      λ is. c.eq.ensures ∙ decides.1 (c.as_slice.ensures.entries ∙ is ∙ sym c.as_slice-2.ensures.entries),
    )
