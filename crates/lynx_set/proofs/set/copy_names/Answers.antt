use Rattle.std.proofs.Common.{◌∙◌, ap, subst, sym, take}
use Rattle.indexmap.specs.IndexSet.{insert_key}
use Rattle.std.specs.List.{IsDistinct}
use Rattle.lynx_set.proofs.Same.{same_name, insert_key-next}
use Rattle.lynx_set.proofs.set.copy_names.Goals as goal

pub loop-name-preserved : goal.loop-name-preserved
loop-name-preserved c =
    let names = c.as_slice-name-items.result.now in
    c.in_ok-insert.ensures.keys
    ∙ ap (λ keys. insert_key same_name keys c.name-item.result) c.loop-name.invariant
    ∙ ap (insert_key same_name (take c.loop-name.name-index names)) c.name-item.is
    ∙ insert_key-next names c.loop-name.name-index c.name-item.result c.loop-name-test.true (subst (IsDistinct same_name) (sym c.as_slice-name-items.ensures.keys) c.as_slice-name-items.ensures.unique)
