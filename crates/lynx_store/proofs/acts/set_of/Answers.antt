use Rattle.std.proofs.Common.{◌≡◌, ap, ◌∙◌, subst}
use Rattle.std.specs.BTreeSet.{IsFromIterResult}
use Rattle.std.specs.Vec.Iter.{into_iter_items}
use Rattle.lynx_store.specs.Acts.{hop_cmp}
use Rattle.lynx_store.proofs.acts.set_of.Goals as goal

pub returns : goal.returns
returns c =
    let p = c.in_ok-collect.ensures.runs tt in
    let are = c.into_iter.ensures.runs p.0 p.0.seen in
    let items : p.0.items ≡ c.args.keys.items = are.4 p.2 ∙ ap into_iter_items p.1 ∙ c.into_iter.ensures.rest in
    subst (λ keys. IsFromIterResult hop_cmp keys c.in_ok-collect.field-0) items p.3
