use Rattle.std.proofs.Common.{◌≡◌, Some, slice_get, ap, sym, ◌∙◌}
use Rattle.std.proofs.lemmas.Option.{slice_get-get_or}
use Rattle.lynx_store.proofs.ActLemmas.{shows_at, shown_there}
use Rattle.lynx_store.proofs.acts.is_act_at.Goals as goal

pub returns : goal.returns
returns c =
    let acts = c.args.acts.now in
    let rows = c.args.rows.now in
    let row = c.index-rows-place.result in
    let there = slice_get-get_or acts c.args.place _ c.requires.act in
    let shown : slice_get rows c.args.place ≡ Some row = slice_get-get_or rows c.args.place row c.requires.row ∙ ap Some (sym c.index-rows-place.is) in (
      λ is. shows_at acts rows c.args.place _ row there shown (c.is_act_row.ensures.0 is),
      λ shows. c.is_act_row.ensures.1 (shown_there acts rows c.args.place _ row there shown shows),
    )
