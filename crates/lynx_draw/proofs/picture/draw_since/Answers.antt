use Rattle.std.proofs.Common.{List, ◌∙◌, ap}
use Rattle.std.specs.Prelude.{option_copied}
use Rattle.lynx_graph.specs.declared.edges.Edge.{Edge}
use Rattle.lynx_draw.specs.declared.parts.Parts.{Parts}
use Rattle.lynx_draw.specs.Parts.{parts_of}
use Rattle.lynx_draw.specs.Picture.{picture_with}
use Rattle.lynx_draw.proofs.picture.draw_since.Goals as goal

pub returns : goal.returns
returns c =
    let shown = c.args.shown in
    let before = option_copied c.args.before in
    let set = c.args.set.now in
    let verdict = c.args.verdict.now in
    let edges = c.as_slice-edges.result.now in
    let members = c.in_ok-parts.parts.boxes.members in (
      members,
      c.in_ok-parts.ensures.1,
      c.in_ok-text.ensures
          ∙ ap (λ (parts : Parts). picture_with shown before set verdict edges parts) c.in_ok-parts.ensures.0
          ∙ ap (λ (all : List Edge). picture_with shown before set verdict all (parts_of shown set verdict members)) (c.as_slice-edges.ensures.value ∙ c.in_ok-all_edges.ensures.exact),
    )
