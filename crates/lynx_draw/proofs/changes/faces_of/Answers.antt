use Rattle.std.proofs.Common.{◌+◌, ◌++◌, ◌∷◌, [], drop, ap, sym, ◌∙◌, append_assoc, arith}
use Rattle.std.proofs.lemmas.List.{at_drop_more}
use Rattle.lynx_text.proofs.Texts.{bound_in-le}
use Rattle.lynx_draw.specs.Changes.{face_of, faces_from}
use Rattle.lynx_draw.specs.declared.changes.Face.{Face}
use Rattle.lynx_draw.proofs.changes.faces_of.Goals as goal

pub loop-hop-preserved : goal.loop-hop-preserved
loop-hop-preserved c =
    let tables = c.as_slice-tables.result.now in
    let names = c.as_slice-names.result.now in
    let hops = c.as_slice-hops.result.now in
    let index = c.loop-hop.hop-index in
    let place = c.loop-hop.place in
    let hop = c.hop-item.result in
    let before = c.loop-hop.faces in
    let rest = faces_from tables names c.in_ok-face.next (drop (index + 1) hops) in
    record {
      read =
          ap (λ faces. faces ++ rest) c.in_ok-push.ensures.ok
          ∙ append_assoc before (c.in_ok-face.face ∷ []) rest
          ∙ ap (λ (face : Face). before ++ face ∷ rest) c.in_ok-face.ensures.face
          ∙ ap (λ next. before ++ face_of tables names place hop ∷ faces_from tables names next (drop (index + 1) hops)) c.in_ok-face.ensures.next
          ∙ ap (λ first. before ++ faces_from tables names place (first ∷ drop (index + 1) hops)) c.hop-item.is
          ∙ sym (at_drop_more (λ left. before ++ faces_from tables names place left) hops index hop c.loop-hop-test.true)
          ∙ c.loop-hop.invariant.read;
      few = omega (arith, bound_in-le hop.actions, hop.few_actions, c.in_ok-face.ensures.next, c.loop-hop.invariant.few);
    }
